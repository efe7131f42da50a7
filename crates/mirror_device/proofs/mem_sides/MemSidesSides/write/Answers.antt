use Rattle.image_device.proofs.Outcomes.{unless_err}
use Rattle.mirror_device.specs.Twins.{log_entries}
use Rattle.mirror_device.proofs.Calls.{loose, touches, write_counts, write_fine, write_uses, written}
use Rattle.mirror_device.proofs.mem_sides.MemSidesSides.write.Goals as goal

pub returns-clause-written : goal.returns-clause-written
returns-clause-written c =
    let m = c.args.self.now.twins in
    let kept = unless_err c.write.result c.is_err.result c.if-is_err.false c.is_err.ensures.value c.write.ensures.kept in
    written (log_entries m) m.put_faults c.args.sector kept.0 c.args.side _ _ kept.2 c.write.ensures.put_faults c.args.from.now kept.1

pub returns-clause-loose : goal.returns-clause-loose
returns-clause-loose c =
    let m = c.args.self.now.twins in
    let kept = unless_err c.write.result c.is_err.result c.if-is_err.false c.is_err.ensures.value c.write.ensures.kept in
    loose (log_entries m) m.put_faults c.args.sector kept.0 c.args.side _ _ kept.2 c.write.ensures.put_faults

pub returns-clause-counted : goal.returns-clause-counted
returns-clause-counted c =
    let m = c.args.self.now.twins in
    let kept = unless_err c.write.result c.is_err.result c.if-is_err.false c.is_err.ensures.value c.write.ensures.kept in
    write_counts (log_entries m) m.put_faults c.args.sector kept.0 c.args.side _ _ kept.2 c.write.ensures.put_faults

pub returns-clause-touches : goal.returns-clause-touches
returns-clause-touches c =
    let m = c.args.self.now.twins in
    let kept = unless_err c.write.result c.is_err.result c.if-is_err.false c.is_err.ensures.value c.write.ensures.kept in
    touches (log_entries m) m.put_faults c.args.sector kept.0 c.args.side _ _ kept.2 c.write.ensures.put_faults

pub returns-clause-uses : goal.returns-clause-uses
returns-clause-uses c =
    let m = c.args.self.now.twins in
    let kept = unless_err c.write.result c.is_err.result c.if-is_err.false c.is_err.ensures.value c.write.ensures.kept in
    write_uses (log_entries m) m.put_faults c.args.sector kept.0 c.args.side _ _ kept.2 c.write.ensures.put_faults

pub returns-clause-faults : goal.returns-clause-faults
returns-clause-faults c =
    let m = c.args.self.now.twins in
    let kept = unless_err c.write.result c.is_err.result c.if-is_err.false c.is_err.ensures.value c.write.ensures.kept in
    write_fine (log_entries m) m.put_faults c.args.sector kept.0 c.args.side _ _ kept.2 c.write.ensures.put_faults
