use Rattle.image_device.proofs.Outcomes.{unless_err}
use Rattle.mirror_device.specs.Twins.{log_entries}
use Rattle.mirror_device.proofs.Calls.{firm, settles, sync_counts, sync_fine, sync_uses}
use Rattle.mirror_device.proofs.mem_sides.MemSidesSides.sync.Goals as goal

pub returns-clause-firm : goal.returns-clause-firm
returns-clause-firm c =
    let m = c.args.self.now.twins in
    let kept = unless_err c.sync.result c.is_err.result c.if-is_err.false c.is_err.ensures.value c.sync.ensures.kept in
    firm (log_entries m) m.put_faults c.args.side _ _ kept c.sync.ensures.put_faults

pub returns-clause-settles : goal.returns-clause-settles
returns-clause-settles c =
    let m = c.args.self.now.twins in
    let kept = unless_err c.sync.result c.is_err.result c.if-is_err.false c.is_err.ensures.value c.sync.ensures.kept in
    settles (log_entries m) m.put_faults c.args.side _ _ kept c.sync.ensures.put_faults

pub returns-clause-uses : goal.returns-clause-uses
returns-clause-uses c =
    let m = c.args.self.now.twins in
    let kept = unless_err c.sync.result c.is_err.result c.if-is_err.false c.is_err.ensures.value c.sync.ensures.kept in
    sync_uses (log_entries m) m.put_faults c.args.side _ _ kept c.sync.ensures.put_faults

pub returns-clause-synced : goal.returns-clause-synced
returns-clause-synced c =
    let m = c.args.self.now.twins in
    let kept = unless_err c.sync.result c.is_err.result c.if-is_err.false c.is_err.ensures.value c.sync.ensures.kept in
    sync_counts (log_entries m) m.put_faults c.args.side _ _ kept c.sync.ensures.put_faults

pub returns-clause-faults : goal.returns-clause-faults
returns-clause-faults c =
    let m = c.args.self.now.twins in
    let kept = unless_err c.sync.result c.is_err.result c.if-is_err.false c.is_err.ensures.value c.sync.ensures.kept in
    sync_fine (log_entries m) m.put_faults c.args.side _ _ kept c.sync.ensures.put_faults
