use Rattle.image_device.proofs.Outcomes.{unless_err}
use Rattle.mirror_device.specs.Twins.{log_entries}
use Rattle.mirror_device.proofs.Calls.{poked_faults, poked_loose, poked_others, poked_reads, poked_sent, poked_syncs, poked_writes, pokes}
use Rattle.mirror_device.proofs.mem_sides.MemSides.poke.Goals as goal

pub returns-clause-reads : goal.returns-clause-reads
returns-clause-reads c =
    let m = c.args.self.now.twins in
    let kept = unless_err c.poke.result c.is_err.result c.if-is_err.false c.is_err.ensures.value c.poke.ensures.kept in
    poked_reads (log_entries m) m.put_faults c.args.sector kept.0 c.args.side _ _ kept.2 c.poke.ensures.put_faults c.args.from.now kept.1

pub returns-clause-loose : goal.returns-clause-loose
returns-clause-loose c =
    let m = c.args.self.now.twins in
    let kept = unless_err c.poke.result c.is_err.result c.if-is_err.false c.is_err.ensures.value c.poke.ensures.kept in
    poked_loose (log_entries m) m.put_faults c.args.sector kept.0 c.args.side _ _ kept.2 c.poke.ensures.put_faults

pub returns-clause-others : goal.returns-clause-others
returns-clause-others c =
    let m = c.args.self.now.twins in
    let kept = unless_err c.poke.result c.is_err.result c.if-is_err.false c.is_err.ensures.value c.poke.ensures.kept in
    poked_others (log_entries m) m.put_faults c.args.sector kept.0 c.args.side _ _ kept.2 c.poke.ensures.put_faults

pub returns-clause-faults : goal.returns-clause-faults
returns-clause-faults c =
    let m = c.args.self.now.twins in
    let kept = unless_err c.poke.result c.is_err.result c.if-is_err.false c.is_err.ensures.value c.poke.ensures.kept in
    poked_faults (log_entries m) m.put_faults c.args.sector kept.0 c.args.side _ _ kept.2 c.poke.ensures.put_faults

pub returns-clause-syncs : goal.returns-clause-syncs
returns-clause-syncs c =
    let m = c.args.self.now.twins in
    let kept = unless_err c.poke.result c.is_err.result c.if-is_err.false c.is_err.ensures.value c.poke.ensures.kept in
    poked_syncs (log_entries m) m.put_faults c.args.sector kept.0 c.args.side _ _ kept.2 c.poke.ensures.put_faults

pub returns-clause-writes : goal.returns-clause-writes
returns-clause-writes c =
    let m = c.args.self.now.twins in
    let kept = unless_err c.poke.result c.is_err.result c.if-is_err.false c.is_err.ensures.value c.poke.ensures.kept in
    poked_writes (log_entries m) m.put_faults c.args.sector kept.0 c.args.side _ _ kept.2 c.poke.ensures.put_faults

pub returns-clause-time : goal.returns-clause-time
returns-clause-time c =
    let m = c.args.self.now.twins in
    let kept = unless_err c.poke.result c.is_err.result c.if-is_err.false c.is_err.ensures.value c.poke.ensures.kept in
    pokes (log_entries m) m.put_faults c.args.sector kept.0 c.args.side _ _ kept.2 c.poke.ensures.put_faults

pub returns-clause-sent : goal.returns-clause-sent
returns-clause-sent c =
    let m = c.args.self.now.twins in
    let kept = unless_err c.poke.result c.is_err.result c.if-is_err.false c.is_err.ensures.value c.poke.ensures.kept in
    poked_sent (log_entries m) m.put_faults c.args.sector kept.0 c.args.side _ _ kept.2 c.poke.ensures.put_faults
