use Rattle.mirror_device.specs.Pair.{pair_view}
use Rattle.mirror_device.specs.Twins.{log_entries}
use Rattle.mirror_device.proofs.Pushes.{loose_on}
use Rattle.mirror_device.proofs.twins.Twins.into_side.Goals as goal

pub returns-clause-torn : goal.returns-clause-torn
returns-clause-torn c b picked n loose =
    let m = c.args.self in
    c.into_side.ensures.torn b picked n (loose_on c.args.side (log_entries m) m.put_faults (pair_view m.pair) n m.agrees loose)
