use Rattle.std.proofs.Common.{rules}
use Rattle.gathered_tasks.proofs.BoundLaws.{finds_slot, leaves_slot}
use Rattle.gathered_tasks.proofs.bound.has_slot.Goals as goal

pub returns-then-not-is_owed-clause-finds : goal.returns-then-not-is_owed-clause-finds
returns-then-not-is_owed-clause-finds c few =
    finds_slot c.args.core.now.volume c.is_owed.result c.pointers.result c.args.geometry.now c.requires.ready.volume (search rules) c.is_owed.ensures c.pointers.ensures c.requires.size few

pub returns-then-not-is_owed-clause-has : goal.returns-then-not-is_owed-clause-has
returns-then-not-is_owed-clause-has c none few =
    leaves_slot c.args.core.now.volume c.pointers.result c.args.geometry.now c.requires.ready.volume c.pointers.ensures c.requires.size none few
