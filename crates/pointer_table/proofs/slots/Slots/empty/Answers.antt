use Rattle.std.proofs.Common.{}
use Rattle.pointer_table.proofs.RawLaws.{none_kept}
use Rattle.pointer_table.proofs.slots.Slots.empty.Goals as goal

pub returns-in-Ok-clause-slots : goal.returns-in-Ok-clause-slots
returns-in-Ok-clause-slots c = none_kept c.args.count c.in-Ok.items.items c.in-Ok.ensures.items
