use Rattle.pointer_table.proofs.ChangeLaws.{packable}
use Rattle.pointer_table.proofs.TableLaws.{made}
use Rattle.pointer_table.proofs.index.Index.of.Goals as goal

pub by_order-requires-clause-table : goal.by_order-requires-clause-table
by_order-requires-clause-table c =
    made c.args.geometry.now c.args.slots.now c.requires.lawful c.requires.count c.requires.within c.in_default.ensures

pub sort_by_pair-requires-clause-packable : goal.sort_by_pair-requires-clause-packable
sort_by_pair-requires-clause-packable c =
    packable c.args.geometry.now c.args.slots.now c.requires.lawful c.requires.count c.requires.within
