use Rattle.std.proofs.Common.{arith}
use Rattle.pointer_table.proofs.Common.{Table}
use Rattle.pointer_table.proofs.TableLaws.{are_pairs}
use Rattle.pointer_table.proofs.table.PointerTable.least_targets.Goals as goal

pub least_targets-requires-clause-small : goal.least_targets-requires-clause-small
least_targets-requires-clause-small c b held =
    let t : Table = record { geometry = c.self.inside.geometry; slots = c.self.inside.slots } in
    let table = c.self.invariant.0 in
    let ends = (are_pairs t table).ends c.args.source b held in
    let most = table.lawful.blocks in
    omega arith
