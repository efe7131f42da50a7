use Rattle.std.proofs.Common.{subst}
use Rattle.pointer_table.proofs.Common.{ArePairs}
use Rattle.pointer_table.proofs.TableLaws.{are_pairs}
use Rattle.pointer_table.proofs.table.PointerTable.len.Goals as goal

pub returns-clause-pairs : goal.returns-clause-pairs
returns-clause-pairs c =
    subst ArePairs c.self.view_is (are_pairs (record { geometry = c.self.inside.geometry; slots = c.self.inside.slots }) c.self.invariant.0)
