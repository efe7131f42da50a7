use Rattle.fs_laws.proofs.ListingLaws.{tree_lists}
use Rattle.fs_laws.proofs.SizeLaws.{tree_depth, tree_few}
use Rattle.fs_laws.proofs.trees_are_in_order.Goals as goal

pub returns-clause-names : goal.returns-clause-names
returns-clause-names c = λ kind w root path valid. tree_lists kind w root path valid.raw.sized.lawful

pub returns-clause-depth : goal.returns-clause-depth
returns-clause-depth c = tree_depth

pub returns-clause-few : goal.returns-clause-few
returns-clause-few c = tree_few
