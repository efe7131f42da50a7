use Rattle.std.proofs.Common.{refl, arith}
use Rattle.std.proofs.lemmas.Bool.Decides.{nat_tests}
use Rattle.std.proofs.lemmas.Cmp.{same_from_slice_cmp_tested}
use Rattle.std.specs.Ordering.{nat_cmp, is_lt}
use Rattle.fs_trees.specs.Names.{name_lt}
use Rattle.fs_fields.proofs.names.is_below.Goals as goal

pub returns : goal.returns
returns c = same_from_slice_cmp_tested nat_cmp is_lt name_lt refl (λ _ _. refl) (λ _ _. refl) (λ x y xs ys o h. grind (arith, nat_tests)) c.args.name.now c.args.other.now c.lt.result c.lt.ensures
