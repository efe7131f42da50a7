use Rattle.std.proofs.Common.{ap, ◌∙◌, subst, ℕ, Bool, cond, not}
use Rattle.std.specs.Prelude.{filter}
use Rattle.tsd_model.specs.World.{has_number}
use Rattle.tsd_model.specs.Reach.{restricted}
use Rattle.tsd_model.specs.Valid.{IsSized}
use Rattle.tsd_model.proofs.SizeLaws.{sized-restricted}
use Rattle.plain_disk.proofs.PartLaws.{sized_parts}
use Rattle.plain_disk.proofs.world.World.restricted.Goals as goal

pub invariant_of-result : goal.invariant_of-result
invariant_of-result c =
    let w = c.args.self.now in
    let keep : ℕ → Bool = λ b. cond c.args.keep_listed (has_number c.args.listed.now b) (not (has_number c.args.listed.now b)) in
    let sized = subst IsSized c.self.view_is c.self.invariant in
    sized_parts (restricted w keep) _ _ _ _ _ (ap (λ v. v.geometry) c.self.view_is)
    c.in_ok-blocks_that.ensures
    (c.in_ok-pairs_from.ensures ∙ ap (filter (λ e. keep e.0)) (c.as_slice.ensures.value ∙ ap (λ v. v.pairs) c.self.view_is))
    (sized-restricted w keep sized)
