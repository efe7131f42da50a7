use Rattle.std.proofs.Common.{ap, ◌∙◌, subst}
use Rattle.tsd_model.specs.Pairs.{without_pair}
use Rattle.tsd_model.specs.Step.{without_pointer}
use Rattle.tsd_model.specs.Valid.{IsSized}
use Rattle.tsd_model.proofs.SizeLaws.{sized-without_pointer}
use Rattle.plain_disk.proofs.PartLaws.{sized_parts}
use Rattle.plain_disk.proofs.world.World.without_pointer.Goals as goal

pub invariant_of-result : goal.invariant_of-result
invariant_of-result c =
    let w = c.args.self.now in
    let sized = subst IsSized c.self.view_is c.self.invariant in
    sized_parts (without_pointer w c.args.source c.args.target) _ _ _ _ _ (ap (λ v. v.geometry) c.self.view_is)
    (c.in_ok-copy_blocks.ensures ∙ (c.as_slice.ensures.value ∙ ap (λ v. v.blocks) c.self.view_is))
    (c.in_ok-pairs_without.ensures ∙ ap (without_pair c.args.source c.args.target) (c.as_slice-2.ensures.value ∙ ap (λ v. v.pairs) c.self.view_is))
    (sized-without_pointer w c.args.source c.args.target sized)
