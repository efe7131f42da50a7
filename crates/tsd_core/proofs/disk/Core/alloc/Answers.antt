use Rattle.std.proofs.Common.{◌≡◌, length, sym, ◌∙◌, ap, subst}
use Rattle.tsd_core.proofs.Common.{chosen, told_by, Core, told_world, AreToBeTaken}
use Rattle.tsd_model.specs.declared.requests.Hint.TheVariants as hint
use Rattle.tsd_core.proofs.Choosing.{new_chosen}
use Rattle.tsd_core.proofs.disk.Core.alloc.Goals as goal

pub grow-requires-clause-new : goal.grow-requires-clause-new
grow-requires-clause-new g c =
    let kind = c.args.placement.now.kind in
    let t = told_by c.self.inside.volume in
    let picked : c.in-Ok.blocks ≡ chosen kind t c.args.hint.now c.args.count = c.in-Ok.ensures.chosen ∙ ap (λ b. chosen kind t (hint.At b) c.args.count) c.hint_block.ensures in
    let same : length (chosen kind t c.args.hint.now c.args.count) ≡ c.args.count = sym (ap length picked) ∙ c.in-Ok.ensures.counted in
    subst (λ (x : Core). AreToBeTaken (told_world x) c.in-Ok.blocks) c.self.view_is
    (subst (AreToBeTaken t) (sym picked) (new_chosen kind t c.args.hint.now c.args.count c.requires.count.0 c.requires.count.1 same))

pub returns-in-Ok : goal.returns-in-Ok
returns-in-Ok g c = λ session shown.
    let kind = c.args.placement.now.kind in
    let t = told_by c.self.inside.volume in
    let picked : c.in-Ok.blocks ≡ chosen kind t c.args.hint.now c.args.count = c.in-Ok.ensures.chosen ∙ ap (λ b. chosen kind t (hint.At b) c.args.count) c.hint_block.ensures in
    c.grow.ensures.alloc kind session shown c.args.hint.now c.args.count (subst (λ (x : Core). c.in-Ok.blocks ≡ chosen kind (told_world x) c.args.hint.now c.args.count) c.self.view_is picked)
