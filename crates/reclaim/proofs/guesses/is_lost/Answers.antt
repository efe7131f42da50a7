use Rattle.std.proofs.Common.{◌≡◌, ◌<◌, arith, sym, ◌∙◌, ap, subst}
use Rattle.reclaim.proofs.Common.{Geometry, is_uncounted}
use Rattle.reclaim.proofs.CollectLaws.{uncounted_lost, lost_uncounted}
use Rattle.reclaim.proofs.guesses.is_lost.Goals as goal

pub returns-then-block-size : goal.returns-then-block-size
returns-then-block-size c =
    let t = c.args.pointers.now in
    let same : c.geometry-size.result ≡ t.geometry = c.geometry-size.ensures in
    let within : c.args.block < t.geometry.blocks = subst (λ (g : Geometry). c.args.block < g.blocks) same (let e = c.if-block-size.true in omega arith) in
    let told : c.is_uncounted.result ≡ is_uncounted c.args.live.now.live c.args.counts.now.counts t.geometry.primaries c.args.block =
    c.is_uncounted.ensures ∙ ap (λ (g : Geometry). is_uncounted c.args.live.now.live c.args.counts.now.counts g.primaries c.args.block) same in (
      λ yes. uncounted_lost t c.args.live.now c.args.counts.now c.args.block c.requires.counts within (sym told ∙ yes),
      λ lost. told ∙ lost_uncounted t c.args.live.now c.args.counts.now c.args.block c.requires.tables c.requires.counts lost,
    )
