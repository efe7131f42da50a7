use Rattle.std.proofs.Common.{◌≡◌, ◌<◌, List, ℕ, sym, ◌∙◌, ap, arith}
use Rattle.block_alloc.proofs.Common.{slice_index_or, is_free_run, ltb-true}
use Rattle.block_alloc.proofs.map.LiveMap.lacks_run.Goals as goal

pub returns : goal.returns
returns c = λ yes b low high.
    let inside = c.self.inside in
    let kept : c.most_at.result ≡ slice_index_or inside.most.items c.args.group 32 = c.most_at.ensures ∙ ap (λ (most : List ℕ). slice_index_or most c.args.group 32) c.deref.ensures.value in
    let over : slice_index_or inside.most.items c.args.group 32 < c.args.run = let found = ltb-true _ _ yes in omega (arith, kept, found) in
    ap (λ m. is_free_run m.unhidden c.args.run b) (sym c.self.view_is) ∙ c.self.invariant.1.rows c.args.group b low high c.args.run over c.requires
