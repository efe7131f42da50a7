use Rattle.std.proofs.Common.{◌≡◌, ◌<◌, length, sym, ◌∙◌, ap, subst, arith}
use Rattle.image_audit.proofs.Common.{take_at, slice_index_or, Geometry, told_by, AreReached, IsWholeWorld, IsSearched}
use Rattle.image_audit.proofs.SearchLaws.{search_done}
use Rattle.image_audit.proofs.reached.Reached.new.Goals as goal

pub returns-clause-reached : goal.returns-clause-reached
returns-clause-reached c =
    let w = told_by c.args.volume.now in
    let size = c.geometry-blocks.ensures in
    let blocks : w.geometry.blocks ≡ c.args.volume.now.tables.geometry.blocks = ap (λ (g : Geometry). g.blocks) size.told in
    let long : length c.search.new.entries ≡ c.in_ok-entries.entries.len = c.in_ok-search.ensures.size ∙ c.deref_mut.ensures.len in
    let whole : IsWholeWorld w = record { each_block = size.sized.each_block; targets = λ a b held. (size.ends a b held).1 } in
    subst (AreReached w c.args.roots.now) (sym (take_at c.search.new.entries _ c.in_ok-entries.entries.len long))
    (search_done w c.args.roots.now c.search.new.entries whole
    (λ k e inside. let below : slice_index_or c.args.roots.now k e < c.args.volume.now.tables.geometry.blocks = c.requires.inside k e inside in omega (arith, below, blocks))
    (subst (λ xs. IsSearched w xs c.search.new.entries) c.as_slice.ensures.value c.in_ok-search.ensures.searched))
