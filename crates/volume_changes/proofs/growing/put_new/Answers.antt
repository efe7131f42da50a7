use Rattle.std.proofs.Common.{◌≡◌, ℕ, ◌+◌, List, [], ◌∷◌, drop, drop_of_length-le, sym, ◌∙◌, ap, subst, arith}
use Rattle.std.specs.Prelude.{slice_index}
use Rattle.std.proofs.lemmas.List.{drop_more}
use Rattle.tsd_model.specs.declared.geometry.Geometry.{Geometry}
use Rattle.block_alloc.specs.LiveMap.{LiveMap}
use Rattle.volume_laws.specs.Growing.{parts_of, PartsFit, HasRoom, IsGrown}
use Rattle.volume_laws.proofs.Grown.{grown_none, grown_more, room_more}
use Rattle.volume_changes.proofs.growing.put_new.Goals as goal

pub loop-index-preserved : goal.loop-index-preserved
loop-index-preserved c =
    let i = c.loop-index.index in
    let bs = c.args.blocks.now in
    let b = slice_index bs i in
    let a = c.args.source in
    let g = c.args.live.now.geometry in
    let old = parts_of c.loop-index.pointers c.loop-index.counts c.loop-index.live in
    let new = parts_of c.put_one.new.pointers c.put_one.new.counts c.put_one.new.live in
    let inv = c.loop-index.invariant in
    let one = c.put_one.ensures.grown in
    let here : drop i bs ≡ b ∷ drop (i + 1) bs = drop_more bs i 0 c.loop-index-test.true in
    let size : c.put_one.new.live.geometry ≡ c.loop-index.live.geometry = ap (λ (m : LiveMap). m.geometry) c.put_one.ensures.live in
    record {
      size = size ∙ inv.size;
      fit = subst (λ (k : Geometry). PartsFit k new) (sym size) one.fit;
      room = subst (λ (k : Geometry). HasRoom k new a (drop (i + 1) bs)) (sym size)
          (room_more c.loop-index.live.geometry a b (drop (i + 1) bs) old new (subst (λ (xs : List ℕ). HasRoom c.loop-index.live.geometry old a xs) here inv.room) inv.fit.each_block c.put_one.ensures.live c.put_one.ensures.pairs);
      shown = λ none. c.put_one.ensures.shown (inv.shown none);
      few = omega (arith, one.few, inv.few);
      goes = λ q qs more. inv.goes q qs (subst (λ (xs : List ℕ). IsGrown g a xs old q c.loop-index.batch qs) (sym here)
          (grown_more g a b (drop (i + 1) bs) old new q c.loop-index.batch c.put_one.new.batch qs
          (subst (λ (k : Geometry). IsGrown k a (b ∷ []) old new c.loop-index.batch c.put_one.new.batch) inv.size one) more));
    }

pub returns : goal.returns
returns c =
    let i = c.loop-index.index in
    let bs = c.args.blocks.now in
    let g = c.args.live.now.geometry in
    let cur = parts_of c.loop-index.pointers c.loop-index.counts c.loop-index.live in
    let inv = c.loop-index.invariant in
    let none : drop i bs ≡ [] = drop_of_length-le bs (omega (arith, c.loop-index-test.false)) in
    record {
      grown = inv.goes cur c.loop-index.batch (subst (λ (xs : List ℕ). IsGrown g c.args.source xs cur cur c.loop-index.batch c.loop-index.batch) (sym none)
          (grown_none g c.args.source cur c.loop-index.batch (subst (λ (k : Geometry). PartsFit k cur) inv.size inv.fit)));
      shown = inv.shown;
    }
