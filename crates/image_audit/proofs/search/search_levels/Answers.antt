use Rattle.std.proofs.Common.{◌≡◌, ℕ, [], ◌∷◌, List, length, false, refl, sym, ◌∙◌, subst, inr, arith}
use Rattle.image_audit.proofs.Common.{eqb-true, slice_index_or, NoneSeen, has_number, told_by}
use Rattle.std.specs.Prelude.{◌<◌}
use Rattle.image_audit.proofs.LevelLaws.{level_inside}
use Rattle.image_audit.proofs.search.search_levels.Goals as goal

none_in : (xs : List ℕ) → length xs ≡ 0 → (b : ℕ) → has_number xs b ≡ false
none_in [] e b = refl
none_in (x ∷ xs) e b = absurd (omega (arith, e))

pub returns-then-is_empty-clause-searched : goal.returns-then-is_empty-clause-searched
returns-then-is_empty-clause-searched c = record {
  depth = c.loop-depth.depth;
  level = c.loop-depth.level.items;
  searched = c.loop-depth.invariant.searched;
  ended = inr (none_in c.loop-depth.level.items (sym c.loop-depth.level.ok.0 ∙ eqb-true c.loop-depth.level.len 0 (sym c.is_empty.ensures ∙ c.if-is_empty.true)));
}

pub search_level-requires-clause-inside : goal.search_level-requires-clause-inside
search_level-requires-clause-inside c k d inside =
    let size = c.loop-depth.invariant.size ∙ c.requires.size in
    subst (λ xs. slice_index_or xs k d < c.args.volume.now.tables.geometry.blocks) (sym c.as_slice.ensures.value)
    (level_inside (told_by c.args.volume.now) c.args.level.now.items c.loop-depth.depth c.loop-depth.level.items [] NoneSeen c.loop-depth.entries c.args.volume.now.tables.geometry.blocks
    c.loop-depth.invariant.searched size k d (subst (λ (xs : List ℕ). k < length xs) c.as_slice.ensures.value inside))
