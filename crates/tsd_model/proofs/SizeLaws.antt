-- Changes keep the parts of a world at the sizes that its geometry says.
use Rattle.std.proofs.Common.{inl, inr, ◌≡◌, ℕ, suc, ◌+◌, ◌<◌, ◌≤◌, Bool, true, false, cond, not, List, [], ◌∷◌, length, refl, sym, ◌∙◌, subst, arith}
use Rattle.std.proofs.Common.{Option, None}
use Rattle.std.proofs.lemmas.Bool.{cases_lt}
use Rattle.std.proofs.lemmas.List.{get_or_past}
use Rattle.std.proofs.lemmas.List.FromFn.{length-map-range_with_len, get_or-map-range_with_len}
use Rattle.std.specs.Prelude.{filter, IfSome}
use Rattle.tsd_model.specs.Geometry.{block_len}
use Rattle.tsd_model.specs.Pairs.{is_pair, pair_lt, with_pair}
use Rattle.tsd_model.specs.World.{World, contents}
use Rattle.tsd_model.specs.Reach.{blocks_that, restricted}
use Rattle.tsd_model.specs.Step.{with_pointer, without_pointer}
use Rattle.tsd_model.specs.Valid.{IsSized}

pub length-with_pair : (e : ℕ × ℕ) (es : List (ℕ × ℕ)) → length (with_pair e es) ≤ length es + 1
length-with_pair e [] = omega arith
length-with_pair e (f ∷ fs) = let rest = length-with_pair e fs in
    elim (pair_lt e f) as (λ t. length (cond t (e ∷ f ∷ fs) (cond (pair_lt f e) (f ∷ with_pair e fs) (f ∷ fs))) ≤ suc (length fs) + 1) [
      | true ↦ omega arith
      | false ↦ elim (pair_lt f e) as (λ u. length (cond u (f ∷ with_pair e fs) (f ∷ fs)) ≤ suc (length fs) + 1) [
        | true ↦ omega arith
        | false ↦ omega arith
      ]
    ]

pub length-filter_le : {X : Type 0} (p : X → Bool) (xs : List X) → length (filter p xs) ≤ length xs
length-filter_le p [] = omega arith
length-filter_le p (x ∷ xs) = let rest = length-filter_le p xs in
    elim (p x) as (λ t. length (cond t (x ∷ filter p xs) (filter p xs)) ≤ suc (length xs)) [ true ↦ omega arith | false ↦ omega arith ]

-- what a block contains in a world on the blocks that pass
pub contents-restricted : (w : World) (keep : ℕ → Bool) (b : ℕ) → contents (restricted w keep) b ≡ cond (keep b) (contents w b) None
contents-restricted w keep b =
    elim (cases_lt b (length w.blocks)) as (λ _. contents (restricted w keep) b ≡ cond (keep b) (contents w b) None) [
      | inl h ↦ get_or-map-range_with_len (λ c. cond (keep c) (contents w c) None) 0 (length w.blocks) b b None h (omega arith)
      | inr h ↦
          let long : length (blocks_that w keep) ≤ b = omega (arith, length-map-range_with_len (λ c. cond (keep c) (contents w c) None) 0 (length w.blocks)) in
          let past = get_or_past (blocks_that w keep) b None long in
          let out = get_or_past w.blocks b None h in
          past ∙ elim (keep b) as (λ t. ◌≡◌ {A = Option (List ℕ)} None (cond t (contents w b) None)) [ true ↦ sym out | false ↦ refl ]
    ]

pub sized-with_pointer : (w : World) (a b : ℕ) → IsSized w → length w.pairs < w.geometry.slots → IsSized (with_pointer w a b)
sized-with_pointer w a b h room = record { lawful = h.lawful; each_block = h.each_block; full = h.full; room = omega (arith, length-with_pair (a, b) w.pairs) }

pub sized-without_pointer : (w : World) (a b : ℕ) → IsSized w → IsSized (without_pointer w a b)
sized-without_pointer w a b h = record { lawful = h.lawful; each_block = h.each_block; full = h.full; room = omega (arith, length-filter_le (λ e. not (is_pair a b e)) w.pairs, h.room) }

pub sized-restricted : (w : World) (keep : ℕ → Bool) → IsSized w → IsSized (restricted w keep)
sized-restricted w keep h = record {
  lawful = h.lawful;
  each_block = length-map-range_with_len (λ c. cond (keep c) (contents w c) None) 0 (length w.blocks) ∙ h.each_block;
  full = λ b. subst (λ c. IfSome c (λ bytes. length bytes ≡ block_len w.geometry)) (sym (contents-restricted w keep b)) (kept_full (keep b) b);
  room = omega (arith, length-filter_le (λ e. keep e.0) w.pairs, h.room);
}
  where
    kept_full : (t : Bool) (b : ℕ) → IfSome (cond t (contents w b) None) (λ bytes. length bytes ≡ block_len w.geometry)
    kept_full true b = h.full b
    kept_full false b = tt
