-- The disk as it is, and what is left of it once nothing is doomed.
use Rattle.std.proofs.Common.{◌≡◌, ℕ, ◌≤◌, Bool, true, false, not, cond, List, [], ◌∷◌, length, refl, sym, ◌∙◌, ap, arith}
use Rattle.std.proofs.Common.{Option, None}
use Rattle.volume.proofs.Common.{count_by, is_none, map, ext_get_or, sum_by-cons, doomed, settle, swept, restricted, reach, World, contents, all_blocks, free_count, has_number, free_in, IsMapOf, free_count_same, settle_none, world_with, left_of, zeros_of, blank_of, Tables, Uses, View, owed, Volume, due, IsPaid, blank, laid_out, same_doomed, none_owed}
use Rattle.std.proofs.lemmas.List.FromFn.{length-map-range_with_len, get_or-map-range_with_len}
use Rattle.image_world.proofs.RawLaws.{blocks_with, live_with}

-- ---- free blocks

raw_map : (t : Tables) (c : ℕ → List ℕ) → length t.live ≡ t.geometry.blocks → IsMapOf t.live (world_with t c)
raw_map t c long = record {
  each_block = long ∙ sym (blocks_with t c);
  same = λ b h. sym (live_with t c b (omega (arith, h, long)));
}

-- the bits that are 0
pub raw_free : (t : Tables) (c : ℕ → List ℕ) → length t.live ≡ t.geometry.blocks → free_in t.live ≡ free_count (world_with t c)
raw_free t c long = free_count_same t.live (world_with t c) (raw_map t c long)

fewer : (f g : ℕ → Option (List ℕ)) → ((x : ℕ) → is_none (f x) ≡ true → is_none (g x) ≡ true) → (xs : List ℕ) → count_by is_none (map f xs) ≤ count_by is_none (map g xs)
fewer f g more [] = omega arith
fewer f g more (x ∷ xs) =
    let one = sum_by-cons (λ (o : Option (List ℕ)). cond (is_none o) 1 0) (f x) (map f xs) in
    let other = sum_by-cons (λ (o : Option (List ℕ)). cond (is_none o) 1 0) (g x) (map g xs) in
    let rest = fewer f g more xs in
    let here : cond (is_none (f x)) 1 0 ≤ cond (is_none (g x)) 1 0 = at (is_none (f x)) (is_none (g x)) (more x) in
    omega (arith, one, other, rest, here)
  where
    at : (p q : Bool) → (p ≡ true → q ≡ true) → cond p 1 0 ≤ cond q 1 0
    at true true h = omega arith
    at true false h = let never = h refl in absurd (cc)
    at false true h = omega arith
    at false false h = omega arith

-- a free block stays free where some blocks go
pub free_restricted : (w : World) (keep : ℕ → Bool) → free_count w ≤ free_count (restricted w keep)
free_restricted w keep =
    let all : w.blocks ≡ map (contents w) (all_blocks w) = ext_get_or None w.blocks (map (contents w) (all_blocks w)) (sym (length-map-range_with_len (contents w) 0 (length w.blocks)))
    (λ b h. sym (get_or-map-range_with_len (contents w) 0 (length w.blocks) b b None h (omega arith))) in
    let less = fewer (contents w) (λ b. cond (keep b) (contents w b) None) each (all_blocks w) in
    let same : free_count w ≡ count_by is_none (map (contents w) (all_blocks w)) = ap (count_by is_none) all in
    omega (arith, less, same)
  where
    each : (b : ℕ) → is_none (contents w b) ≡ true → is_none (cond (keep b) (contents w b) None) ≡ true
    each b none = elim (keep b) as (λ t. is_none (cond t (contents w b) None) ≡ true) [ true ↦ none | false ↦ refl ]

pub free_left : (t : Tables) → free_count (world_with t (zeros_of t)) ≤ free_count (blank_of t)
unfolding left_of
free_left t = let w = world_with t (zeros_of t) in
    elim t.is_sweeping as (λ s. free_count w ≤ free_count (cond s (swept w) (settle w))) [
      | true ↦ free_restricted w (has_number (reach w))
      | false ↦ free_restricted w (λ b. not (has_number (doomed w) b))
    ]

-- ---- nothing is doomed

pub raw_is_left : (t : Tables) → t.is_sweeping ≡ false → owed t ≡ 0 → blank_of t ≡ world_with t (zeros_of t)
raw_is_left t still none = blank t still ∙ settle_none (world_with t (zeros_of t)) (laid_out t (zeros_of t)) (same_doomed t (zeros_of t) ∙ (none_owed t).0 none)

-- how many blocks became free until nothing was doomed
pub free_then : (old now : Tables) → now.is_sweeping ≡ false → owed now ≡ 0 → blank_of now ≡ blank_of old → free_count (world_with now (zeros_of now)) ≡ free_count (blank_of old)
free_then old now still none told = ap (λ (w : World). free_count w) (sym (raw_is_left now still none) ∙ told)

-- ---- how often is written
-- a run that pays for what was due, and then one that writes what is due
pub uses_due : (old mid : Volume) (v0 v1 v2 : View) → Uses 0 v0 v1 → IsPaid 0 old v0 mid v1 → Uses (due mid) v1 v2 → Uses (due old) v0 v2
uses_due old mid v0 v1 v2 one paid two = record {
  clock = omega (arith, one.clock, two.clock);
  faults = omega (arith, one.faults, two.faults);
  put_faults = two.put_faults ∙ one.put_faults;
  writes = omega (arith, one.writes, two.writes);
  most = omega (arith, paid, two.most);
}
