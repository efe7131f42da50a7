-- Chosen blocks may be given out.
use Rattle.std.proofs.Common.{◌≡◌, ℕ, zero, suc, ◌+◌, ◌≤◌, Bool, true, false, List, [], ◌∷◌, length, ◌∙◌, subst, arith, Option, Some, None}
use Rattle.tsd_core.proofs.Common.{get_or-map, length-map, map, is_some, slice_get, range_with_len, World, is_free, hint_block, chosen, chosen_run, run_at, Hint, PlaceKind, AllOf, AllFree, chosen_are_free, chosen_run_is_free, length-range, AreToBeTaken}
use Rattle.std.specs.Prelude.{take}
use Rattle.tsd_model.specs.Placing.{free_blocks, sorted_by_rank}
use Rattle.tsd_model.specs.Rank.{rank_of}
use Rattle.block_alloc.specs.Worlds.{IsMapOf}
use Rattle.block_alloc.proofs.ChosenLaws.{chosen-apart, run-free, run-inside}
use Rattle.block_alloc.proofs.WorldLaws.{chosen_same, chosen_run_same}

-- which blocks of a world are live
abbrev pub live_map : World → List Bool
live_map w = map is_some w.blocks

pub map_of : (w : World) → IsMapOf (live_map w) w
map_of w = record {
  each_block = length-map w.blocks is_some;
  same = λ b inside. get_or-map is_some w.blocks b None false (omega (arith, inside, length-map w.blocks is_some));
}

all_at : (P : ℕ → Type 0) (bs : List ℕ) (i b : ℕ) → AllOf P bs → slice_get bs i ≡ Some b → P b
all_at P [] i b all e = absurd (cc)
all_at P (x ∷ bs) zero b all e = let same : x ≡ b = cc in subst P same all.0
all_at P (x ∷ bs) (suc i) b all e = all_at P bs i b all.1 e

pub new_chosen : (kind : PlaceKind) (w : World) (h : Hint) (count : ℕ) → 1 ≤ count → count ≤ 32 → length (chosen kind w h count) ≡ count → AreToBeTaken w (chosen kind w h count)
new_chosen kind w h count some few counted = record {
  some = omega (arith, some, counted);
  few = omega (arith, few, counted);
  free = λ i b e. all_at (λ c. is_free w c ≡ true) (chosen kind w h count) i b (chosen_are_free kind w h count) e;
  apart = λ i j b. subst (λ bs. slice_get bs i ≡ Some b → slice_get bs j ≡ Some b → i ≡ j) (chosen_same (live_map w) w (map_of w) kind h count) (chosen-apart kind (live_map w) (hint_block h) count i j b);
}

range_at : (first count i b : ℕ) → slice_get (range_with_len first count) i ≡ Some b → b ≡ first + i
range_at first zero i b e = absurd (cc)
range_at first (suc count) zero b e = let same : first ≡ b = cc in omega (arith, same)
range_at first (suc count) (suc i) b e = omega (arith, range_at (first + 1) count i b e)

pub new_run : (kind : PlaceKind) (w : World) (h : Hint) (count first : ℕ) → 1 ≤ count → count ≤ 32 → chosen_run kind w h count ≡ Some first → AreToBeTaken w (range_with_len first count)
new_run kind w h count first some few e =
    let free : AllFree w (range_with_len first count) = subst (λ o. AllFree w (run_at o count)) e (chosen_run_is_free kind w h count) in
    record {
      some = omega (arith, some, length-range first count);
      few = omega (arith, few, length-range first count);
      free = λ i b at. all_at (λ c. is_free w c ≡ true) (range_with_len first count) i b free at;
      apart = λ i j b one other. omega (arith, range_at first count i b one, range_at first count j b other);
    }

pub run_inside : (kind : PlaceKind) (w : World) (h : Hint) (count first : ℕ) → 1 ≤ count → chosen_run kind w h count ≡ Some first → first + count ≤ length w.blocks
run_inside kind w h count first some e =
    let free = run-free kind (live_map w) (hint_block h) count first (chosen_run_same (live_map w) w (map_of w) kind h count ∙ e) in
    omega (arith, run-inside (live_map w) count first some free, length-map w.blocks is_some)

-- ---- no more than were asked for

few_taken : (count : ℕ) (bs : List ℕ) → length (take count bs) ≤ count
few_taken zero bs = omega arith
few_taken (suc count) [] = omega arith
few_taken (suc count) (b ∷ bs) = omega (arith, few_taken count bs)

pub few_chosen : (kind : PlaceKind) (w : World) (h : Hint) (count : ℕ) → length (chosen kind w h count) ≤ count
few_chosen kind w h count = few_taken count (sorted_by_rank (rank_of kind (hint_block h)) (free_blocks w))

pub few_in_run : (first : Option ℕ) (count : ℕ) → length (run_at first count) ≤ count
few_in_run None count = omega arith
few_in_run (Some first) count = omega (arith, length-range first count)
