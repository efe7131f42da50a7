-- A map and a world that have the same live blocks choose alike.
use Rattle.std.proofs.Common.{inl, inr, ◌≡◌, ℕ, ◌+◌, ◌≤◌, Bool, false, not, cond, ◌&&◌, nat_lt, List, [], ◌∷◌, length, refl, sym, ◌∙◌, ap, arith}
use Rattle.std.proofs.Common.{Option, Some, None, is_some, is_none}
use Rattle.block_alloc.proofs.Common.{filter, map, count_by, list_all, range_with_len, cases_lt, le-ltb, length-map, get_or-map, ext_get_or, sum_by-cons, rank_of, hint_block, sorted_by_rank, first_block, free_blocks_of, chosen_of, is_free_run_of, runs_of, chosen_run_of, World, contents, is_free_in, free_count_of, PlaceKind, is_live, is_free, free_count, free_blocks, chosen, is_free_run, runs, chosen_run}
use Rattle.std.specs.Prelude.{take}
use Rattle.tsd_model.specs.declared.requests.Hint.{Hint}
use Rattle.block_alloc.specs.Worlds.{IsMapOf}

not-is_some : {X : Type 0} (o : Option X) → not (is_some o) ≡ is_none o
not-is_some (Some x) = refl
not-is_some None = refl

-- the same blocks are free
free_at : (live : List Bool) (w : World) → IsMapOf live w → (b : ℕ) → is_free live b ≡ is_free_in w b
free_at live w same b = elim (cases_lt b (length live)) [
  | inl h ↦
      ap (λ n. nat_lt b n && not (is_live live b)) same.each_block
      ∙ ap (λ t. nat_lt b (length w.blocks) && t) (ap not (same.same b h) ∙ not-is_some (contents w b))
  | inr h ↦
      let out : length w.blocks ≤ b = omega (arith, h, same.each_block) in
      ap (λ t. t && not (is_live live b)) (le-ltb b (length live) h) ∙ sym (ap (λ t. t && is_none (contents w b)) (le-ltb b (length w.blocks) out))
]

free_in : (live : List Bool) (w : World) → IsMapOf live w → is_free live ≡ is_free_in w
free_in live w same i b = free_at live w same b i

pub free_blocks_same : (live : List Bool) (w : World) → IsMapOf live w → free_blocks live ≡ free_blocks_of w
free_blocks_same live w same =
    ap (λ p. filter p (range_with_len 0 (length live))) (free_in live w same) ∙ ap (λ n. filter (is_free_in w) (range_with_len 0 n)) same.each_block

pub chosen_same : (live : List Bool) (w : World) → IsMapOf live w → (kind : PlaceKind) (hint : Hint) (count : ℕ) → chosen kind live (hint_block hint) count ≡ chosen_of kind w hint count
chosen_same live w same kind hint count = ap (λ bs. take count (sorted_by_rank (rank_of kind (hint_block hint)) bs)) (free_blocks_same live w same)

run_in : (live : List Bool) (w : World) → IsMapOf live w → (count : ℕ) → is_free_run live count ≡ is_free_run_of w count
run_in live w same count = ap (λ (p : ℕ → Bool). λ b. list_all p (range_with_len b count)) (free_in live w same)

pub runs_same : (live : List Bool) (w : World) → IsMapOf live w → (count : ℕ) → runs live count ≡ runs_of w count
runs_same live w same count =
    ap (λ p. filter p (range_with_len 0 (length live))) (run_in live w same count) ∙ ap (λ n. filter (is_free_run_of w count) (range_with_len 0 n)) same.each_block

pub chosen_run_same : (live : List Bool) (w : World) → IsMapOf live w → (kind : PlaceKind) (hint : Hint) (count : ℕ) → chosen_run kind live (hint_block hint) count ≡ chosen_run_of kind w hint count
chosen_run_same live w same kind hint count = ap (λ bs. first_block (sorted_by_rank (rank_of kind (hint_block hint)) bs)) (runs_same live w same count)

-- and as many are
count-map : {X : Type 0} (os : List (Option X)) → count_by not (map is_some os) ≡ count_by is_none os
count-map [] = refl
count-map (o ∷ os) =
    sum_by-cons (λ t. cond (not t) 1 0) (is_some o) (map is_some os)
    ∙ (ap (λ t. cond t 1 0 + count_by not (map is_some os)) (not-is_some o)
    ∙ (ap (λ n. cond (is_none o) 1 0 + n) (count-map os)
    ∙ sym (sum_by-cons (λ p. cond (is_none p) 1 0) o os)))

pub free_count_same : (live : List Bool) (w : World) → IsMapOf live w → free_count live ≡ free_count_of w
free_count_same live w same = ap (count_by not) all ∙ count-map w.blocks
  where
    all : live ≡ map is_some w.blocks
    all = ext_get_or false live (map is_some w.blocks) (same.each_block ∙ sym (length-map w.blocks is_some))
        (λ b h. same.same b h ∙ sym (get_or-map is_some w.blocks b None false (let e = same.each_block in omega (arith, h, e))))
