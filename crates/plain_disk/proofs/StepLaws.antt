-- The targets that are listed, and the blocks that are taken.
use Rattle.std.proofs.Common.{◌≡◌, ℕ, zero, suc, ◌+◌, ◌<◌, ◌≤◌, Bool, true, false, cond, ◌&&◌, ◌==◌, nat_le, nat_lt, List, [], ◌∷◌, ◌++◌, length, take, drop, add-one, sym, ◌∙◌, ap, arith}
use Rattle.std.specs.Prelude.{filter, map, slice_index_or, IfSome}
use Rattle.std.specs.List.{range_with_len}
use Rattle.std.proofs.lemmas.List.{take_more, map-append}
use Rattle.std.proofs.Math.Seq.{drop-cons}
use Rattle.tsd_model.specs.World.{World}
use Rattle.tsd_model.specs.Rank.{rank_of}
use Rattle.tsd_model.specs.Placing.{in_rank_order, sorted_by_rank, hint_block, first_block, is_free_run, runs, chosen_run}
use Rattle.tsd_model.specs.Step.{targets_from, zeros, with_contents, with_pointer, with_new_blocks}
use Rattle.tsd_model.specs.declared.requests.Hint.{Hint}
use Rattle.tsd_model.specs.declared.requests.PlaceKind.{PlaceKind}
use Rattle.tsd_model.proofs.RangeLaws.{filter-snoc}
use Rattle.tsd_model.proofs.TakeLaws.{take-take-append, append_nothing}

-- one more pair
pub targets_from_more : (es : List (ℕ × ℕ)) (i a start : ℕ) (d : ℕ × ℕ) → i < length es →
    targets_from (take (i + 1) es) a start ≡ take 64 (targets_from (take i es) a start ++ cond (((slice_index_or es i d).0 == a) && nat_le start (slice_index_or es i d).1) ((slice_index_or es i d).1 ∷ []) [])
targets_from_more es i a start d h =
    let p : (ℕ × ℕ) → Bool = λ e. (e.0 == a) && nat_le start e.1 in
    let target_of : (ℕ × ℕ) → ℕ = λ e. e.1 in
    let e = slice_index_or es i d in
    let found = filter p (take i es) in
    ap (λ fs. take 64 (map target_of (filter p fs))) (take_more es i d h)
    ∙ (ap (λ fs. take 64 (map target_of fs)) (filter-snoc p (take i es) e)
    ∙ (elim (p e) as (λ t. take 64 (map target_of (cond t (found ++ e ∷ []) found)) ≡ take 64 (map target_of found ++ cond t (e.1 ∷ []) [])) [
      | true ↦ ap (take 64) (map-append target_of found (e ∷ []))
      | false ↦ ap (take 64) (sym (append_nothing (map target_of found)))
    ]
    ∙ sym (take-take-append 64 (map target_of found) (cond (p e) (e.1 ∷ []) []))))

-- one more new block
pub with_new_blocks_more : (w : World) (a : ℕ) (bs : List ℕ) (i d : ℕ) → i < length bs →
    with_new_blocks (with_pointer (with_contents w (slice_index_or bs i d) (zeros w)) a (slice_index_or bs i d)) a (drop (i + 1) bs) ≡ with_new_blocks w a (drop i bs)
with_new_blocks_more w a bs i d h =
    let e : drop i bs ≡ slice_index_or bs i d ∷ drop (i + 1) bs = drop-cons bs i d h ∙ ap (λ k. slice_index_or bs i d ∷ drop k bs) (sym (add-one i)) in
    ap (with_new_blocks w a) (sym e)

-- ---- the first block of a chosen run is one of the disk

-- each number of a list is below n
abbrev AllBelow : ℕ → List ℕ → Type 0
AllBelow n [] = Unit {0}
AllBelow n (x ∷ xs) = (x < n) × AllBelow n xs

below-range : (n a k : ℕ) → a + k ≤ n → AllBelow n (range_with_len a k)
below-range n a zero h = tt
below-range n a (suc k) h = (omega arith, below-range n (a + 1) k (omega arith))

below-filter : (n : ℕ) (p : ℕ → Bool) (xs : List ℕ) → AllBelow n xs → AllBelow n (filter p xs)
below-filter n p [] h = tt
below-filter n p (x ∷ xs) h = elim (p x) as (λ t. AllBelow n (cond t (x ∷ filter p xs) (filter p xs))) [ true ↦ (h.0, below-filter n p xs h.1) | false ↦ below-filter n p xs h.1 ]

below-in_rank_order : (n : ℕ) (rank : ℕ → ℕ) (b : ℕ) (bs : List ℕ) → b < n → AllBelow n bs → AllBelow n (in_rank_order rank b bs)
below-in_rank_order n rank b [] h g = (h, tt)
below-in_rank_order n rank b (c ∷ cs) h g = elim (nat_lt (rank b) (rank c)) as (λ t. AllBelow n (cond t (b ∷ c ∷ cs) (c ∷ in_rank_order rank b cs))) [ true ↦ (h, g) | false ↦ (g.0, below-in_rank_order n rank b cs h g.1) ]

below-sorted_by_rank : (n : ℕ) (rank : ℕ → ℕ) (bs : List ℕ) → AllBelow n bs → AllBelow n (sorted_by_rank rank bs)
below-sorted_by_rank n rank [] h = tt
below-sorted_by_rank n rank (b ∷ bs) h = below-in_rank_order n rank b (sorted_by_rank rank bs) h.0 (below-sorted_by_rank n rank bs h.1)

below-first_of : (n : ℕ) (xs : List ℕ) → AllBelow n xs → IfSome (first_block xs) (λ b. b < n)
below-first_of n [] h = tt
below-first_of n (x ∷ xs) h = h.0

pub chosen_run_below : (kind : PlaceKind) (w : World) (h : Hint) (count n : ℕ) → length w.blocks ≤ n → IfSome (chosen_run kind w h count) (λ b. b < n)
chosen_run_below kind w h count n most =
    below-first_of n (sorted_by_rank (rank_of kind (hint_block h)) (runs w count))
    (below-sorted_by_rank n (rank_of kind (hint_block h)) (runs w count)
    (below-filter n (is_free_run w count) (range_with_len 0 (length w.blocks)) (below-range n 0 (length w.blocks) (omega arith))))
