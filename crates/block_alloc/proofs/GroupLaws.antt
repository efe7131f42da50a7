-- The blocks of least rank, where those above a ceiling are passed by.
use Rattle.std.proofs.Common.{◌≡◌, ℕ, zero, suc, ◌+◌, ◌-◌, ◌<◌, ◌≤◌, ◌&&◌, Bool, true, false, not, cond, nat_lt, nat_le, List, [], ◌∷◌, ◌++◌, length, take, inl, inr, refl, sym, ◌∙◌, ap, subst, arith}
use Rattle.std.proofs.Common.{Option, Some, None}
use Rattle.block_alloc.proofs.Common.{filter, map, list_all, range_with_len, cases_lt, cases_Bool, lt-ltb, le-ltb, le-leb, lt-leb, both_ways, in_rank_order, sorted_by_rank, is_free_run, all_blocks, runs, is_live, is_free, is_within, is_run_within, IsKeptFrom, least_of, ranked, Ranked}
use Rattle.block_alloc.proofs.OrderLaws.{range-from, least-from-no}
use Rattle.tsd_model.proofs.ValueLaws.{and_false, and_true}

-- ---- those up to a ceiling stand in front

-- all of these pass
abbrev pub AllPass : (ℕ → Bool) → Bool → List ℕ → Type 0
AllPass p t [] = Unit {0}
AllPass p t (b ∷ bs) = (p b ≡ t) × AllPass p t bs

placed_passes : (rank : ℕ → ℕ) (p : ℕ → Bool) (t : Bool) (b : ℕ) (bs : List ℕ) → p b ≡ t → AllPass p t bs → AllPass p t (in_rank_order rank b bs)
placed_passes rank p t b [] here all = (here, tt)
placed_passes rank p t b (c ∷ cs) here all =
    elim (nat_lt (rank b) (rank c)) as (λ s. AllPass p t (cond s (b ∷ c ∷ cs) (c ∷ in_rank_order rank b cs))) [
      | true ↦ (here, all)
      | false ↦ (all.0, placed_passes rank p t b cs here all.1)
    ]

module _ (rank : ℕ → ℕ) (ceiling : ℕ) where
  low : ℕ → Bool
  low b = nat_le (rank b) ceiling

  -- a block up to the ceiling goes in front of those above it
  placed_low : (b : ℕ) (front rest : List ℕ) → rank b ≤ ceiling → AllPass (λ c. nat_le (rank c) ceiling) false rest → in_rank_order rank b (front ++ rest) ≡ in_rank_order rank b front ++ rest
  placed_low b [] [] h above = refl
  placed_low b [] (c ∷ rest) h above =
      ap (λ t. cond t (b ∷ c ∷ rest) (c ∷ in_rank_order rank b rest)) (lt-ltb (rank b) (rank c) (let far = over (rank c) above.0 in omega (arith, far)))
    where
      over : (r : ℕ) → nat_le r ceiling ≡ false → ceiling < r
      over r e = elim (cases_lt ceiling r) [ inl there ↦ there | inr not_ ↦ absurd (both_ways (nat_le r ceiling) e (le-leb r ceiling not_)) ]
  placed_low b (f ∷ front) rest h above =
      elim (nat_lt (rank b) (rank f)) as (λ t. cond t (b ∷ f ∷ (front ++ rest)) (f ∷ in_rank_order rank b (front ++ rest)) ≡ cond t (b ∷ f ∷ front) (f ∷ in_rank_order rank b front) ++ rest) [
        | true ↦ refl
        | false ↦ ap (λ xs. f ∷ xs) (placed_low b front rest h above)
      ]

  -- one above it goes behind those up to it
  placed_high : (b : ℕ) (front rest : List ℕ) → ceiling < rank b → AllPass (λ c. nat_le (rank c) ceiling) true front → in_rank_order rank b (front ++ rest) ≡ front ++ in_rank_order rank b rest
  placed_high b [] rest h below = refl
  placed_high b (f ∷ front) rest h below =
      ap (λ t. cond t (b ∷ f ∷ (front ++ rest)) (f ∷ in_rank_order rank b (front ++ rest))) (le-ltb (rank b) (rank f) (let near = under (rank f) below.0 in omega (arith, near)))
      ∙ ap (λ xs. f ∷ xs) (placed_high b front rest h below.1)
    where
      under : (r : ℕ) → nat_le r ceiling ≡ true → r ≤ ceiling
      under r e = elim (cases_lt ceiling r) [ inl there ↦ absurd (both_ways (nat_le r ceiling) (lt-leb r ceiling there) e) | inr not_ ↦ not_ ]

  -- of some blocks, those up to the ceiling and those above it
  sorted_passes : (p : ℕ → Bool) (t : Bool) (q : ℕ → Bool) → ((b : ℕ) → q b ≡ true → p b ≡ t) → (bs : List ℕ) → AllPass p t (sorted_by_rank rank (filter q bs))
  sorted_passes p t q h [] = tt
  sorted_passes p t q h (b ∷ bs) = elim (cases_Bool (q b)) [
    | inl holds_ ↦ subst (λ s. AllPass p t (sorted_by_rank rank (cond s (b ∷ filter q bs) (filter q bs)))) (sym holds_) (placed_passes rank p t b (sorted_by_rank rank (filter q bs)) (h b holds_) (sorted_passes p t q h bs))
    | inr no_ ↦ subst (λ s. AllPass p t (sorted_by_rank rank (cond s (b ∷ filter q bs) (filter q bs)))) (sym no_) (sorted_passes p t q h bs)
  ]

  above_too : (p : ℕ → Bool) → ℕ → Bool
  above_too p b = p b && not (nat_le (rank b) ceiling)

  and_right : (s t : Bool) → (s && t) ≡ true → t ≡ true
  and_right true t e = e
  and_right false t e = absurd (cc)

  not_true : (t : Bool) → not t ≡ true → t ≡ false
  not_true true e = absurd (cc)
  not_true false e = refl

  pub split : (p : ℕ → Bool) (bs : List ℕ) → sorted_by_rank rank (filter p bs)
      ≡ sorted_by_rank rank (filter (λ b. p b && nat_le (rank b) ceiling) bs) ++ sorted_by_rank rank (filter (λ b. p b && not (nat_le (rank b) ceiling)) bs)
  split p [] = refl
  split p (b ∷ bs) =
      let front = sorted_by_rank rank (filter (λ c. p c && nat_le (rank c) ceiling) bs) in
      let rest = sorted_by_rank rank (filter (λ c. p c && not (nat_le (rank c) ceiling)) bs) in
      elim (cases_Bool (p b)) [
        | inr no_ ↦ (λ i. sorted_by_rank rank (cond (no_ i) (b ∷ filter p bs) (filter p bs)))
            ∙ (split p bs
            ∙ (λ i. sorted_by_rank rank (cond (sym no_ i && nat_le (rank b) ceiling) (b ∷ filter (λ c. p c && nat_le (rank c) ceiling) bs) (filter (λ c. p c && nat_le (rank c) ceiling) bs))
            ++ sorted_by_rank rank (cond (sym no_ i && not (nat_le (rank b) ceiling)) (b ∷ filter (λ c. p c && not (nat_le (rank c) ceiling)) bs) (filter (λ c. p c && not (nat_le (rank c) ceiling)) bs))))
        | inl holds_ ↦ (λ i. sorted_by_rank rank (cond (holds_ i) (b ∷ filter p bs) (filter p bs)))
            ∙ (ap (in_rank_order rank b) (split p bs)
            ∙ (elim (cases_lt ceiling (rank b)) [
              | inl over ↦ placed_high b front rest over (sorted_passes (λ c. nat_le (rank c) ceiling) true (λ c. p c && nat_le (rank c) ceiling) (λ c e. and_right (p c) (nat_le (rank c) ceiling) e) bs)
                  ∙ (λ i. sorted_by_rank rank (cond (sym holds_ i && sym (lt-leb (rank b) ceiling over) i) (b ∷ filter (λ c. p c && nat_le (rank c) ceiling) bs) (filter (λ c. p c && nat_le (rank c) ceiling) bs))
                  ++ sorted_by_rank rank (cond (sym holds_ i && not (sym (lt-leb (rank b) ceiling over) i)) (b ∷ filter (λ c. p c && not (nat_le (rank c) ceiling)) bs) (filter (λ c. p c && not (nat_le (rank c) ceiling)) bs)))
              | inr under ↦ placed_low b front rest under (sorted_passes (λ c. nat_le (rank c) ceiling) false (λ c. p c && not (nat_le (rank c) ceiling)) (λ c e. not_true (nat_le (rank c) ceiling) (and_right (p c) (not (nat_le (rank c) ceiling)) e)) bs)
                  ∙ (λ i. sorted_by_rank rank (cond (sym holds_ i && sym (le-leb (rank b) ceiling under) i) (b ∷ filter (λ c. p c && nat_le (rank c) ceiling) bs) (filter (λ c. p c && nat_le (rank c) ceiling) bs))
                  ++ sorted_by_rank rank (cond (sym holds_ i && not (sym (le-leb (rank b) ceiling under) i)) (b ∷ filter (λ c. p c && not (nat_le (rank c) ceiling)) bs) (filter (λ c. p c && not (nat_le (rank c) ceiling)) bs)))
            ]))
      ]

-- where enough are up to the ceiling, they are the least of all
take_front : (n : ℕ) (front rest : List ℕ) → n ≤ length front → take n (front ++ rest) ≡ take n front
take_front zero front rest h = refl
take_front (suc n) [] rest h = absurd (omega arith)
take_front (suc n) (f ∷ front) rest h = ap (λ xs. f ∷ xs) (take_front n front rest (omega arith))

length_taken : (n : ℕ) (bs : List ℕ) → length (take n bs) ≡ n → n ≤ length bs
length_taken zero bs e = omega arith
length_taken (suc n) [] e = absurd (omega arith)
length_taken (suc n) (b ∷ bs) e = let more = length_taken n bs (omega arith) in omega (arith, more)

length_mapped : (f : ℕ → Ranked) (bs : List ℕ) → length (map f bs) ≡ length bs
length_mapped f [] = refl
length_mapped f (b ∷ bs) = ap suc (length_mapped f bs)

filter_same : (p q : ℕ → Bool) → ((b : ℕ) → p b ≡ q b) → (bs : List ℕ) → filter p bs ≡ filter q bs
filter_same p q same [] = refl
filter_same p q same (b ∷ bs) = λ i. cond (same b i) (b ∷ filter_same p q same bs i) (filter_same p q same bs i)

pub enough_within : (rank : ℕ → ℕ) (live : List Bool) (run wanted : ℕ) (ceiling : Option ℕ) (kept : List Ranked) → length kept ≡ wanted
    → kept ≡ least_of rank wanted (filter (is_run_within rank live run ceiling) (all_blocks live)) → kept ≡ least_of rank wanted (runs live run)
enough_within rank live run wanted None kept full is = is ∙ ap (least_of rank wanted) (filter_same (is_run_within rank live run None) (is_free_run live run) (λ b. and_true (is_free_run live run b)) (all_blocks live))
enough_within rank live run wanted (Some ceiling) kept full is =
    let front = sorted_by_rank rank (filter (is_run_within rank live run (Some ceiling)) (all_blocks live)) in
    let rest = sorted_by_rank rank (filter (λ b. is_free_run live run b && not (nat_le (rank b) ceiling)) (all_blocks live)) in
    let many : length (take wanted front) ≡ wanted = sym (ap length is ∙ length_mapped (ranked rank) (take wanted front)) ∙ full in
    is ∙ ap (map (ranked rank)) (sym (ap (take wanted) (split rank ceiling (is_free_run live run) (all_blocks live)) ∙ take_front wanted front rest (length_taken wanted front many)))

pub all_within : (rank : ℕ → ℕ) (live : List Bool) (run wanted : ℕ) (ceiling : Option ℕ) (kept : List Ranked) → ceiling ≡ None
    → kept ≡ least_of rank wanted (filter (is_run_within rank live run ceiling) (all_blocks live)) → kept ≡ least_of rank wanted (runs live run)
all_within rank live run wanted ceiling kept none is =
    is ∙ ap (least_of rank wanted) (filter_same (is_run_within rank live run ceiling) (is_free_run live run) (λ b. ap (λ c. is_run_within rank live run c b) none ∙ and_true (is_free_run live run b)) (all_blocks live))

-- ---- a group that is passed by
past_range : (start n : ℕ) → n ≤ start → range_with_len start (n - start) ≡ []
past_range start n h = ap (range_with_len start) (let none : n - start ≡ 0 = omega arith in none)

-- nothing is kept past the last block
pub kept_none : (rank : ℕ → ℕ) (live : List Bool) (run wanted start : ℕ) (ceiling : Option ℕ) → length live ≤ start → IsKeptFrom rank live run ceiling wanted start []
kept_none rank live run wanted start ceiling h = sym (ap (λ bs. least_of rank wanted (filter (is_run_within rank live run ceiling) bs)) (past_range start (length live) h) ∙ taken wanted)
  where
    taken : (n : ℕ) → map (ranked rank) (take n []) ≡ []
    taken zero = refl
    taken (suc n) = refl

pub kept_by : (rank : ℕ → ℕ) (live : List Bool) (run wanted start : ℕ) (ceiling : Option ℕ) (count : ℕ) (kept : List Ranked)
    → ((b : ℕ) → start ≤ b → b < start + count → is_run_within rank live run ceiling b ≡ false)
    → IsKeptFrom rank live run ceiling wanted (start + count) kept → IsKeptFrom rank live run ceiling wanted start kept
kept_by rank live run wanted start ceiling zero kept none is = subst (λ n. IsKeptFrom rank live run ceiling wanted n kept) (let e : start + 0 ≡ start = omega arith in e) is
kept_by rank live run wanted start ceiling (suc count) kept none is = elim (cases_lt start (length live)) [
  | inl within ↦ least-from-no rank (is_run_within rank live run ceiling) wanted start (start + 1) (length live) kept refl within (none start (omega arith) (omega arith))
      (kept_by rank live run wanted (start + 1) ceiling count kept (λ b l h. none b (omega arith) (omega arith)) (subst (λ n. IsKeptFrom rank live run ceiling wanted n kept) (let e : start + suc count ≡ (start + 1) + count = omega arith in e) is))
  | inr past ↦ is ∙ ap (λ bs. least_of rank wanted (filter (is_run_within rank live run ceiling) bs)) (past_range (start + suc count) (length live) (omega arith) ∙ sym (past_range start (length live) past))
]

-- where the group's least rank is above the ceiling
pub above_ceiling : (rank : ℕ → ℕ) (live : List Bool) (run : ℕ) (ceiling : Option ℕ) (best b : ℕ) → is_within ceiling best ≡ false → best ≤ rank b → is_run_within rank live run ceiling b ≡ false
above_ceiling rank live run None best b no_ least = absurd (cc)
above_ceiling rank live run (Some ceiling) best b no_ least = ap (λ t. is_free_run live run b && t) (lt-leb (rank b) ceiling (let far = over best no_ in omega (arith, far))) ∙ and_false (is_free_run live run b)
  where
    over : (r : ℕ) → nat_le r ceiling ≡ false → ceiling < r
    over r e = elim (cases_lt ceiling r) [ inl there ↦ there | inr not_ ↦ absurd (both_ways (nat_le r ceiling) e (le-leb r ceiling not_)) ]

-- the end of a group that the disk's last block cuts off
pub kept_at_end : (rank : ℕ → ℕ) (live : List Bool) (run wanted start end : ℕ) (ceiling : Option ℕ) (kept : List Ranked) → (end ≡ start) → IsKeptFrom rank live run ceiling wanted start kept → IsKeptFrom rank live run ceiling wanted end kept
kept_at_end rank live run wanted start end ceiling kept same is = subst (λ n. IsKeptFrom rank live run ceiling wanted n kept) (sym same) is

pub kept_past_end : (rank : ℕ → ℕ) (live : List Bool) (run wanted start end : ℕ) (ceiling : Option ℕ) (kept : List Ranked) → length live ≤ start → length live ≤ end → IsKeptFrom rank live run ceiling wanted start kept → IsKeptFrom rank live run ceiling wanted end kept
kept_past_end rank live run wanted start end ceiling kept one two is = is ∙ ap (λ bs. least_of rank wanted (filter (is_run_within rank live run ceiling) bs)) (past_range start (length live) one ∙ sym (past_range end (length live) two))

-- ---- runs
-- so many blocks in a row are free, but for one
pub broken_run : (live : List Bool) (b n k : ℕ) → b ≤ k → k < b + n → is_free live k ≡ false → is_free_run live n b ≡ false
broken_run live b zero k low high no_ = absurd (omega arith)
broken_run live b (suc n) k low high no_ = elim (cases_lt b k) [
  | inl before ↦ ap (λ t. is_free live b && t) (broken_run live (b + 1) n k (omega arith) (omega arith) no_) ∙ and_false (is_free live b)
  | inr from ↦ let same : k ≡ b = omega arith in ap (λ t. t && list_all (is_free live) (range_with_len (b + 1) n)) (sym (ap (is_free live) same) ∙ no_)
]

-- no block past the last one is free
pub past_is_not_free : (live : List Bool) (k : ℕ) → length live ≤ k → is_free live k ≡ false
past_is_not_free live k h = ap (λ t. t && not (is_live live k)) (le-ltb k (length live) h)

pub free_at : (live : List Bool) (k : ℕ) → k < length live → is_live live k ≡ false → is_free live k ≡ true
free_at live k h no_ = ap (λ t. t && not (is_live live k)) (lt-ltb k (length live) h) ∙ ap not no_

pub live_is_not_free : (live : List Bool) (k : ℕ) → is_live live k ≡ true → is_free live k ≡ false
live_is_not_free live k holds_ = ap (λ t. nat_lt k (length live) && not t) holds_ ∙ and_false (nat_lt k (length live))

-- one block more in front
pub run_more : (live : List Bool) (b next end : ℕ) → next ≡ b + 1 → b < end → is_free live b ≡ true → list_all (is_free live) (range_with_len next (end - next)) ≡ true → list_all (is_free live) (range_with_len b (end - b)) ≡ true
run_more live b next end e h free rest = ap (list_all (is_free live)) (range-from b next end e h) ∙ (ap (λ t. t && list_all (is_free live) (range_with_len next (end - next))) free ∙ rest)
