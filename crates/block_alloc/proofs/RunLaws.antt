-- Whether a run of free blocks begins anywhere.
use Rattle.std.proofs.Common.{inl, inr, ◌≡◌, ℕ, zero, suc, ◌+◌, ◌-◌, ◌<◌, ◌≤◌, Bool, true, false, cond, List, [], ◌∷◌, length, refl, sym, ◌∙◌, ap, subst, arith}
use Rattle.block_alloc.proofs.Common.{filter, range_with_len, cases_eq, cases_lt, is_free_run}
use Rattle.block_alloc.proofs.GroupLaws.{broken_run, past_is_not_free}
use Rattle.block_alloc.proofs.OrderLaws.{filter-from-no}
use Rattle.tsd_model.specs.Verdict.{is_empty}

-- where one of the blocks from a on passes, not none is found
pub found-in : (p : ℕ → Bool) (a len b : ℕ) → a ≤ b → b < a + len → p b ≡ true → is_empty (filter p (range_with_len a len)) ≡ false
found-in p a zero b low high passes = absurd (omega arith)
found-in p a (suc len) b low high passes = elim (cases_eq a b) [
  | inl e ↦ let here : p a ≡ true = ap p e ∙ passes in ap (λ t. is_empty (cond t (a ∷ filter p (range_with_len (a + 1) len)) (filter p (range_with_len (a + 1) len)))) here
  | inr ne ↦ later (p a) (found-in p (a + 1) len b (omega arith) (omega arith) passes)
]
  where
    later : (t : Bool) → is_empty (filter p (range_with_len (a + 1) len)) ≡ false → is_empty (cond t (a ∷ filter p (range_with_len (a + 1) len)) (filter p (range_with_len (a + 1) len))) ≡ false
    later true h = refl
    later false h = h

-- past the last block none is found
pub none_past : (p : ℕ → Bool) (n start : ℕ) → n ≤ start → filter p (range_with_len start (n - start)) ≡ []
none_past p n start h = ap (λ k. filter p (range_with_len start k)) (let none : n - start ≡ 0 = omega arith in none)

-- where none of so many blocks passes, and none behind them is found, none from the first of them on is found
pub none_by : (p : ℕ → Bool) (n start count : ℕ) → ((b : ℕ) → start ≤ b → b < start + count → p b ≡ false)
    → filter p (range_with_len (start + count) (n - (start + count))) ≡ [] → filter p (range_with_len start (n - start)) ≡ []
none_by p n start zero none behind = subst (λ k. filter p (range_with_len k (n - k)) ≡ []) (let e : start + 0 ≡ start = omega arith in e) behind
none_by p n start (suc count) none behind = elim (cases_lt start n) [
  | inl within ↦ filter-from-no p start (start + 1) n refl within (none start (omega arith) (omega arith))
      ∙ none_by p n (start + 1) count (λ b low high. none b (omega arith) (omega arith)) (subst (λ k. filter p (range_with_len k (n - k)) ≡ []) (let e : start + suc count ≡ (start + 1) + count = omega arith in e) behind)
  | inr past ↦ none_past p n start past
]

-- past the last block no run begins
pub no_run_past : (live : List Bool) (run b : ℕ) → 1 ≤ run → length live ≤ b → is_free_run live run b ≡ false
no_run_past live run b some h = broken_run live b run b (omega arith) (omega arith) (past_is_not_free live b h)
