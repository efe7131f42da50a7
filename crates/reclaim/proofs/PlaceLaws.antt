-- Counts that are raised at some places, and marks that are cleared.
use Rattle.std.proofs.Common.{◌≡◌, ℕ, zero, suc, ◌+◌, ◌<◌, true, false, cond, ◌||◌, List, length, get_or, sym, ◌∙◌, ap, arith, take, inl, inr, refl}
use Rattle.reclaim.proofs.Common.{eq-eqb, ne_eqb, cases_eq, get_or-set_same, get_or-set_other, slice_index, slice_set, replicate, has_number, are_apart, is_gone}
use Rattle.reclaim.proofs.HeldLaws.{not_before, has-take_more}
use Rattle.tsd_model.proofs.ValueLaws.{or_false, or_true}

-- one place more is raised
pub raised_next : (xs : List ℕ) (i : ℕ) (old now new : List ℕ) → are_apart xs ≡ true → i < length xs → get_or xs i 0 < length now
    → ((b : ℕ) → slice_index now b ≡ cond (has_number (take i xs) b) 1 0 + slice_index old b)
    → new ≡ slice_set now (get_or xs i 0) (slice_index now (get_or xs i 0) + 1)
    → (b : ℕ) → slice_index new b ≡ cond (has_number (take (i + 1) xs) b) 1 0 + slice_index old b
raised_next xs i old now new once h within before is b = ap (λ ys. slice_index ys b) is ∙ elim (cases_eq b t) [
  | inl same ↦ ap (slice_index (slice_set now t (slice_index now t + 1))) same ∙ (get_or-set_same now t (slice_index now t + 1) 0 within
      ∙ (let one : slice_index now t + 1 ≡ 1 + slice_index old t = omega (arith, here) in one
      ∙ sym (ap (λ k. cond (has_number (take (i + 1) xs) k) 1 0 + slice_index old k) same ∙ ap (λ s. cond s 1 0 + slice_index old t) held)))
  | inr other ↦ get_or-set_other now t b (slice_index now t + 1) 0 other ∙ (before b ∙ sym (ap (λ s. cond s 1 0 + slice_index old b) (has-take_more xs i b h
      ∙ (ap (λ s. has_number (take i xs) b || s) (ne_eqb t b (λ e. other (sym e))) ∙ or_false (has_number (take i xs) b)))))
]
  where
    t : ℕ
    t = get_or xs i 0

    here : slice_index now t ≡ 0 + slice_index old t
    here = before t ∙ ap (λ s. cond s 1 0 + slice_index old t) (not_before xs i once h)

    held : has_number (take (i + 1) xs) t ≡ true
    held = has-take_more xs i t h ∙ (ap (λ s. has_number (take i xs) t || s) (eq-eqb t t refl) ∙ or_true (has_number (take i xs) t))

-- ---- no mark

pub none_marked : (n b : ℕ) → is_gone (replicate n false) b ≡ false
none_marked zero b = refl
none_marked (suc n) zero = refl
none_marked (suc n) (suc b) = none_marked n b
