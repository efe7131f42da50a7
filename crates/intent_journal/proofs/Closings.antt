-- Gates that are closed one after another.
use Rattle.std.proofs.Common.{◌≡◌, ◌≢◌, inl, inr, ℕ, zero, suc, ◌+◌, ◌*◌, ◌<◌, ◌≤◌, ◌==◌, ◌&&◌, nat_le, Bool, true, false, List, length, set, sym, ◌∙◌, ap, arith, add-one}
use Rattle.intent_journal.proofs.Common.{cases_Bool, cases_eq, cond-false, and_right, nat_tests, get_or-set_same, get_or-set_other, Image, records, gate_sector, is_listed_open, later_open, one_if, is_gate_open}

pub later_open_more : (gates : List Bool) (i : ℕ) → 1 ≤ i → later_open gates (i + 1) ≡ later_open gates i + one_if (is_listed_open gates i)
later_open_more gates zero h = absurd (omega arith)
later_open_more gates (suc i) h = ap (later_open gates) (add-one (suc i))

-- the sectors of the gates from 1 on
abbrev pub is_later : ℕ → Bool
is_later n = nat_le 117 n && nat_le n 129

pub later_sector : (i : ℕ) → 0 < i → i < records → gate_sector i ≡ 115 + 2 * i
later_sector i more less = let other : (i == 0) ≡ false = grind (arith, nat_tests) in cond-false (i == 0) 2 (115 + 2 * i) other

pub later_within : (i : ℕ) → 0 < i → i < records → is_later (gate_sector i) ≡ true
later_within i more less = let e = later_sector i more less in grind (arith, nat_tests)

pub gate_apart : (i j : ℕ) → 0 < i → i < records → j < records → j ≢ i → (gate_sector j == gate_sector i) ≡ false
gate_apart i zero more less fits other = let e = later_sector i more less in grind (arith, nat_tests)
gate_apart i (suc j) more less fits other =
    let e = later_sector i more less in
    let k = later_sector (suc j) (omega arith) fits in
    grind (arith, nat_tests)

pub one_gate : (b : Bool) (i : ℕ) → 0 < i → i < records → (n : ℕ) → is_later n ≡ false → (b && (n == gate_sector i)) ≡ false
one_gate b i more less n out = and_right b (n == gate_sector i) (apart n (gate_sector i) (later_within i more less) out)
  where
    apart : (n m : ℕ) → is_later m ≡ true → is_later n ≡ false → (n == m) ≡ false
    apart n m t f = elim (cases_Bool (n == m)) [
      | inl same ↦ let e : n ≡ m = grind (arith, nat_tests) in let k : is_later n ≡ is_later m = ap is_later e in absurd (cc)
      | inr other ↦ other
    ]

-- one gate more is read
pub listed_more : (gates : List Bool) (i : ℕ) (b : Bool) (image : Image) → i < length gates → ((j : ℕ) → j < i → is_listed_open gates j ≡ is_gate_open image j) → b ≡ is_gate_open image i
    → (j : ℕ) → j < i + 1 → is_listed_open (set gates i b) j ≡ is_gate_open image j
listed_more gates i b image within so_far is j less = elim (cases_eq j i) [
  | inl here ↦ ap (λ (k : ℕ). is_listed_open (set gates i b) k) here ∙ get_or-set_same gates i b false within ∙ is ∙ sym (ap (λ (k : ℕ). is_gate_open image k) here)
  | inr other ↦ get_or-set_other gates i j b false other ∙ so_far j (omega arith)
]
