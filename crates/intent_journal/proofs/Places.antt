-- The journal's sectors are apart from one another.
use Rattle.std.proofs.Common.{◌≡◌, ◌≢◌, inl, inr, ◌⊎◌, ℕ, ◌+◌, ◌*◌, ◌<◌, ◌≤◌, ◌==◌, nat_le, nat_lt, true, false, sym, ◌∙◌, ap, arith}
use Rattle.intent_journal.proofs.Common.{cases_eq, cond-true, cond-false, ne_eqb, eq-eqb, or_from, and_parts, leb-true, ltb-true, false_from_ne_true, and_from, le-leb, both_ways, records, bodies, gate_sector, descriptor_sector, body_sector, is_body_of, is_in_record, is_journal}

-- the sector of a gate
pub gate_cases : (i : ℕ) → ((i ≡ 0) × (gate_sector i ≡ 2)) ⊎ ((0 < i) × (gate_sector i ≡ 115 + 2 * i))
gate_cases i = elim (cases_eq i 0) [
  | inl first ↦ inl (first, cond-true (i == 0) 2 (115 + 2 * i) (eq-eqb i 0 first))
  | inr later ↦ inr (omega arith, cond-false (i == 0) 2 (115 + 2 * i) (ne_eqb i 0 later))
]

pub gates_apart : (i j : ℕ) → i ≢ j → gate_sector i ≢ gate_sector j
gates_apart i j other e = elim (gate_cases i) [
  | inl a ↦ elim (gate_cases j) [
    | inl b ↦ other (omega arith)
    | inr b ↦ absurd (omega arith)
  ]
  | inr a ↦ elim (gate_cases j) [
    | inl b ↦ absurd (omega arith)
    | inr b ↦ other (omega arith)
  ]
]

pub gate_descriptor_apart : (i j : ℕ) → gate_sector i ≢ descriptor_sector j
gate_descriptor_apart i j e = elim (gate_cases i) [
  | inl a ↦ elim (gate_cases j) [
    | inl b ↦ absurd (omega arith)
    | inr b ↦ absurd (omega arith)
  ]
  | inr a ↦ elim (gate_cases j) [
    | inl b ↦ absurd (omega arith)
    | inr b ↦ absurd (omega arith)
  ]
]

pub descriptors_apart : (i j : ℕ) → i ≢ j → descriptor_sector i ≢ descriptor_sector j
descriptors_apart i j other e = gates_apart i j other (omega arith)

-- no gate and no descriptor is a body
pub gate_no_body : (i k : ℕ) → k < bodies → gate_sector i ≢ body_sector k
gate_no_body i k less e = elim (gate_cases i) [
  | inl a ↦ absurd (omega arith)
  | inr a ↦ absurd (omega arith)
]

pub descriptor_no_body : (i k : ℕ) → k < bodies → descriptor_sector i ≢ body_sector k
descriptor_no_body i k less e = elim (gate_cases i) [
  | inl a ↦ absurd (omega arith)
  | inr a ↦ absurd (omega arith)
]

-- all of them are the journal's
pub in_journal : (n : ℕ) → 2 ≤ n → n ≤ 130 → is_journal n ≡ true
in_journal n low high = and_from (nat_le 2 n) (nat_le n 130) (le-leb 2 n low) (le-leb n 130 high)

pub gate_in : (i : ℕ) → i < records → is_journal (gate_sector i) ≡ true
gate_in i less = elim (gate_cases i) [
  | inl a ↦ in_journal (gate_sector i) (omega arith) (omega arith)
  | inr a ↦ in_journal (gate_sector i) (omega arith) (omega arith)
]

pub descriptor_in : (i : ℕ) → i < records → is_journal (descriptor_sector i) ≡ true
descriptor_in i less = elim (gate_cases i) [
  | inl a ↦ in_journal (descriptor_sector i) (omega arith) (omega arith)
  | inr a ↦ in_journal (descriptor_sector i) (omega arith) (omega arith)
]

pub body_in : (k : ℕ) → k < bodies → is_journal (body_sector k) ≡ true
body_in k less = in_journal (body_sector k) (omega arith) (omega arith)

-- a sector outside the journal is none of them
pub outside : (m n : ℕ) → is_journal m ≡ true → is_journal n ≡ false → n ≢ m
outside m n inside out e = both_ways (is_journal n) out (ap is_journal e ∙ inside)

-- ---- the sectors of a record but its gate
pub no_body : (start len n : ℕ) → (body_sector start ≤ n → n < body_sector start + len → ⊥) → is_body_of start len n ≡ false
no_body start len n none = false_from_ne_true (is_body_of start len n) (λ t.
    let p = and_parts (nat_le (body_sector start) n) (nat_lt n (body_sector start + len)) t in
    none (leb-true (body_sector start) n p.0) (ltb-true n (body_sector start + len) p.1))

pub not_in_record : (index start len n : ℕ) → n ≢ descriptor_sector index → (body_sector start ≤ n → n < body_sector start + len → ⊥) → is_in_record index start len n ≡ false
not_in_record index start len n other none = or_from (n == descriptor_sector index) (is_body_of start len n) (ne_eqb n (descriptor_sector index) other) (no_body start len n none)

pub gate_not_in_record : (index start len i : ℕ) → start + len ≤ bodies → is_in_record index start len (gate_sector i) ≡ false
gate_not_in_record index start len i room = not_in_record index start len (gate_sector i) (gate_descriptor_apart i index) (λ low high. elim (gate_cases i) [
  | inl a ↦ absurd (omega arith)
  | inr a ↦ absurd (omega arith)
])

pub descriptor_not_in_record : (index start len i : ℕ) → start + len ≤ bodies → i ≢ index → is_in_record index start len (descriptor_sector i) ≡ false
descriptor_not_in_record index start len i room other = not_in_record index start len (descriptor_sector i) (descriptors_apart i index other) (λ low high. elim (gate_cases i) [
  | inl a ↦ absurd (omega arith)
  | inr a ↦ absurd (omega arith)
])

pub body_not_in_record : (index start len k : ℕ) → start + len ≤ bodies → k < start → is_in_record index start len (body_sector k) ≡ false
body_not_in_record index start len k room less = not_in_record index start len (body_sector k) (λ e. descriptor_no_body index k (omega arith) (sym e)) (λ low high. absurd (omega arith))

pub home_not_in_record : (index start len n : ℕ) → index < records → start + len ≤ bodies → is_journal n ≡ false → is_in_record index start len n ≡ false
home_not_in_record index start len n less room out = not_in_record index start len n (outside (descriptor_sector index) n (descriptor_in index less) out)
    (λ low high. both_ways (is_journal n) out (in_journal n (omega arith) (omega arith)))
