-- A ring whose records are put in place: what is open, and how often is written.
use Rattle.std.proofs.Common.{◌≡◌, inl, inr, ℕ, zero, suc, ◌+◌, ◌<◌, ◌≤◌, nat_lt, Bool, true, false, List, [], ◌∷◌, length, min, sym, ◌∙◌, ap, arith}
use Rattle.intent_journal.proofs.Common.{cases_lt, cond-false, lt-ltb, le-ltb, Image, View, records, gate_sector, Patch, IsListed, is_listed_open, one_if, later_open, closing_writes, JournalRecord, patches_of, open_from, open_records, is_gate_open, IsRing, IsRingAt, last_patches, checkpoint_writes, gate_bytes, ClosesGates}
use Rattle.intent_journal.proofs.Opened.{begins}
use Rattle.intent_journal.proofs.Replaying.{lasts_most}
use Rattle.intent_journal.proofs.Uses.{at_valid}

-- the gates of the open records are open
open_gates_from : (left : ℕ) (x : Image) (index start : ℕ) (rs : List JournalRecord) → open_from x index start left ≡ rs → (i : ℕ) → i < length rs → is_gate_open x (index + i) ≡ true
open_gates_from zero x index start rs is i less = absurd (omega (arith, ap length is))
open_gates_from (suc left) x index start [] is i less = absurd (omega arith)
open_gates_from (suc left) x index start (r ∷ rs) is zero less = ap (is_gate_open x) (omega arith) ∙ (begins x index start left r rs is).gate
open_gates_from (suc left) x index start (r ∷ rs) is (suc i) less =
    let at : index + suc i ≡ index + 1 + i = omega arith in
    ap (is_gate_open x) at ∙ open_gates_from left x (index + 1) (start + length r) rs (begins x index start left r rs is).rest i (omega arith)

pub open_gate_of : (x : Image) (rs : List JournalRecord) → open_records x ≡ rs → (i : ℕ) → i < length rs → is_gate_open x i ≡ true
unfolding open_records
open_gate_of x rs is i less = let at : 0 + i ≡ i = omega arith in ap (is_gate_open x) (sym at) ∙ open_gates_from records x 0 0 rs is i less

-- the gates that are to be closed
pub listed_at : (rs : List JournalRecord) (v : View) (ps : List Patch) (gates : List Bool) (count : ℕ) → IsRingAt rs v → ps ≡ patches_of rs → count ≡ length rs
    → ((i : ℕ) → i < records → is_listed_open gates i ≡ nat_lt i count) → IsListed ps gates v
listed_at rs v ps gates count at is counted listed = record {
  patches = ap patches_of at.shows ∙ sym is;
  valid = at_valid at;
  gates = λ i less. elim (cases_lt i (length rs)) [
    | inl below ↦ listed i less ∙ lt-ltb i count (omega (arith, counted)) ∙ sym (open_gate_of v.reads rs at.shows i below)
    | inr above ↦ listed i less ∙ le-ltb i count (omega (arith, counted)) ∙ sym (at.others_closed i above less)
  ];
  journal_firm = at.journal_firm;
}

-- as many as there are records
one_lt : (i k : ℕ) → min i k + one_if (nat_lt i k) ≡ min (suc i) k
one_lt i k = elim (cases_lt i k) [
  | inl below ↦ let e : one_if (nat_lt i k) ≡ 1 = ap one_if (lt-ltb i k below) in omega (arith, e)
  | inr above ↦ let e : one_if (nat_lt i k) ≡ 0 = ap one_if (le-ltb i k above) in omega (arith, e)
]

first_counted : (gates : List Bool) (k : ℕ) → ((i : ℕ) → i < records → is_listed_open gates i ≡ nat_lt i k) → (i : ℕ) → suc i ≤ records → one_if (is_listed_open gates 0) + later_open gates (suc i) ≡ min (suc i) k
first_counted gates k listed zero within =
    let e : one_if (is_listed_open gates 0) ≡ one_if (nat_lt 0 k) = ap one_if (listed 0 (omega arith)) in omega (arith, e, one_lt 0 k)
first_counted gates k listed (suc i) within =
    let e : one_if (is_listed_open gates (suc i)) ≡ one_if (nat_lt (suc i) k) = ap one_if (listed (suc i) (omega arith)) in
    omega (arith, e, one_lt (suc i) k, first_counted gates k listed i (omega arith))

pub closing_of_ring : (rs : List JournalRecord) (ps : List Patch) (gates : List Bool) (count : ℕ) → IsRing rs → ps ≡ patches_of rs → count ≡ length rs
    → ((i : ℕ) → i < records → is_listed_open gates i ≡ nat_lt i count) → closing_writes ps gates ≤ checkpoint_writes rs
closing_of_ring rs ps gates count ring is counted listed =
    let all : one_if (is_listed_open gates 0) + later_open gates 8 ≡ min 8 count = first_counted gates count listed 7 (omega arith) in
    let same : length (last_patches ps) ≡ length (last_patches (patches_of rs)) = ap (λ (l : List Patch). length (last_patches l)) is in
    let some : closing_writes ps gates ≡ length (last_patches ps) + (one_if (is_listed_open gates 0) + later_open gates 8) = omega arith in
    omega (arith, all, same, some, counted, ring.most)

pub ring_most : (rs : List JournalRecord) → IsRing rs → checkpoint_writes rs ≤ 121
ring_most rs ring = omega (arith, lasts_most (patches_of rs), ring.most, ring.fits)

-- an empty ring has no gate to close
pub none_to_close : (rs : List JournalRecord) (v new : View) → IsRingAt rs v → length rs ≡ 0 → new.reads ≡ v.reads → ClosesGates v.reads new.reads
none_to_close rs v new at none same i less =
    (λ j. same j (gate_sector i)) ∙ sym (cond-false (is_gate_open v.reads i) (gate_bytes false) (v.reads (gate_sector i)) (at.others_closed i (omega (arith, none)) less))
