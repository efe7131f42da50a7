-- What the crates above need of rings and batches.
use Rattle.std.proofs.Common.{◌≡◌, inl, inr, ℕ, zero, suc, ◌<◌, ◌==◌, not, true, false, IsTrue, List, [], ◌∷◌, length, refl, sym, ◌∙◌, ap, arith}
use Rattle.intent_journal.proofs.Common.{list_all, cases_Bool, nat_tests, Image, put_at, Rests, View, says_open, records, bodies, gate_sector, descriptor_sector, body_sector, Patch, are_apart, is_lawful_home, homes_of, has_home, with_patch, overlaid, home, is_journal, JournalRecord, patches_of, open_records, is_gate_open, has_valid_records, IsRingAt}
use Rattle.intent_journal.proofs.Bools.{and_true_parts, not_true, equal_numbers}
use Rattle.intent_journal.proofs.Overlays.{put_here, put_elsewhere, overlaid_alike, overlaid_missed}
use Rattle.intent_journal.proofs.Opened.{opened_kept, opened_lawful, opened_none}
use Rattle.intent_journal.proofs.Gates.{IsAlike, opened_same}

-- ---- images whose journals are the same
gate_inside : (index : ℕ) → index < records → is_journal (gate_sector index) ≡ true
gate_inside zero less = refl
gate_inside (suc i) less = grind (arith, nat_tests)

descriptor_inside : (index : ℕ) → index < records → is_journal (descriptor_sector index) ≡ true
descriptor_inside zero less = refl
descriptor_inside (suc i) less = grind (arith, nat_tests)

body_inside : (body : ℕ) → body < bodies → is_journal (body_sector body) ≡ true
body_inside body less = grind (arith, nat_tests)

pub journal_alike : (x y : Image) → ((n : ℕ) → is_journal n ≡ true → y n ≡ x n) → IsAlike x y
journal_alike x y same = record {
  gates = λ i less. ap says_open (same (gate_sector i) (gate_inside i less));
  descriptors = λ i less. same (descriptor_sector i) (descriptor_inside i less);
  each_body = λ k less. same (body_sector k) (body_inside k less);
}

-- they stand for the same in each sector that they have the same
pub home_alike : (x y : Image) (n : ℕ) → ((m : ℕ) → is_journal m ≡ true → y m ≡ x m) → y n ≡ x n → home y n ≡ home x n
home_alike x y n same at = ap (λ rs. overlaid (patches_of rs) y n) (opened_same x y (journal_alike x y same)) ∙ overlaid_alike (patches_of (open_records x)) x y n (λ missed. at)

-- a sector that no record has stands for itself
pub home_missed : (x : Image) (n : ℕ) → has_home (patches_of (open_records x)) n ≡ false → home x n ≡ x n
home_missed x n missed = overlaid_missed (patches_of (open_records x)) x n missed

-- patches with lawful homes have no other
pub lawful_missed : (ps : List Patch) (n : ℕ) → list_all is_lawful_home (homes_of ps) ≡ true → is_lawful_home n ≡ false → has_home ps n ≡ false
lawful_missed [] n lawful out = refl
lawful_missed (p ∷ ps) n lawful out =
    let parts = and_true_parts (is_lawful_home p.sector) (list_all is_lawful_home (homes_of ps)) lawful in
    elim (cases_Bool (p.sector == n)) [
      | inl e ↦ let same : is_lawful_home p.sector ≡ is_lawful_home n = ap is_lawful_home (equal_numbers p.sector n e) in absurd (cc)
      | inr e ↦ rw e (lawful_missed ps n parts.1 out)
    ]

-- no open record has an unlawful home
pub opened_missed : (x : Image) (n : ℕ) → is_lawful_home n ≡ false → has_home (patches_of (open_records x)) n ≡ false
opened_missed x n out = lawful_missed (patches_of (open_records x)) n (opened_lawful x) out

-- so such a sector stands for itself
pub home_unlawful : (x : Image) (n : ℕ) → is_lawful_home n ≡ false → home x n ≡ x n
home_unlawful x n out = home_missed x n (opened_missed x n out)

-- ---- where a ring is
-- writes outside the journal leave a ring where it is
pub at_kept : {rs : List JournalRecord} {old new : View} → IsRingAt rs old → ((n : ℕ) → is_journal n ≡ true → (new.reads n ≡ old.reads n) × (new.loose n ≡ false)) → IsRingAt rs new
at_kept {rs} {old} {new} at same = record {
  shows = opened_same old.reads new.reads (journal_alike old.reads new.reads (λ n inside. (same n inside).0)) ∙ at.shows;
  others_closed = λ index from less. ap says_open (same (gate_sector index) (gate_inside index less)).0 ∙ at.others_closed index from less;
  journal_firm = λ n inside. (same n inside).1;
}

-- so do calls that only read
pub at_rested : {rs : List JournalRecord} {old new : View} → IsRingAt rs old → Rests old new → IsRingAt rs new
at_rested {rs} {old} {new} at rests = at_kept at (λ n inside. ((λ i. rests.reads i n), (λ i. rests.loose i n) ∙ at.journal_firm n inside))

-- each record of a ring is valid where the ring is
pub at_valid : {rs : List JournalRecord} {v : View} → IsRingAt rs v → has_valid_records v.reads ≡ true
at_valid {rs} {v} at =
    (opened_kept rs v.reads v.reads at.shows (record { gates = λ i less. refl; descriptors = λ i less. refl; each_body = λ k less. refl }) (λ less. at.others_closed (length rs) (omega arith) less)).1

-- where every gate reads closed, the empty ring is
pub at_closed : (v : View) → ((index : ℕ) → index < records → is_gate_open v.reads index ≡ false) → ((n : ℕ) → is_journal n ≡ true → v.loose n ≡ false) → IsRingAt [] v
at_closed v closed firm = record {
  shows = (opened_none v.reads (closed 0 (omega arith))).0;
  others_closed = λ index from less. closed index less;
  journal_firm = firm;
}

-- ---- batches
-- a patch that is put overlays last
pub overlaid_with_patch : (p : Patch) (ps : List Patch) (x : Image) (n : ℕ) → IsTrue (are_apart (homes_of ps)) → overlaid (with_patch p ps) x n ≡ put_at p.sector p.bytes (overlaid ps x) n
overlaid_with_patch p [] x n d = refl
overlaid_with_patch p (q ∷ qs) x n d =
    let parts = and_true_parts (not (has_home qs q.sector)) (are_apart (homes_of qs)) d in
    elim (cases_Bool (q.sector == p.sector)) [
      | inl e ↦ rw e (in_place e (not_true (has_home qs q.sector) parts.0))
      | inr e ↦ rw e (overlaid_with_patch p qs (put_at q.sector q.bytes x) n parts.1)
    ]
  where
    in_place : (q.sector == p.sector) ≡ true → has_home qs q.sector ≡ false → overlaid qs (put_at p.sector p.bytes x) n ≡ put_at p.sector p.bytes (overlaid qs (put_at q.sector q.bytes x)) n
    in_place e absent = elim (cases_Bool (n == p.sector)) [
      | inl here ↦
          let same : q.sector ≡ n = equal_numbers q.sector p.sector e ∙ sym (equal_numbers n p.sector here) in
          let missed : has_home qs n ≡ false = ap (has_home qs) (sym same) ∙ absent in
          overlaid_missed qs (put_at p.sector p.bytes x) n missed ∙ put_here p.sector p.bytes x n here ∙ sym (put_here p.sector p.bytes (overlaid qs (put_at q.sector q.bytes x)) n here)
      | inr away ↦
          let other : (n == q.sector) ≡ false = ap (λ m. n == m) (equal_numbers q.sector p.sector e) ∙ away in
          overlaid_alike qs (put_at q.sector q.bytes x) (put_at p.sector p.bytes x) n (λ missed. put_elsewhere p.sector p.bytes x n away ∙ sym (put_elsewhere q.sector q.bytes x n other))
          ∙ sym (put_elsewhere p.sector p.bytes (overlaid qs (put_at q.sector q.bytes x)) n away)
    ]
