-- The journal's bodies are erased once its gates are closed.
use Rattle.std.proofs.Common.{◌≡◌, ℕ, ◌+◌, ◌*◌, ◌<◌, ◌≤◌, Bool, false, ◌==◌, inl, inr, List, [], refl, sym, ◌∙◌, ap, subst, arith, Result, Ok, Err}
use Rattle.volume_laws.proofs.Common.{OnOk, cases_eq, nat_tests, View, IsLeftWithin, IsConfined, IsFirm, weakened, or_false, Image, says_open, gate_sector, home, is_journal, JournalRecord, IsRingAt, home_of_empty, at_closed, at_valid, AreClosed, Stands, tables_of, alike_tables, HasSameData, KeepsData, LeavesWorld, LeavesOwed, owed, Volume, IsVolumeAt, world_on, alike_outside, Failed, on_ok, above_journal}
use Rattle.volume_laws.specs.Erased.{is_body}
use Rattle.volume_laws.proofs.Committed.{agree_stands, same_new}

gate_out : (index : ℕ) → index < 8 → is_body (gate_sector index) ≡ false
gate_out index less = elim (cases_eq index 0) [
  | inl first ↦ ap (λ k. is_body (gate_sector k)) first
  | inr other ↦ later (index == 0) (not_first index other)
]
  where
    not_first : (m : ℕ) → (m ≡ 0 → ⊥) → (m == 0) ≡ false
    not_first m out = grind (arith, nat_tests)

    beyond : (m : ℕ) → 117 ≤ m → is_body m ≡ false
    beyond m h = grind (arith, nat_tests)

    other_one : (m : ℕ) → (m == 0) ≡ false → 1 ≤ m
    other_one m e = grind (arith, nat_tests)

    later : (s : Bool) → (index == 0) ≡ false → is_body (gate_sector index) ≡ false
    later s e = rw e (beyond (115 + 2 * index) (omega (arith, other_one index e)))

outside : (n : ℕ) → is_journal n ≡ false → is_body n ≡ false
outside n out = grind (arith, nat_tests)

module _ (vol : Volume) (old : View) (at : IsVolumeAt vol old) (none : vol.ring ≡ []) where
  ring_old : IsRingAt [] old
  ring_old = subst (λ (rs : List JournalRecord). IsRingAt rs old) none at.ring

  module _ (y : Image) (same : (n : ℕ) → is_body n ≡ false → y n ≡ old.reads n) where
    -- a device that reads so, with nothing loose
    abbrev there : View
    there = record old { reads = y; loose = λ n. false }

    pub ring_there : IsRingAt [] there
    ring_there = at_closed there (λ index less. ap says_open (same (gate_sector index) (gate_out index less)) ∙ ring_old.others_closed index (omega arith) less) (λ n inside. refl)

    pub home_there : (n : ℕ) → is_journal n ≡ false → home y n ≡ home old.reads n
    home_there n out = (λ i. home_of_empty y ring_there.shows i n) ∙ (same n (outside n out) ∙ sym (λ i. home_of_empty old.reads ring_old.shows i n))

    pub stands_there : Stands y (world_on old)
    stands_there = agree_stands vol old y at home_there (at_valid ring_there)

    pub tables_there : tables_of (home y) ≡ vol.tables
    tables_there = alike_tables (home old.reads) (home y) at.good.header (alike_outside (home old.reads) (home y) home_there) ∙ at.tables

  pub erased_moments : (new : View) → IsConfined is_body old new → LeavesWorld old new
  erased_moments new run = weakened old new (IsLeftWithin is_body old) (λ x f. Stands x (world_on old) × (f ≡ old.sent)) run.leaves
      (λ x f left. (stands_there x (λ n out. left.0.agrees n (or_false (is_body n) (old.loose n) out (at.firm n))), left.1))

  pub erased_owed : (new : View) → IsConfined is_body old new → LeavesOwed old new (owed vol.tables)
  erased_owed new run = weakened old new (IsLeftWithin is_body old) (λ x f. owed (tables_of (home x)) ≤ owed vol.tables) run.leaves
      (λ x f left. let e : owed (tables_of (home x)) ≡ owed vol.tables = ap owed (tables_there x (λ n out. left.0.agrees n (or_false (is_body n) (old.loose n) out (at.firm n)))) in omega (arith, e))

  -- the gates stay closed
  pub erased_closed : (new : View) → IsConfined is_body old new → AreClosed new.reads
  erased_closed new run = λ index less. ap says_open (run.reads (gate_sector index) (gate_out index less)) ∙ ring_old.others_closed index (omega arith) less

  -- the device then
  pub erased_new : (now : Volume) (new : View) → now.ring ≡ [] → now.tables ≡ vol.tables → IsConfined is_body old new → IsFirm new → IsVolumeAt now new × (world_on new ≡ world_on old)
  erased_new now new empty kept run firm =
      same_new vol now old new at (home_there new.reads run.reads)
      (subst (λ (rs : List JournalRecord). IsRingAt rs new) (sym empty) (at_closed new (erased_closed new run) (λ n inside. firm n)))
      firm kept

pub erased_ok : {T E : Type 0} (r : Result T E) (vol now : Volume) (old new : View) → IsVolumeAt vol old → vol.ring ≡ [] → now.ring ≡ [] → now.tables ≡ vol.tables → IsConfined is_body old new → OnOk r (IsFirm new) → OnOk r (IsVolumeAt now new × (world_on new ≡ world_on old))
erased_ok (Ok u) vol now old new at none empty kept run firm = erased_new vol old at none now new empty kept run firm
erased_ok (Err e) vol now old new at none empty kept run firm = tt

-- the data stays
pub erased_data : {T : Type 0} (r : Result T Failed) (vol : Volume) (old new : View) → IsVolumeAt vol old → vol.ring ≡ [] → IsConfined is_body old new → KeepsData vol.tables.geometry [] old new r
erased_data r vol old new at none run = record {
  reads = on_ok r (λ n from out. home_there vol old at none new.reads run.reads n (above_journal n (omega (arith, from))));
  left = weakened old new (IsLeftWithin is_body old) (λ x f. HasSameData vol.tables.geometry [] old.reads x) run.leaves (λ x f left n from out.
      home_there vol old at none x (λ m far. left.0.agrees m (or_false (is_body m) (old.loose m) far (at.firm m))) n (above_journal n (omega (arith, from))));
}
