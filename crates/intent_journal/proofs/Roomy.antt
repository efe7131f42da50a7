-- A commit for which the ring may have been emptied first.
use Rattle.std.proofs.Common.{◌≡◌, ◌≢◌, inl, inr, ⊎_elim, ℕ, ◌-◌, false, List, [], ◌∷◌, ◌++◌, length, ◌∙◌, ap, subst, arith}
use Rattle.intent_journal.proofs.Common.{Result, Ok, Err, OnOk, or_parts, or_from, on_ok_weaker, Image, LeavesOnly, View, joined, weakened, Patch, IsBefore, IsBeforeOrAfter, home, overlaid, is_journal, AgreeBut, JournalRecord, length_push, IsRecordWritten}
use Rattle.intent_journal.proofs.Overlays.{overlaid_alike}

module _ (batch : List Patch) (v v1 : View) where
  pub only_made : LeavesOnly v v1 (λ x f. IsBefore v x × (f ≡ v.sent)) → LeavesOnly v v1 (λ x f. IsBeforeOrAfter batch v x × (f ≡ v.sent))
  only_made made = weakened v v1 (λ x f. IsBefore v x × (f ≡ v.sent)) (λ x f. IsBeforeOrAfter batch v x × (f ≡ v.sent)) made (λ x f left. (inl left.0, left.1))

  -- the same home, with the batch in place
  after_same : AgreeBut is_journal (home v.reads) (home v1.reads) → (n : ℕ) → is_journal n ≡ false → overlaid batch (home v1.reads) n ≡ overlaid batch (home v.reads) n
  after_same same n out = overlaid_alike batch (home v.reads) (home v1.reads) n (λ _. same n out)

  pub then_added : (v2 : View) → LeavesOnly v v1 (λ x f. IsBefore v x × (f ≡ v.sent)) → v1.sent ≡ v.sent → AgreeBut is_journal (home v.reads) (home v1.reads) → ((n : ℕ) → v.loose n ≡ false → v1.loose n ≡ false)
      → LeavesOnly v1 v2 (λ x f. IsBeforeOrAfter batch v1 x × (f ≡ v1.sent)) → LeavesOnly v v2 (λ x f. IsBeforeOrAfter batch v x × (f ≡ v.sent))
  then_added v2 made sent same loose more =
      joined v v1 v2 (λ x f. IsBeforeOrAfter batch v x × (f ≡ v.sent)) (λ x f. IsBeforeOrAfter batch v1 x × (f ≡ v1.sent)) (only_made made) more (λ x f left. (
        ⊎_elim
            (λ before. inl (record {
              valid = before.valid;
              stands = λ n out. let p = or_parts (is_journal n) (v.loose n) out in before.stands n (or_from (is_journal n) (v1.loose n) p.0 (loose n p.1)) ∙ same n p.0;
            }))
            (λ after. inr (record { valid = after.valid; stands = λ n out. after.stands n out ∙ after_same same n out }))
            left.0,
        left.1 ∙ sent,
      ))

  pub done_added : {T E : Type 0} (v2 : View) (r : Result T E) → AgreeBut is_journal (home v.reads) (home v1.reads)
      → OnOk r (AgreeBut is_journal (overlaid batch (home v1.reads)) (home v2.reads)) → OnOk r (AgreeBut is_journal (overlaid batch (home v.reads)) (home v2.reads))
  done_added v2 r same done = on_ok_weaker r (λ h n out. h n out ∙ after_same same n out) done

-- where the record of a committed batch stands
pub written_last : {T E : Type 0} (r : Result T E) (mid new : List JournalRecord) (batch : List Patch) (x : Image) → OnOk r (new ≡ mid ++ batch ∷ []) → OnOk r (IsRecordWritten (length mid) batch x)
    → OnOk r (batch ≢ [] → IsRecordWritten (length new - 1) batch x)
written_last (Ok t) mid new batch x is written = λ some.
    let at : length mid ≡ length new - 1 = omega (arith, ap length is, length_push mid batch) in
    subst (λ (k : ℕ). IsRecordWritten k batch x) at written
written_last (Err e) mid new batch x is written = tt
