-- What a crash leaves while a batch is committed.
--
-- While the record is written its gate is closed, so nothing that is written is read. Once it is on the disk its gate alone
-- decides whether the batch counts: read as closed it doesn't, and read as open all of it does.
use Rattle.std.proofs.Common.{◌≡◌, ◌≢◌, inl, inr, ℕ, ◌+◌, ◌<◌, ◌≤◌, ◌==◌, nat_lt, Bool, true, false, List, [], ◌∷◌, ◌++◌, length, Some, sym, ◌∙◌, ap, subst, arith}
use Rattle.intent_journal.proofs.Common.{slice_get, cases_Bool, ne_eqb, eqb-false, ltb-false, or_parts, length_push, Image, IsConfined, IsFirm, LeavesOnly, View, IsLeftNow, IsLeftWithin, joined, weakened, or_false, or_false_left, or_false_right, says_open, gate_bytes, records, bodies, gate_sector, descriptor_sector, body_sector, Patch, IsBatch, homes_of, is_in_record, IsBefore, IsAfter, IsBeforeOrAfter, descriptor_bytes, home, overlaid, is_journal, AgreeBut, JournalRecord, patches_of, open_records, is_gate_open, has_valid_records, IsRing, IsRingAt, is_full_for, IsRecordWritten}
use Rattle.intent_journal.proofs.Bodies.{got_within}
use Rattle.intent_journal.proofs.Gates.{opened_same, valid_same}
use Rattle.intent_journal.proofs.Opened.{SameUsed, opened_kept, opened_more}
use Rattle.intent_journal.proofs.Overlays.{overlaid_alike, overlaid_append}
use Rattle.intent_journal.proofs.Parts.{patches_push}
use Rattle.intent_journal.proofs.Places.{gate_in, descriptor_in, body_in, gates_apart, gate_descriptor_apart, gate_no_body, outside, gate_not_in_record, descriptor_not_in_record, body_not_in_record, home_not_in_record}
use Rattle.intent_journal.proofs.Uses.{journal_alike, at_valid}

-- what the ring's disk stands for now
pub before_now : (rs : List JournalRecord) (v : View) → IsRingAt rs v → (x : Image) (f : List ℕ) → IsLeftNow v x f → IsBefore v x
before_now rs v at x f left =
    let alike = journal_alike v.reads x (λ n inside. left.0.agrees n (at.journal_firm n inside)) in
    record {
      valid = valid_same v.reads x alike ∙ at_valid at;
      stands = λ n out.
          ap (λ (qs : List JournalRecord). overlaid (patches_of qs) x n) (opened_same v.reads x alike)
          ∙ overlaid_alike (patches_of (open_records v.reads)) v.reads x n (λ _. left.0.agrees n (or_false_right (is_journal n) (v.loose n) out));
    }

-- what the writes say, in the ring's own numbers
module _ (rs : List JournalRecord) (batch : List Patch) (old new : View) where
  pub record_run : (index start : ℕ) → index ≡ length rs → start ≡ length (patches_of rs) → IsConfined (is_in_record index start (length batch)) old new
      → IsConfined (λ n. is_in_record (length rs) (length (patches_of rs)) (length batch) n) old new
  record_run index start index_is start_is run =
      subst (λ (k : ℕ). IsConfined (is_in_record (length rs) k (length batch)) old new) start_is (subst (λ (k : ℕ). IsConfined (is_in_record k start (length batch)) old new) index_is run)

pub record_named : (rs : List JournalRecord) (batch : List Patch) (new : View) (index : ℕ) → index ≡ length rs → new.reads (descriptor_sector index) ≡ descriptor_bytes (homes_of batch)
    → new.reads (descriptor_sector (length rs)) ≡ descriptor_bytes (homes_of batch)
record_named rs batch new index is named = ap (λ (k : ℕ). new.reads (descriptor_sector k)) (sym is) ∙ named

pub record_filled : (rs : List JournalRecord) (batch : List Patch) (new : View) (start : ℕ) → start ≡ length (patches_of rs)
    → ((k : ℕ) (p : Patch) → slice_get batch k ≡ Some p → new.reads (body_sector (start + k)) ≡ p.bytes)
    → (k : ℕ) (p : Patch) → slice_get batch k ≡ Some p → new.reads (body_sector (length (patches_of rs) + k)) ≡ p.bytes
record_filled rs batch new start is filled k p found = ap (λ (s : ℕ). new.reads (body_sector (s + k))) (sym is) ∙ filled k p found

-- what a batch behind these records leaves, once its gate is open
pub record IsAdded (rs : List JournalRecord) (batch : List Patch) (v v2 : View) : Type 0 where
  pub sent : v2.sent ≡ v.sent
  pub any_moment : LeavesOnly v v2 (λ x f. IsBeforeOrAfter batch v x × (f ≡ v.sent))
  pub done : AgreeBut is_journal (overlaid batch (home v.reads)) (home v2.reads)
  pub at : IsRingAt (rs ++ batch ∷ []) v2
  pub written : IsRecordWritten (length rs) batch v2.reads

module _ (rs : List JournalRecord) (batch : List Patch) (v : View) (at : IsRingAt rs v) (ring : IsRing rs) (whole : IsBatch batch) (some : batch ≢ []) (room : is_full_for rs (length batch) ≡ false) where
  abbrev P : Image → List ℕ → Type 0
  P x f = IsBeforeOrAfter batch v x × (f ≡ v.sent)

  pub less : length rs < records
  less =
      let other = eqb-false (length rs) records (or_parts (length rs == records) (nat_lt bodies (length (patches_of rs) + length batch)) room).0 in
      omega (arith, ring.most, other)

  pub fits : length (patches_of rs) + length batch ≤ bodies
  fits = ltb-false bodies (length (patches_of rs) + length batch) (or_parts (length rs == records) (nat_lt bodies (length (patches_of rs) + length batch)) room).1

  abbrev in_record : ℕ → Bool
  in_record n = is_in_record (length rs) (length (patches_of rs)) (length batch) n

  -- an image that differs in the new record and in loose sectors alone
  abbrev IsNext : Image → Type 0
  IsNext x = (n : ℕ) → in_record n ≡ false → n ≢ gate_sector (length rs) → v.loose n ≡ false → x n ≡ v.reads n

  home_old : (n : ℕ) → home v.reads n ≡ overlaid (patches_of rs) v.reads n
  home_old n = ap (λ (qs : List JournalRecord). overlaid (patches_of qs) v.reads n) at.shows

  out_of_record : (n : ℕ) → is_journal n ≡ false → in_record n ≡ false
  out_of_record n out = home_not_in_record (length rs) (length (patches_of rs)) (length batch) n less fits out

  no_gate : (n : ℕ) → is_journal n ≡ false → n ≢ gate_sector (length rs)
  no_gate n out = outside (gate_sector (length rs)) n (gate_in (length rs) less) out

  same_used : (x : Image) → IsNext x → SameUsed rs v.reads x
  same_used x next = record {
    gates = λ i below. ap says_open (next (gate_sector i) (gate_not_in_record (length rs) (length (patches_of rs)) (length batch) i fits) (gates_apart i (length rs) (λ e. absurd (omega arith))) (at.journal_firm (gate_sector i) (gate_in i (omega (arith, less)))));
    descriptors = λ i below.
        next (descriptor_sector i) (descriptor_not_in_record (length rs) (length (patches_of rs)) (length batch) i fits (λ e. absurd (omega arith))) (λ e. gate_descriptor_apart (length rs) i (sym e))
        (at.journal_firm (descriptor_sector i) (descriptor_in i (omega (arith, less))));
    each_body = λ k below.
        next (body_sector k) (body_not_in_record (length rs) (length (patches_of rs)) (length batch) k fits below) (λ e. gate_no_body (length rs) k (omega (arith, fits)) (sym e))
        (at.journal_firm (body_sector k) (body_in k (omega (arith, fits))));
  }

  -- behind a closed gate the disk before
  closed_before : (x : Image) → IsNext x → is_gate_open x (length rs) ≡ false → IsBefore v x
  closed_before x next shut =
      let opened = opened_kept rs v.reads x at.shows (same_used x next) (λ _. shut) in
      record {
        valid = opened.1;
        stands = λ n out.
            let away = or_false_left (is_journal n) (v.loose n) out in
            ap (λ (qs : List JournalRecord). overlaid (patches_of qs) x n) opened.0
            ∙ overlaid_alike (patches_of rs) v.reads x n (λ _. next n (out_of_record n away) (no_gate n away) (or_false_right (is_journal n) (v.loose n) out)) ∙ sym (home_old n);
      }

  -- while the record is written
  pub in_writing : (x : Image) (f : List ℕ) → IsLeftWithin in_record v x f → IsBefore v x × (f ≡ v.sent)
  in_writing x f left = (closed_before x (λ n out _ firm. same n out firm) shut, left.1)
    where
      same : (n : ℕ) → in_record n ≡ false → v.loose n ≡ false → x n ≡ v.reads n
      same n out firm = left.0.agrees n (or_false (in_record n) (v.loose n) out firm)

      gate : ℕ
      gate = gate_sector (length rs)

      shut : is_gate_open x (length rs) ≡ false
      shut =
          let kept : x (gate_sector (length rs)) ≡ v.reads (gate_sector (length rs)) =
          same (gate_sector (length rs)) (gate_not_in_record (length rs) (length (patches_of rs)) (length batch) (length rs) fits) (at.journal_firm (gate_sector (length rs)) (gate_in (length rs) less)) in
          ap says_open kept ∙ at.others_closed (length rs) (omega arith) less

  module _ (v1 : View) (run1 : IsConfined in_record v v1) where
    pub writing : LeavesOnly v v1 (λ x f. IsBeforeOrAfter batch v x × (f ≡ v.sent))
    writing = weakened v v1 (IsLeftWithin in_record v) P run1.leaves (λ x f left. let h = in_writing x f left in (inl h.0, h.1))

    module _
        (firm1 : IsFirm v1)
        (named : v1.reads (descriptor_sector (length rs)) ≡ descriptor_bytes (homes_of batch))
        (filled : (k : ℕ) (p : Patch) → slice_get batch k ≡ Some p → v1.reads (body_sector (length (patches_of rs) + k)) ≡ p.bytes)
      where
        -- an image that has the record, whatever its gate's sector holds
        abbrev HasRecord : Image → Type 0
        HasRecord x = (n : ℕ) → n ≢ gate_sector (length rs) → x n ≡ v1.reads n

        all_else : (x : Image) → HasRecord x → (n : ℕ) → in_record n ≡ false → n ≢ gate_sector (length rs) → x n ≡ v.reads n
        all_else x has n out other = has n other ∙ run1.reads n out

        next_shut : (x : Image) → HasRecord x → (i : ℕ) → length rs + 1 ≤ i → i < records → is_gate_open x i ≡ false
        next_shut x has i more below =
            ap says_open (all_else x has (gate_sector i) (gate_not_in_record (length rs) (length (patches_of rs)) (length batch) i fits) (gates_apart i (length rs) (λ e. absurd (omega arith))))
            ∙ at.others_closed i (omega arith) below

        opened_after : (x : Image) → HasRecord x → is_gate_open x (length rs) ≡ true → (open_records x ≡ rs ++ batch ∷ []) × (has_valid_records x ≡ true)
        opened_after x has open_gate = opened_more rs batch v.reads x at.shows (same_used x (λ n out other firm. all_else x has n out other)) less some whole fits open_gate
            (has (descriptor_sector (length rs)) (λ e. gate_descriptor_apart (length rs) (length rs) (sym e)) ∙ named)
            (λ k p found.
            has (body_sector (length (patches_of rs) + k)) (λ e. gate_no_body (length rs) (length (patches_of rs) + k) (omega (arith, fits, got_within batch k p found)) (sym e)) ∙ filled k p found)
            (λ below. next_shut x has (length rs + 1) (omega arith) below)

        -- behind an open gate the disk with the whole batch
        open_after : (x : Image) → HasRecord x → is_gate_open x (length rs) ≡ true → IsAfter batch v x
        open_after x has open_gate = record {
          valid = (opened_after x has open_gate).1;
          stands = λ n out.
              ap (λ (qs : List JournalRecord). overlaid (patches_of qs) x n) (opened_after x has open_gate).0 ∙ ap (λ (qs : List Patch). overlaid qs x n) (patches_push rs batch)
              ∙ (λ i. overlaid_append (patches_of rs) batch x i n)
              ∙ overlaid_alike batch (home v.reads) (overlaid (patches_of rs) x) n (λ _. overlaid_alike (patches_of rs) v.reads x n (λ _. all_else x has n (out_of_record n out) (no_gate n out)) ∙ sym (home_old n));
        }

        -- while the gate is written
        in_gate : (x : Image) (f : List ℕ) → IsLeftWithin (λ n. n == gate_sector (length rs)) v1 x f → P x f
        in_gate x f left = (
          elim (cases_Bool (is_gate_open x (length rs))) [
            | inl open_gate ↦ inr (open_after x has open_gate)
            | inr shut ↦ inl (closed_before x (λ n out other firm. all_else x has n out other) shut)
          ],
          left.1 ∙ run1.sent,
        )
          where
            has : HasRecord x
            has n other = left.0.agrees n (or_false (n == gate_sector (length rs)) (v1.loose n) (ne_eqb n (gate_sector (length rs)) other) (firm1 n))

        module _ (v2 : View) (gate : ℕ) (is : gate ≡ gate_sector (length rs)) (run2 : IsConfined (λ n. n == gate) v1 v2) where
          pub opening : LeavesOnly v v2 (λ x f. IsBeforeOrAfter batch v x × (f ≡ v.sent))
          opening = joined v v1 v2 P (IsLeftWithin (λ n. n == gate_sector (length rs)) v1) writing run.leaves in_gate
            where
              run : IsConfined (λ n. n == gate_sector (length rs)) v1 v2
              run = subst (λ (k : ℕ). IsConfined (λ n. n == k) v1 v2) is run2

          has2 : HasRecord v2.reads
          has2 n other = run2.reads n (ne_eqb n gate (λ e. other (e ∙ is)))

          added_sent : v2.sent ≡ v.sent
          added_sent = run2.sent ∙ run1.sent

          -- in the end
          module _ (opened : says_open (v2.reads gate) ≡ true) where
            open_now : is_gate_open v2.reads (length rs) ≡ true
            open_now = ap (λ (k : ℕ). says_open (v2.reads k)) (sym is) ∙ opened

            added_done : AgreeBut is_journal (overlaid batch (home v.reads)) (home v2.reads)
            added_done = (open_after v2.reads has2 open_now).stands

            added_at : IsFirm v2 → IsRingAt (rs ++ batch ∷ []) v2
            added_at firm2 = record {
              shows = (opened_after v2.reads has2 open_now).0;
              others_closed = λ i more below. next_shut v2.reads has2 i (omega (arith, length_push rs batch)) below;
              journal_firm = λ n _. firm2 n;
            }

          added_written : v2.reads gate ≡ gate_bytes true → IsRecordWritten (length rs) batch v2.reads
          added_written bytes = record {
            gate = ap v2.reads (sym is) ∙ bytes;
            descriptor = has2 (descriptor_sector (length rs)) (λ e. gate_descriptor_apart (length rs) (length rs) (sym e)) ∙ named;
          }

          pub added : v2.reads gate ≡ gate_bytes true → says_open (v2.reads gate) ≡ true → IsFirm v2 → IsAdded rs batch v v2
          added bytes opened firm2 = record {
            sent = added_sent;
            any_moment = opening;
            done = added_done opened;
            at = added_at opened firm2;
            written = added_written bytes;
          }
