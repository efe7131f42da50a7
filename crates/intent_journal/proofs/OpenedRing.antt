-- The open records of an image of whole sectors make a ring.
use Rattle.std.proofs.Common.{◌≡◌, ◌≢◌, ℕ, zero, suc, ◌+◌, ◌<◌, ◌≤◌, true, List, [], ◌∷◌, length, map, get_or, refl, ◌∙◌, ap, subst, arith, Some}
use Rattle.intent_journal.proofs.Common.{list_all, slice_get, range_with_len, Image, IsSector, records, body_sector, Patch, are_apart, is_lawful_home, IsBatch, count_in, home_in, is_valid, JournalRecord, record_at, open_from, open_records, descriptor_of, IsRing}
use Rattle.intent_journal.proofs.Opened.{begins, length_record, valid_parts, homes_of_record, opened_most}

some_record : (r : List Patch) → 1 ≤ length r → r ≢ []
some_record [] some = absurd (omega arith)
some_record (p ∷ ps) some = λ e. cc

-- what is made of numbers in a row is made of one of them
made_of : {X : Type 0} (f : ℕ → X) (a n i : ℕ) (p : X) → slice_get (map f (range_with_len a n)) i ≡ Some p → (k : ℕ) × (f k ≡ p)
made_of f a zero i p at = absurd (cc)
made_of f a (suc n) zero p at = (a, cc)
made_of f a (suc n) (suc i) p at = made_of f (a + 1) n i p at

record_whole : (x : Image) (index start : ℕ) → ((n : ℕ) → IsSector (x n)) → (i : ℕ) (p : Patch) → slice_get (record_at x index start) i ≡ Some p → IsSector p.bytes
record_whole x index start whole i p at =
    let made = made_of (λ k. record { sector = home_in (descriptor_of x index) k; bytes = x (body_sector (start + k)) }) 0 (count_in (descriptor_of x index)) i p at in
    subst (λ (q : Patch). IsSector q.bytes) made.1 (whole (body_sector (start + made.0)))

record_batch : (x : Image) (index start : ℕ) → ((n : ℕ) → IsSector (x n)) → is_valid start (descriptor_of x index) ≡ true → IsBatch (record_at x index start) × (record_at x index start ≢ [])
record_batch x index start whole valid =
    let v = valid_parts start (descriptor_of x index) valid in
    let homes = homes_of_record x index start in (
      record {
        most = omega (arith, length_record x index start, v.room);
        distinct = ap are_apart homes ∙ v.distinct;
        lawful = ap (list_all is_lawful_home) homes ∙ v.lawful;
        whole = record_whole x index start whole;
      },
      some_record (record_at x index start) (omega (arith, length_record x index start, v.some)),
    )

each_from : (left index start : ℕ) (x : Image) (rs : List JournalRecord) → ((n : ℕ) → IsSector (x n)) → open_from x index start left ≡ rs → (k : ℕ) (d : JournalRecord) → k < length rs → IsBatch (get_or rs k d) × (get_or rs k d ≢ [])
each_from left index start x [] whole is k d less = absurd (omega arith)
each_from zero index start x (r ∷ rs) whole is k d less = absurd (cc)
each_from (suc left) index start x (r ∷ rs) whole is zero d less =
    let b = begins x index start left r rs is in
    subst (λ (q : JournalRecord). IsBatch q × (q ≢ [])) b.first (record_batch x index start whole b.valid)
each_from (suc left) index start x (r ∷ rs) whole is (suc k) d less =
    each_from left (index + 1) (start + length r) x rs whole (begins x index start left r rs is).rest k d (omega arith)

pub opened_ring : (x : Image) → ((n : ℕ) → IsSector (x n)) → IsRing (open_records x)
unfolding open_records
opened_ring x whole = record {
  most = (opened_most x).0;
  fits = (opened_most x).1;
  each = λ r has. subst (λ (q : JournalRecord). IsBatch q × (q ≢ [])) has.2 (each_from records 0 0 x (open_records x) whole refl has.0 r has.1);
}
