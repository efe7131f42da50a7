-- A text that is put piece by piece.
use Rattle.std.proofs.Common.{◌≡◌, ℕ, ◌+◌, ◌<◌, List, ◌++◌, length, take, drop, sym, ◌∙◌, ap, arith, append_assoc, take-append-drop, length-append}
use Rattle.std.proofs.Math.Seq.{take-append-add}
use Rattle.image_device.specs.View.{View, IsPart, IsLeftInPut}
use Rattle.image_device.specs.Calls.{Appends, Puts}
use Rattle.image_device.specs.Runs.{LeavesOnly}
use Rattle.image_device.proofs.Moments.{goes_on}

-- a part of the rest is a part of the whole
pub part_of_rest : (before done rest text middle now : List ℕ) → text ≡ done ++ rest → middle ≡ before ++ done → IsPart middle rest now → IsPart before text now
part_of_rest before done rest text middle now split sent part = record {
  front = done ++ part.front;
  back = part.back;
  sent = part.sent ∙ ap (λ l. l ++ part.front) sent ∙ append_assoc before done part.front;
  whole = split ∙ ap (λ l. done ++ l) part.whole ∙ sym (append_assoc done part.front part.back);
}

pub split_more : (done rest text : List ℕ) → text ≡ done ++ rest → (t : ℕ) → text ≡ (done ++ take t rest) ++ drop t rest
split_more done rest text split t = split ∙ ap (λ l. done ++ l) (sym (take-append-drop t rest)) ∙ sym (append_assoc done (take t rest) (drop t rest))

module _ (v0 v v' : View) (done rest text : List ℕ) (split : text ≡ done ++ rest) (sent : v.sent ≡ v0.sent ++ done) (reads : v.reads ≡ v0.reads) (loose : v.loose ≡ v0.loose) where
  -- one put more
  pub puts_on : LeavesOnly v0 v (IsLeftInPut text v0) → Appends rest v v' → LeavesOnly v0 v' (IsLeftInPut text v0)
  puts_on so_far more = goes_on v0 v v' (IsLeftInPut text v0) (IsLeftInPut rest v) so_far more.time (λ x f left. (
    record { agrees = λ n h. left.0.agrees n ((λ i. loose i n) ∙ h) ∙ (λ i. reads i n); whole = left.0.whole },
    part_of_rest v0.sent done rest text v.sent f split sent left.1,
  ))

  pub sent_more : (t : ℕ) → v'.sent ≡ v.sent ++ take t rest → v'.sent ≡ v0.sent ++ (done ++ take t rest)
  sent_more t is = is ∙ ap (λ l. l ++ take t rest) sent ∙ append_assoc v0.sent done (take t rest)

  -- a put that failed took no more than a part of the rest
  pub part_more : (n : ℕ) → n < length rest → v'.sent ≡ v.sent ++ take n rest → (t : ℕ) × (t < length text) × (v'.sent ≡ v0.sent ++ take t text)
  part_more n less is =
      let longer : length text ≡ length done + length rest = ap length split ∙ length-append done rest in
      let front : take (length done + n) text ≡ done ++ take n rest = ap (λ l. take (length done + n) l) split ∙ take-append-add done rest n in
      (length done + n, omega arith, sent_more n is ∙ ap (λ l. v0.sent ++ l) (sym front))

-- the counts over one put more
pub put_more : (old mid new : View) → Puts old mid → Puts mid new → Puts old new
put_more old mid new a b = record { clock = omega (arith, a.clock, b.clock); faults = b.faults ∙ a.faults; put_faults = omega (arith, a.put_faults, b.put_faults); writes = b.writes ∙ a.writes }
