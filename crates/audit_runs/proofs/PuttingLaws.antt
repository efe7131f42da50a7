-- The certificate of a search, put some lines at a time.
use Rattle.std.proofs.Common.{◌≡◌, ℕ, ◌+◌, ◌<◌, List, ◌++◌, length, take, refl, sym, ◌∙◌, ap, arith, append_assoc, length-append}
use Rattle.std.proofs.Math.Seq.{take-append-add}
use Rattle.std.proofs.lemmas.List.{take-append-le}
use Rattle.image_device.specs.View.{View, IsLeftInPut, IsPart}
use Rattle.image_device.specs.Calls.{Puts}
use Rattle.image_device.specs.Runs.{LeavesOnly}
use Rattle.image_device.proofs.Moments.{joined}

-- ---- one page more was put

-- a part of the rest is a part of the whole
part_of_rest : (before done rest text middle now : List ℕ) → text ≡ done ++ rest → middle ≡ before ++ done → IsPart middle rest now → IsPart before text now
part_of_rest before done rest text middle now split sent part = record {
  front = done ++ part.front;
  back = part.back;
  sent = part.sent ∙ ap (λ l. l ++ part.front) sent ∙ append_assoc before done part.front;
  whole = split ∙ ap (λ l. done ++ l) part.whole ∙ sym (append_assoc done part.front part.back);
}

-- the counts over one put more
pub put_more : (old mid new : View) → Puts old mid → Puts mid new → Puts old new
put_more old mid new a b = record { clock = omega (arith, a.clock, b.clock); faults = b.faults ∙ a.faults; put_faults = omega (arith, a.put_faults, b.put_faults); writes = b.writes ∙ a.writes }

module _ (v0 v v' : View) (done page rest text : List ℕ) (split : text ≡ done ++ (page ++ rest)) (sent : v.sent ≡ v0.sent ++ done) (reads : v.reads ≡ v0.reads) (loose : v.loose ≡ v0.loose) where
  pub page_leaves : LeavesOnly v0 v (IsLeftInPut text v0) → LeavesOnly v v' (IsLeftInPut page v) → LeavesOnly v0 v' (IsLeftInPut text v0)
  page_leaves before putting = joined v0 v v' (IsLeftInPut text v0) (IsLeftInPut page v) before putting (λ x f left. (
    record { agrees = λ n h. left.0.agrees n ((λ i. loose i n) ∙ h) ∙ (λ i. reads i n); whole = left.0.whole },
    (let p = part_of_rest v0.sent done page (done ++ page) v.sent f refl sent left.1 in record {
      front = p.front;
      back = p.back ++ rest;
      sent = p.sent;
      whole = split ∙ sym (append_assoc done page rest) ∙ ap (λ l. l ++ rest) p.whole ∙ append_assoc p.front p.back rest;
    }),
  ))

  pub page_sent : v'.sent ≡ v.sent ++ page → v'.sent ≡ v0.sent ++ (done ++ page)
  page_sent is = is ∙ ap (λ l. l ++ page) sent ∙ append_assoc v0.sent done page

  -- of a page that wasn't put whole a front was sent
  pub page_cut : (n : ℕ) → n < length page → v'.sent ≡ v.sent ++ take n page → (t : ℕ) × (t < length text) × (v'.sent ≡ v0.sent ++ take t text)
  page_cut n less is =
      let longer : length text ≡ length done + length (page ++ rest) = ap length split ∙ length-append done (page ++ rest) in
      let page_long = length-append page rest in
      let inner : take n (page ++ rest) ≡ take n page = take-append-le n page rest (omega (arith, less)) in
      let front : take (length done + n) text ≡ done ++ take n page = ap (λ l. take (length done + n) l) split ∙ take-append-add done (page ++ rest) n ∙ ap (λ l. done ++ l) inner in
      (length done + n, omega (arith, longer, page_long, less), is ∙ ap (λ l. l ++ take n page) sent ∙ append_assoc v0.sent done (take n page) ∙ ap (λ l. v0.sent ++ l) (sym front))
