-- Bytes that come in, and the requests that are handed out of them.
use Rattle.std.proofs.Common.{◌≡◌, ◌↔◌, ◌⊎◌, inl, inr, ℕ, zero, suc, ◌+◌, ◌-◌, ◌≤◌, ◌<◌, Bool, true, false, cond, MatchBool, List, [], ◌∷◌, ◌++◌, length, take, drop, min, slice_range, refl, sym, ◌∙◌, ap, subst, arith, append_assoc, append-nil, length-append}
use Rattle.std.proofs.lemmas.List.{length-take, take_all, drop-drop}
use Rattle.std.proofs.Math.Seq.{take-add}
use Rattle.tsd_words.specs.declared.status.Status.{Status}
use Rattle.tsd_words.specs.declared.status.Status.TheVariants as status
use Rattle.serving.specs.declared.protocol.Ending.{Ending}
use Rattle.serving.specs.declared.protocol.Ending.TheVariants as ending
use Rattle.serving.specs.declared.intake.Intake.{Intake}
use Rattle.serving.specs.declared.intake.Next.{Next}
use Rattle.serving.specs.Goes.{unread, remaining, Reads, Handed, IsFoundNext, IsNextAtEnd}
use Rattle.serving.specs.Input.{Spelling, IsSpelling, last, all_requests, completed}
use Rattle.serving.specs.Ran.{AskedBy, Came, IsAtEnd}

-- ---- bytes up to a limit

take_nil : (k : ℕ) → take {A = ℕ} k [] ≡ []
take_nil zero = refl
take_nil (suc k) = refl

take_zero : (zs : List ℕ) → take 0 zs ≡ []
take_zero [] = refl
take_zero (z ∷ zs) = refl

take_limit : (x ys : List ℕ) (limit : ℕ) → length x ≤ limit → take limit (x ++ ys) ≡ x ++ take (limit - length x) ys
take_limit [] ys limit h = let e : limit ≡ limit - 0 = omega arith in ap (λ k. take k ys) e
take_limit (x ∷ xs) ys zero h = absurd (omega arith)
take_limit (x ∷ xs) ys (suc limit) h = let e : limit - length xs ≡ suc limit - suc (length xs) = omega arith in
    ap (λ zs. x ∷ zs) (take_limit xs ys limit (omega arith) ∙ ap (λ k. xs ++ take k ys) e)

take_take : (a b : ℕ) (ys : List ℕ) → take a (take b ys) ≡ take (min b a) ys
take_take a zero ys = let e : 0 ≡ min 0 a = omega arith in ap (take a) (take_zero ys) ∙ take_nil a ∙ sym (take_zero ys) ∙ ap (λ k. take k ys) e
take_take zero (suc b) ys = let e : 0 ≡ min (suc b) 0 = omega arith in take_zero (take (suc b) ys) ∙ sym (take_zero ys) ∙ ap (λ k. take k ys) e
take_take (suc a) (suc b) [] = sym (take_nil (min (suc b) (suc a)))
take_take (suc a) (suc b) (y ∷ ys) = let e : suc (min b a) ≡ min (suc b) (suc a) = omega arith in ap (λ zs. y ∷ zs) (take_take a b ys) ∙ ap (λ k. take k (y ∷ ys)) e

-- of a piece that goes past the limit the part within it counts
within_limit : (x room : List ℕ) (limit count n : ℕ) → length x ≡ count → count ≤ limit → take limit (x ++ take n room) ≡ x ++ take (min n (limit - count)) room
within_limit x room limit count n e h = take_limit x (take n room) limit (omega arith) ∙ ap (λ ys. x ++ ys) (take_take (limit - length x) n room ∙ ap (λ k. take (min n (limit - k)) room) e)

-- within the limit all bytes count
whole_of : (x : List ℕ) (limit count : ℕ) → length x ≡ count → count ≤ limit → take limit x ≡ x
whole_of x limit count e h = take_all limit x (omega arith)

-- ---- what came

pub came_first : (tells : Type 0) (taken left : List ℕ) → Came tells taken taken left left []
came_first tells taken left = record { taken = λ t. sym (append-nil taken); left = λ t. refl }

pub came_more : (tells : Type 0) (taken now new left rest less x p : List ℕ) → Came tells taken now left rest x → (tells → new ≡ now ++ p) → (tells → rest ≡ p ++ less) → Came tells taken new left less (x ++ p)
came_more tells taken now new left rest less x p came e f = record {
  taken = λ t. e t ∙ ap (λ xs. xs ++ p) (came.taken t) ∙ append_assoc taken x p;
  left = λ t. came.left t ∙ ap (λ xs. x ++ xs) (f t) ∙ sym (append_assoc x p less);
}

-- two runs of takes
pub came_then : (tells : Type 0) (taken now new left rest less x y : List ℕ) → Came tells taken now left rest x → Came tells now new rest less y → Came tells taken new left less (x ++ y)
came_then tells taken now new left rest less x y came then = came_more tells taken now new left rest less x y came then.taken then.left

-- a take that found the end
pub came_none : (tells : Type 0) (taken now new left rest less room x : List ℕ) (n : ℕ) → n ≡ 0 → (tells → new ≡ now ++ take n room) → (tells → rest ≡ take n room ++ less)
    → Came tells taken now left rest x → Came tells taken new left less x
came_none tells taken now new left rest less room x n is_zero e f came =
    let none : x ++ take n room ≡ x = ap (λ k. x ++ take k room) is_zero ∙ ap (λ p. x ++ p) (take_zero room) ∙ append-nil x in
    subst (λ y. Came tells taken new left less y) none (came_more tells taken now new left rest less x (take n room) came e f)

-- a take that failed
pub came_same : (tells : Type 0) (taken now new left rest less x : List ℕ) → (tells → (less ≡ rest) × (new ≡ now)) → Came tells taken now left rest x → Came tells taken new left less x
came_same tells taken now new left rest less x same came = record {
  taken = λ t. (same t).1 ∙ came.taken t;
  left = λ t. came.left t ∙ ap (λ xs. x ++ xs) (sym (same t).0);
}

-- the end of the input was found
pub at_the_end : (tells ended : Type 0) (left less room : List ℕ) (n : ℕ) → n ≡ 0 → (n ≡ 0 → ended) → (tells → (n ≡ 0) ↔ (left ≡ [])) → (tells → left ≡ take n room ++ less) → IsAtEnd tells ended less
at_the_end tells ended left less room n none found end bytes = record {
  found = found none;
  nothing = λ t. sym (bytes t ∙ ap (λ k. take k room ++ less) none ∙ ap (λ l. l ++ less) (take_zero room)) ∙ (end t).0 none;
}

-- ---- what is held

-- some of what is held is read
held_on : (room : List ℕ) (from to used : ℕ) → used ≤ length (slice_range room from to) → from ≤ to → slice_range room from to ≡ take used (slice_range room from to) ++ slice_range room (from + used) to
held_on room from to used fits ordered =
    let few : used ≤ to - from = omega (arith, fits, length-take (to - from) (drop from room)) in
    let n : to - from ≡ used + (to - (from + used)) = omega (arith, few, ordered) in
    let front : take used (slice_range room from to) ≡ take used (drop from room) =
    let e : min (to - from) used ≡ used = omega (arith, few) in
    take_take used (to - from) (drop from room) ∙ ap (λ k. take k (drop from room)) e in
    ap (λ k. take k (drop from room)) n ∙ take-add used (to - (from + used)) (drop from room)
    ∙ ap (λ l. take used (drop from room) ++ take (to - (from + used)) l) (drop-drop used from room)
    ∙ ap (λ l. l ++ slice_range room (from + used) to) (sym front)

-- nothing is held
held_none : (room : List ℕ) (from to : ℕ) → from ≡ to → slice_range room from to ≡ []
held_none room from to e = let n : to - from ≡ 0 = omega (arith, e) in ap (λ k. take k (drop from room)) n ∙ take_zero (drop from room)

-- how much may still be handed out
pub left_filled : (i i2 : Intake) (count : ℕ) → i2.limit ≡ i.limit → i2.taken ≡ i.taken + count → i2.from ≡ 0 → i2.to ≡ min count (i.limit - i.taken) → i2.over ≡ i.over → i.taken ≤ i.limit → remaining i2 ≤ remaining i
left_filled i i2 count limit taken from to over few = omega (arith, limit, taken, from, to, few, ap {B = ℕ} (λ b. cond b 0 1) over)

pub left_read : (i i2 : Intake) → i2.limit ≡ i.limit → i2.taken ≡ i.taken → i2.over ≡ i.over → i2.to ≡ i.to → i.from ≤ i2.from → remaining i2 ≤ remaining i
left_read i i2 limit taken over to later = omega (arith, limit, taken, to, later, ap {B = ℕ} (λ b. cond b 0 1) over)

module _ {Q : Type 0} (p : Spelling Q) where
  -- some of what is held was read, and with it at most one request
  pub reads_on : (fed fed2 : List ℕ → Type 0) (i i2 : Intake) (bytes : List ℕ) (qs : List Q) (whole : Bool) (q : Q) (used : ℕ) → Reads p fed i bytes qs
      → i2.limit ≡ i.limit → i2.taken ≡ i.taken → slice_range i2.room i2.from i2.to ≡ slice_range i.room (i.from + used) i.to → i.from ≤ i.to → used ≤ length (unread i)
      → ((x : List ℕ) → fed x → fed2 (x ++ take used (unread i))) → ((x : List ℕ) → fed x → p.requests (x ++ take used (unread i)) ≡ p.requests x ++ completed whole q) → Reads p fed2 i2 bytes (qs ++ completed whole q)
  reads_on fed fed2 i i2 bytes qs whole q used was limit taken rest ordered fits fed_on asks = record {
    long = was.long ∙ sym taken;
    x = was.x ++ take used (unread i);
    was_fed = fed_on was.x was.was_fed;
    parts = append_assoc was.x (take used (unread i)) (unread i2) ∙ ap (λ l. was.x ++ (take used (unread i) ++ l)) rest
        ∙ ap (λ l. was.x ++ l) (sym (held_on i.room i.from i.to used fits ordered)) ∙ was.parts ∙ ap (λ n. take n bytes) (sym limit);
    these = ap (λ l. l ++ completed whole q) was.these ∙ sym (asks was.x was.was_fed);
  }

  -- where nothing is held, what was read is what came, up to the limit
  pub all_read : (fed : List ℕ → Type 0) (i : Intake) (bytes : List ℕ) (qs : List Q) → (was : Reads p fed i bytes qs) → i.from ≡ i.to → was.x ≡ take i.limit bytes
  all_read fed i bytes qs was none = sym (append-nil was.x) ∙ ap (λ l. was.x ++ l) (sym (held_none i.room i.from i.to none)) ∙ was.parts

  pub all_came : (fed : List ℕ → Type 0) (i : Intake) (bytes : List ℕ) (qs : List Q) → (was : Reads p fed i bytes qs) → i.from ≡ i.to → i.taken ≤ i.limit → was.x ≡ bytes
  all_came fed i bytes qs was none few = all_read fed i bytes qs was none ∙ whole_of bytes i.limit i.taken was.long few

  -- more bytes were taken
  pub reads_more : (fed : List ℕ → Type 0) (i i2 : Intake) (bytes room : List ℕ) (qs : List Q) (count : ℕ) → Reads p fed i bytes qs → i.from ≡ i.to → i.taken ≤ i.limit → count ≤ length room
      → i2.limit ≡ i.limit → i2.taken ≡ i.taken + count → i2.from ≡ 0 → i2.to ≡ min count (i.limit - i.taken) → i2.room ≡ room → Reads p fed i2 (bytes ++ take count room) qs
  reads_more fed i i2 bytes room qs count was none few fits limit taken from to same =
      let x = all_came fed i bytes qs was none few in
      let rest : unread i2 ≡ take (min count (i.limit - i.taken)) room =
      (λ j. slice_range (same j) (from j) (to j)) ∙ (let e : min count (i.limit - i.taken) - 0 ≡ min count (i.limit - i.taken) = omega arith in ap (λ k. take k room) e) in
      record {
        long = length-append bytes (take count room) ∙ (let e = length-take count room in omega (arith, e, fits, was.long, taken));
        x = was.x;
        was_fed = was.was_fed;
        parts = ap (λ l. l ++ unread i2) x ∙ ap (λ l. bytes ++ l) rest ∙ sym (within_limit bytes room i.limit i.taken count was.long few) ∙ ap (λ n. take n (bytes ++ take count room)) (sym limit);
        these = was.these;
      }

  -- a take failed
  pub found_fault : (fed : List ℕ → Type 0) (ended : Type 0) (i : Intake) (bytes : List ℕ) (qs : List Q) → Reads p fed i bytes qs → i.from ≡ i.to → i.taken ≤ i.limit → AskedBy status.SourceFault p i.limit bytes ended qs
  found_fault fed ended i bytes qs was none few = (omega (arith, was.long, few), was.these ∙ ap p.requests (all_came fed i bytes qs was none few))

  -- more came than is served
  pub found_long : (fed : List ℕ → Type 0) (ended : Type 0) (i : Intake) (bytes : List ℕ) (qs : List Q) → Reads p fed i bytes qs → i.from ≡ i.to → i.limit < i.taken → i.taken ≤ i.limit + 1 → AskedBy status.TooLong p i.limit bytes ended qs
  found_long fed ended i bytes qs was none more few = (omega (arith, was.long, more, few), was.these ∙ ap p.requests (all_read fed i bytes qs was none))

  -- no request, one more
  pub handed_on : (fed : List ℕ → Type 0) (ended : Type 0) (i : Intake) (bytes : List ℕ) (qs : List Q) → i.over ≡ false → Reads p fed i bytes qs → Handed p fed ended i bytes qs
  handed_on fed ended i bytes qs over was = subst (λ b. MatchBool b (AskedBy status.Done p i.limit bytes ended qs) (Reads p fed i bytes qs)) (sym over) was

  pub reading : (fed : List ℕ → Type 0) (ended : Type 0) (i : Intake) (bytes : List ℕ) (qs : List Q) → i.over ≡ false → Handed p fed ended i bytes qs → Reads p fed i bytes qs
  reading fed ended i bytes qs over was = subst (λ b. MatchBool b (AskedBy status.Done p i.limit bytes ended qs) (Reads p fed i bytes qs)) over was

  pub done_of : (fed : List ℕ → Type 0) (ended : Type 0) (i : Intake) (bytes : List ℕ) (qs : List Q) → i.over ≡ true → Handed p fed ended i bytes qs → AskedBy status.Done p i.limit bytes ended qs
  done_of fed ended i bytes qs over was = subst (λ b. MatchBool b (AskedBy status.Done p i.limit bytes ended qs) (Reads p fed i bytes qs)) over was

  no_more : (bytes : List ℕ) (qs : List Q) (e : Ending Q) → qs ≡ p.requests bytes → e ≡ p.ending bytes → qs ++ last e ≡ all_requests p bytes
  no_more bytes qs e these is = ap (λ l. l ++ last e) these ∙ ap (λ r. p.requests bytes ++ last r) is

  -- the end of the input was found
  found_end : (fed fed2 : List ℕ → Type 0) (ended : Type 0) (i i2 : Intake) (bytes : List ℕ) (qs : List Q) (e : Ending Q) (r : Next) (q : Q) (b was : Bool) → i2.over ≡ b → i2.limit ≡ i.limit → length bytes ≤ i.limit → ended
      → qs ≡ p.requests bytes → e ≡ p.ending bytes → IsNextAtEnd e r q b was → IsFoundNext p fed2 ended i2 bytes qs q r
  found_end fed fed2 ended i i2 bytes qs ending.Nothing r q b was over limit long end these is found =
      subst (λ n. IsFoundNext p fed2 ended i2 bytes qs q n) (sym found.0)
      (omega (arith, long, limit), end, (λ cut. cc), sym (append-nil qs) ∙ no_more bytes qs ending.Nothing these is)
  found_end fed fed2 ended i i2 bytes qs ending.CutOff r q b was over limit long end these is found =
      subst (λ n. IsFoundNext p fed2 ended i2 bytes qs q n) (sym found.0)
      (omega (arith, long, limit), end, sym is, sym (append-nil qs) ∙ no_more bytes qs ending.CutOff these is)
  found_end fed fed2 ended i i2 bytes qs (ending.One q) r into b was over limit long end these is found =
      subst (λ n. IsFoundNext p fed2 ended i2 bytes qs into n) (sym found.0)
      (subst (λ t. MatchBool t (AskedBy status.Done p i2.limit bytes ended (qs ++ into ∷ [])) (Reads p fed2 i2 bytes (qs ++ into ∷ []))) (sym (over ∙ found.1))
      (omega (arith, long, limit), end, (λ cut. cc), ap (λ x. qs ++ x ∷ []) found.2 ∙ no_more bytes qs (ending.One q) these is))

  pub found_at_end : (fed fed2 : List ℕ → Type 0) (ended : Type 0) (i i2 : Intake) (bytes : List ℕ) (qs : List Q) (e : Ending Q) (r : Next) (q : Q) (before : Bool) → Reads p fed i bytes qs → i.from ≡ i.to → i.taken ≤ i.limit → i2.limit ≡ i.limit → ended
      → ((x : List ℕ) → fed x → e ≡ p.ending x) → IsNextAtEnd e r q i2.over before → IsFoundNext p fed2 ended i2 bytes qs q r
  found_at_end fed fed2 ended i i2 bytes qs e r q before was none few limit end is found =
      let x = all_came fed i bytes qs was none few in
      found_end fed fed2 ended i i2 bytes qs e r q i2.over before refl limit (omega (arith, was.long, few)) end (was.these ∙ ap p.requests x) (is was.x was.was_fed ∙ ap p.ending x) found

  -- nothing was read but bytes that end no request
  none_read : (fed : List ℕ → Type 0) (i : Intake) (bytes : List ℕ) (qs : List Q) → Reads p fed i bytes (qs ++ []) → Reads p fed i bytes qs
  none_read fed i bytes qs was = subst (λ l. Reads p fed i bytes l) (append-nil qs) was

  pub read_none : (fed : List ℕ → Type 0) (i : Intake) (bytes : List ℕ) (qs : List Q) (whole : Bool) (q : Q) → whole ≡ false → Reads p fed i bytes (qs ++ completed whole q) → Reads p fed i bytes qs
  read_none fed i bytes qs whole q none was = none_read fed i bytes qs (subst (λ w. Reads p fed i bytes (qs ++ completed w q)) none was)

  -- or bytes that end one
  pub read_one : (fed : List ℕ → Type 0) (i : Intake) (bytes : List ℕ) (qs : List Q) (whole : Bool) (q : Q) → whole ≡ true → Reads p fed i bytes (qs ++ completed whole q) → Reads p fed i bytes (qs ++ q ∷ [])
  read_one fed i bytes qs whole q one was = subst (λ w. Reads p fed i bytes (qs ++ completed w q)) one was

  -- the input was over before
  pub over_end : (tells : Type 0) (taken left : List ℕ) (fed : List ℕ → Type 0) (ended : Type 0) (i : Intake) (bytes : List ℕ) (qs : List Q) → i.over ≡ true → Handed p fed ended i bytes qs
      → (more : List ℕ) × Came tells taken taken left left more × AskedBy status.Done p i.limit (bytes ++ more) ended qs
  over_end tells taken left fed ended i bytes qs over was =
      ([], came_first tells taken left, subst (λ b. AskedBy status.Done p i.limit b ended qs) (sym (append-nil bytes)) (done_of fed ended i bytes qs over was))

  -- nothing was read yet
  pub reads_first : (tells : Type 0) (taken left : List ℕ) (fed : List ℕ → Type 0) (ended : Type 0) (i : Intake) (bytes : List ℕ) (qs : List Q) → i.over ≡ false → Handed p fed ended i bytes qs
      → (more : List ℕ) × Came tells taken taken left left more × Reads p fed i (bytes ++ more) qs
  reads_first tells taken left fed ended i bytes qs over was =
      ([], came_first tells taken left, subst (λ b. Reads p fed i b qs) (sym (append-nil bytes)) (reading fed ended i bytes qs over was))

  -- before the first take
  pub handed_first : (fed : List ℕ → Type 0) (ended : Type 0) (i : Intake) → fed [] → p.requests [] ≡ [] → i.taken ≡ 0 → unread i ≡ [] → i.over ≡ false → Handed p fed ended i [] []
  handed_first fed ended i fresh none taken nothing over =
      handed_on fed ended i [] [] over (record { long = sym taken; x = []; was_fed = fresh; parts = nothing ∙ sym (take_nil i.limit); these = sym none })

  asked_some : IsSpelling p → (fed : List ℕ → Type 0) (ended : Type 0) (i : Intake) (bytes : List ℕ) (qs : List Q) (b : Bool) → i.over ≡ b → Handed p fed ended i bytes qs
      → (more : List Q) × ((qs ++ more ≡ p.requests (take i.limit bytes)) ⊎ ((length bytes ≤ i.limit) × ended × (qs ++ more ≡ all_requests p bytes)))
  asked_some lawful fed ended i bytes qs true over was = let done = done_of fed ended i bytes qs over was in ([], inr (done.0, done.1, append-nil qs ∙ done.3))
  asked_some lawful fed ended i bytes qs false over was =
      let reads = reading fed ended i bytes qs over was in
      let more = lawful.more reads.x (unread i) in
      (more.0, inl (ap (λ l. l ++ more.0) reads.these ∙ sym more.1 ∙ ap p.requests reads.parts))

  -- where a request stopped the run
  pub asked_stopped : IsSpelling p → (why : Status) (fed : List ℕ → Type 0) (ended : Type 0) (i : Intake) (bytes : List ℕ) (qs : List Q) → (why ≡ status.DeviceFault) ⊎ (why ≡ status.PutFault) → Handed p fed ended i bytes qs
      → (more : List Q) × AskedBy why p i.limit bytes ended (qs ++ more)
  asked_stopped lawful why fed ended i bytes qs stops was = elim stops [
    | inl e ↦ subst (λ r. (more : List Q) × AskedBy r p i.limit bytes ended (qs ++ more)) (sym e) (asked_some lawful fed ended i bytes qs i.over refl was)
    | inr e ↦ subst (λ r. (more : List Q) × AskedBy r p i.limit bytes ended (qs ++ more)) (sym e) (asked_some lawful fed ended i bytes qs i.over refl was)
  ]
