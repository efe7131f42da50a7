-- What a crash leaves while a disk carries out one request, its reply is sent, and some work is done behind it.
use Rattle.std.proofs.Common.{◌≡◌, inl, inr, ℕ, ◌≤◌, ◌<◌, false, List, [], ◌++◌, length, take, drop, refl, sym, ◌∙◌, ap, subst, arith, append-nil, take-append-drop, length-drop}
use Rattle.image_device.specs.Image.{Image}
use Rattle.image_device.specs.View.{View, IsLeftInPut, IsSound}
use Rattle.image_device.specs.Runs.{LeavesOnly}
use Rattle.image_device.proofs.Moments.{joined, weakened, ends_in}
use Rattle.tsd_model.specs.declared.requests.Request.{Request}
use Rattle.tsd_model.specs.declared.replies.Reply.{Reply}
use Rattle.serving.specs.Handling.{DiskRules, StandsBeforeOrAfter}
use Rattle.serving.specs.Service.{IsAnswering, IsInAnswer}
use Rattle.serving.specs.Voice.{Voice, spoken}

module _ (k : DiskRules) (v : Voice) (s : k.States) (q : Request) where
  -- a front of a reply was sent
  unfoldable pub answering : (before now : List ℕ) (r : Reply) (t : k.States) (front back : List ℕ) → k.gives s q r t → v.text r ≡ front ++ back → now ≡ before ++ front → IsAnswering (spoken k v) s q before now
  answering before now r t front back given whole sent = record { answer = v.text r; next = t; given = (r, refl, given); front = front; back = back; whole = whole; sent = sent }

  module _ (v0 v1 : View) (leaves : LeavesOnly v0 v1 (λ x f. StandsBeforeOrAfter k s q x × (f ≡ v0.sent))) where
    -- while the request is carried out
    pub any_applied : LeavesOnly v0 v1 (IsInAnswer (spoken k v) s q v0.sent)
    unfolding answering
    any_applied = weakened v0 v1 (λ x f. StandsBeforeOrAfter k s q x × (f ≡ v0.sent)) (IsInAnswer (spoken k v) s q v0.sent) leaves
        (λ x f left. elim left.0 [
          | inl old ↦ inl (old, left.1)
          | inr new ↦ inr (answering v0.sent f new.0 new.1 [] (v.text new.0) new.2 refl (left.1 ∙ sym (append-nil v0.sent)), inl new.3)
        ])

    -- then the reply is sent, or a front of it
    pub any_replied : (v2 : View) (r : Reply) (t : k.States) → v1.sent ≡ v0.sent → k.gives s q r t → ((n : ℕ) → v1.loose n ≡ false) → k.stands t v1.reads → LeavesOnly v1 v2 (IsLeftInPut (v.text r) v1)
        → LeavesOnly v0 v2 (IsInAnswer (spoken k v) s q v0.sent)
    unfolding answering
    any_replied v2 r t sent given firm stands puts = joined v0 v1 v2 (IsInAnswer (spoken k v) s q v0.sent) (IsLeftInPut (v.text r) v1) any_applied puts
        (λ x f left.
        let same : x ≡ v1.reads = (λ i n. left.0.agrees n (firm n) i) in
        inr (answering v0.sent f r t left.1.front left.1.back given left.1.whole (left.1.sent ∙ ap (λ l. l ++ left.1.front) sent), inl (subst (λ y. k.stands t y) (sym same) stands)))

  -- and then something is done that keeps the state
  pub any_settled : (v0 v2 v3 : View) (r : Reply) (t : k.States) → LeavesOnly v0 v2 (IsInAnswer (spoken k v) s q v0.sent) → k.gives s q r t → v2.sent ≡ v0.sent ++ v.text r
      → LeavesOnly v2 v3 (λ x f. k.stands t x × (f ≡ v2.sent)) → LeavesOnly v0 v3 (IsInAnswer (spoken k v) s q v0.sent)
  unfolding answering
  any_settled v0 v2 v3 r t leaves given sent more = joined v0 v2 v3 (IsInAnswer (spoken k v) s q v0.sent) (λ x f. k.stands t x × (f ≡ v2.sent)) leaves more
      (λ x f left. inr (answering v0.sent f r t (v.text r) [] given (sym (append-nil (v.text r))) (left.1 ∙ sent), inl left.0))

  -- a put that failed sent a proper front
  pub put_failed : (before now : List ℕ) (r : Reply) (t final : k.States) → k.gives s q r t → final ≡ t → (n : ℕ) → n < length (v.text r) → now ≡ before ++ take n (v.text r) → (a : IsAnswering (spoken k v) s q before now) × (0 < length a.back) × (final ≡ a.next)
  unfolding answering
  put_failed before now r t final given same n less sent =
      (answering before now r t (take n (v.text r)) (drop n (v.text r)) given (sym (take-append-drop n (v.text r))) sent, omega (arith, length-drop n (v.text r), less), same)

  -- the reply was sent whole
  pub all_put : (before now : List ℕ) (r : Reply) (t : k.States) → k.gives s q r t → now ≡ before ++ v.text r → (a : IsAnswering (spoken k v) s q before now) × (a.back ≡ [])
  unfolding answering
  all_put before now r t given sent = (answering before now r t (v.text r) [] given (sym (append-nil (v.text r))) sent, refl)

-- how much is left to be done, at most so much
module _ (debt : Image → ℕ) (most : ℕ) (v0 v1 : View) where
  pub debt_now : {before : List ℕ} → IsSound v1 → LeavesOnly v0 v1 (λ x f. (debt x ≤ most) × (f ≡ before)) → debt v1.reads ≤ most
  debt_now {before = before} sound leaves = (ends_in v0 v1 (λ x f. (debt x ≤ most) × (f ≡ before)) sound leaves).0

  -- while the reply is sent
  pub debt_replied : (v2 : View) (text : List ℕ) {before : List ℕ} → IsSound v1 → LeavesOnly v0 v1 (λ x f. (debt x ≤ most) × (f ≡ before)) → ((n : ℕ) → v1.loose n ≡ false) → LeavesOnly v1 v2 (IsLeftInPut text v1) → LeavesOnly v0 v2 (λ x f. debt x ≤ most)
  debt_replied v2 text {before = before} sound leaves firm puts =
      joined v0 v1 v2 (λ x f. debt x ≤ most) (IsLeftInPut text v1) (weakened v0 v1 (λ x f. (debt x ≤ most) × (f ≡ before)) (λ x f. debt x ≤ most) leaves (λ x f left. left.0)) puts
      (λ x f left.
      let same : x ≡ v1.reads = (λ i n. left.0.agrees n (firm n) i) in
      subst (λ y. debt y ≤ most) (sym same) (debt_now sound leaves))

  -- while some of it is done
  pub debt_settled : (v2 v3 : View) (text : List ℕ) {before : List ℕ} → IsSound v1 → LeavesOnly v0 v1 (λ x f. (debt x ≤ most) × (f ≡ before)) → ((n : ℕ) → v1.loose n ≡ false) → LeavesOnly v1 v2 (IsLeftInPut text v1) → v2.reads ≡ v1.reads
      → LeavesOnly v2 v3 (λ x f. (debt x ≤ debt v2.reads) × (f ≡ v2.sent)) → LeavesOnly v0 v3 (λ x f. debt x ≤ most)
  debt_settled v2 v3 text {before = before} sound leaves firm puts reads more =
      joined v0 v2 v3 (λ x f. debt x ≤ most) (λ x f. (debt x ≤ debt v2.reads) × (f ≡ v2.sent)) (debt_replied v2 text sound leaves firm puts) more
      (λ x f left. omega (arith, left.0, ap debt reads, debt_now sound leaves))
