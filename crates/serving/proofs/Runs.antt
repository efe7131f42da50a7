-- One request more is answered, and its answer sent in full or in part.
use Rattle.std.proofs.Common.{◌≡◌, ◌⊎◌, inl, inr, ℕ, ◌+◌, ◌<◌, List, [], ◌∷◌, ◌++◌, length, refl, sym, ◌∙◌, ap, subst, arith, append_assoc, append-nil}
use Rattle.image_device.specs.Image.{Image}
use Rattle.serving.specs.Service.{Service, IsCounted, IsAnswering, IsInAnswer, IsNotYetAfter}
use Rattle.serving.specs.Runs.{Run, texts, Served, IsBroken, IsCutOff}
use Rattle.serving.specs.Seen.{IsSeen, IsLeftInRun}

module _ {Q : Type 0} (k : Service Q) where
  unfoldable pub run_next : (s m t : k.States) (qs : List Q) (xs : List (List ℕ)) (q : Q) (a : List ℕ) → Run k s qs xs m → k.gives m q a t → Run k s (qs ++ q ∷ []) (xs ++ a ∷ []) t
  run_next s m t [] [] q a run given = (t, subst (λ u. k.gives u q a t) (sym run) given, refl)
  run_next s m t [] (o ∷ xs) q a run given = absurd run
  run_next s m t (p ∷ qs) [] q a run given = absurd run
  run_next s m t (p ∷ qs) (o ∷ xs) q a run given = (run.0, run.1, run_next run.0 m t qs xs q a run.2 given)

pub texts-append : (xs more : List (List ℕ)) → texts (xs ++ more) ≡ texts xs ++ texts more
texts-append [] more = refl
texts-append (a ∷ xs) more = ap (λ ys. a ++ ys) (texts-append xs more) ∙ sym (append_assoc a (texts xs) (texts more))

pub texts-next : (xs : List (List ℕ)) (a : List ℕ) → texts (xs ++ a ∷ []) ≡ texts xs ++ a
texts-next xs a = texts-append xs (a ∷ []) ∙ ap (λ ys. texts xs ++ ys) (append-nil a)

-- an answer more after those that were sent
pub sent_next : (before now f : List ℕ) (xs : List (List ℕ)) (a : List ℕ) → now ≡ before ++ texts xs → f ≡ now ++ a → f ≡ before ++ texts (xs ++ a ∷ [])
sent_next before now f xs a sent is = is ∙ ap (λ l. l ++ a) sent ∙ append_assoc before (texts xs) a ∙ ap (λ l. before ++ l) (sym (texts-next xs a))

-- a front of one more
pub sent_front : (before now f : List ℕ) (xs : List (List ℕ)) (front : List ℕ) → now ≡ before ++ texts xs → f ≡ now ++ front → f ≡ before ++ (texts xs ++ front)
sent_front before now f xs front sent is = is ∙ ap (λ l. l ++ front) sent ∙ append_assoc before (texts xs) front

pub some_or_none : (xs : List ℕ) → (xs ≡ []) ⊎ (0 < length xs)
some_or_none [] = inl refl
some_or_none (x ∷ xs) = inr (omega arith)

-- all of an answer is its front, where nothing is behind it
pub all_sent : (a now f front back : List ℕ) → a ≡ front ++ back → f ≡ now ++ front → back ≡ [] → f ≡ now ++ a
all_sent a now f front back whole is none = is ∙ ap (λ l. now ++ l) (sym (whole ∙ ap (λ b. front ++ b) none ∙ append-nil front))

-- a service whose answers part in one way
module _ {Q : Type 0} (k : Service Q) (counted : IsCounted k) where
  -- the answers of a run are counted
  pub acked_run : (s t : k.States) (qs : List Q) (xs : List (List ℕ)) (f : List ℕ) → Run k s qs xs t → k.acked (texts xs ++ f) ≡ length qs + k.acked f
  acked_run s t [] [] f run = omega arith
  acked_run s t [] (a ∷ xs) f run = absurd run
  acked_run s t (q ∷ qs) [] f run = absurd run
  acked_run s t (q ∷ qs) (a ∷ xs) f run =
      let rest : k.acked (texts xs ++ f) ≡ length qs + k.acked f = acked_run run.0 t qs xs f run.2 in
      ap k.acked (append_assoc a (texts xs) f) ∙ counted.whole s q a run.0 (texts xs ++ f) run.1 ∙ omega (arith, rest)

  module _ (s : k.States) (before : List ℕ) where
    pub broken : (qs more : List Q) (m : k.States) (now : List ℕ) → Served k s before qs m now → (b : IsBroken k s before (qs ++ more) now) × (b.state ≡ m)
    broken qs more m now served = (
      record {
        answered = qs;
        rest = more;
        parts = refl;
        answers = served.answers;
        state = m;
        run = served.run;
        sent = served.sent;
        count =
            let all : k.acked (texts served.answers ++ []) ≡ length qs + k.acked [] = acked_run s m qs served.answers [] served.run in
            sym (ap k.acked (append-nil (texts served.answers))) ∙ omega (arith, all, counted.nothing);
      },
      refl,
    )

    pub cut_off : (qs : List Q) (m : k.States) (now f : List ℕ) (q : Q) → (served : Served k s before qs m now) → (a : IsAnswering k m q now f) → 0 < length a.back
        → (c : IsCutOff k s before (qs ++ q ∷ []) f) × (c.state ≡ m) × (c.next ≡ a.next) × (c.request ≡ q) × (c.answer ≡ a.answer)
        × ((left : Image → List ℕ → Type 0) → IsSeen k left m (before ++ texts served.answers) → IsSeen k left c.state (before ++ texts c.answers))
    cut_off qs m now f q served a some = (
      record {
        answered = qs;
        request = q;
        rest = [];
        parts = refl;
        answers = served.answers;
        state = m;
        run = served.run;
        answer = a.answer;
        next = a.next;
        given = a.given;
        front = a.front;
        back = a.back;
        whole = a.whole;
        some = some;
        sent = sent_front before now f served.answers a.front served.sent a.sent;
        count =
            let all : k.acked (texts served.answers ++ a.front) ≡ length qs + k.acked a.front = acked_run s m qs served.answers a.front served.run in
            let none : k.acked a.front ≡ 0 = counted.part m q a.answer a.next a.front a.back a.given a.whole some in
            omega (arith, all, none);
      },
      refl,
      refl,
      refl,
      refl,
      λ left seen. seen,
    )

    pub served_next : (qs : List Q) (m t : k.States) (now f : List ℕ) (q : Q) (a : List ℕ) → Served k s before qs m now → k.gives m q a t → f ≡ now ++ a → Served k s before (qs ++ q ∷ []) t f
    served_next qs m t now f q a served given is = record {
      answers = served.answers ++ a ∷ [];
      run = run_next k s m t qs served.answers q a served.run given;
      sent = sent_next before now f served.answers a served.sent is;
    }

    module _ (left : Image → List ℕ → Type 0) where
      -- between two requests
      pub at_rest : (qs more : List Q) (m : k.States) (now f : List ℕ) (x : Image) → Served k s before qs m now → k.stands m x → f ≡ now → IsLeftInRun k left s before (qs ++ more) x f
      at_rest qs more m now f x served stands is =
          let b = broken qs more m now served in
          subst (λ g. IsLeftInRun k left s before (qs ++ more) x g) (sym is) (inl (b.0, subst (λ u. k.stands u x) (sym b.1) stands))

      -- the answer was sent whole
      after_answer : (qs : List Q) (m : k.States) (now f : List ℕ) (q : Q) (x : Image) → Served k s before qs m now → (a : IsAnswering k m q now f) → a.back ≡ [] → k.stands a.next x → IsLeftInRun k left s before (qs ++ q ∷ []) x f
      after_answer qs m now f q x served a none stands =
          subst (λ l. IsLeftInRun k left s before l x f) (append-nil (qs ++ q ∷ []))
          (at_rest (qs ++ q ∷ []) [] a.next f f x (served_next qs m a.next now f q a.answer served a.given (all_sent a.answer now f a.front a.back a.whole a.sent none)) stands refl)

      -- a front of it was sent
      in_front : (qs : List Q) (m : k.States) (now f : List ℕ) (q : Q) (x : Image) → Served k s before qs m now → IsSeen k left m now → (a : IsAnswering k m q now f) → 0 < length a.back → k.stands a.next x ⊎ IsNotYetAfter k m q x → IsLeftInRun k left s before (qs ++ q ∷ []) x f
      in_front qs m now f q x served seen a some stands =
          let c = cut_off qs m now f q served a some in
          inr (
            c.0,
            c.5 left (subst (λ g. IsSeen k left m g) served.sent seen),
            elim stands [
              | inl after ↦ inr (subst (λ u. k.stands u x) (sym c.2) after)
              | inr old ↦ inl (subst (λ u. IsNotYetAfter k u c.0.request x) (sym c.1) (subst (λ r. IsNotYetAfter k m r x) (sym c.3) old))
            ],
          )

      -- while a request is answered
      pub in_answer : (qs : List Q) (m : k.States) (now f : List ℕ) (q : Q) (x : Image) → Served k s before qs m now → IsSeen k left m now → IsInAnswer k m q now x f → IsLeftInRun k left s before (qs ++ q ∷ []) x f
      in_answer qs m now f q x served seen was = elim was [
        | inl old ↦ at_rest qs (q ∷ []) m now f x served old.0 old.1
        | inr part ↦ elim part.1 [
          | inl after ↦ elim (some_or_none part.0.back) [
            | inl none ↦ after_answer qs m now f q x served part.0 none after
            | inr some ↦ in_front qs m now f q x served seen part.0 some (inl after)
          ]
          | inr old ↦ in_front qs m now f q x served seen part.0 old.1 (inr old.0)
        ]
      ]

-- more requests behind
module _ {Q : Type 0} (k : Service Q) (s : k.States) (before : List ℕ) (qs more : List Q) where
  unfoldable pub broken_longer : (now : List ℕ) → IsBroken k s before qs now → IsBroken k s before (qs ++ more) now
  broken_longer now b = record {
    answered = b.answered;
    rest = b.rest ++ more;
    parts = ap (λ l. l ++ more) b.parts ∙ append_assoc b.answered b.rest more;
    answers = b.answers;
    state = b.state;
    run = b.run;
    sent = b.sent;
    count = b.count;
  }

  unfoldable pub cut_off_longer : (now : List ℕ) → IsCutOff k s before qs now → IsCutOff k s before (qs ++ more) now
  cut_off_longer now c = record {
    answered = c.answered;
    request = c.request;
    rest = c.rest ++ more;
    parts = ap (λ l. l ++ more) c.parts ∙ append_assoc c.answered (c.request ∷ c.rest) more;
    answers = c.answers;
    state = c.state;
    run = c.run;
    answer = c.answer;
    next = c.next;
    given = c.given;
    front = c.front;
    back = c.back;
    whole = c.whole;
    some = c.some;
    sent = c.sent;
    count = c.count;
  }
