-- Runs one behind the other.
use Rattle.std.proofs.Common.{◌≡◌, ℕ, List, [], ◌∷◌, ◌++◌, refl, sym, ◌∙◌, ap, subst, append_assoc, append-nil}
use Rattle.image_device.specs.Image.{Image}
use Rattle.image_device.specs.View.{IsPart}
use Rattle.serving.specs.Runs.{Run, Served, texts}
use Rattle.serving.specs.Service.{Service}
use Rattle.serving.proofs.Runs.{texts-append}
use Rattle.gathering_runs.specs.Promise.{IsOfPrefix}

module _ {Q : Type 0} (k : Service Q) where
  pub run_joined : (qs more : List Q) (xs ys : List (List ℕ)) (s m t : k.States) → Run k s qs xs m → Run k m more ys t → Run k s (qs ++ more) (xs ++ ys) t
  run_joined [] more [] ys s m t a b = subst (λ (z : k.States). Run k z more ys t) (sym a) b
  run_joined [] more (x ∷ xs) ys s m t a b = absurd a
  run_joined (q ∷ qs) more [] ys s m t a b = absurd a
  run_joined (q ∷ qs) more (x ∷ xs) ys s m t a b = (a.0, a.1, run_joined qs more xs ys a.0 m t a.2 b)

  pub sent_joined : (before mid now : List ℕ) (xs ys : List (List ℕ)) → mid ≡ before ++ texts xs → now ≡ mid ++ texts ys → now ≡ before ++ texts (xs ++ ys)
  sent_joined before mid now xs ys one two =
      two ∙ ap (λ l. l ++ texts ys) one ∙ append_assoc before (texts xs) (texts ys) ∙ ap (λ l. before ++ l) (sym (texts-append xs ys))

  pub served_joined : (s m t : k.States) (before mid now : List ℕ) (qs more : List Q) → Served k s before qs m mid → Served k m mid more t now → Served k s before (qs ++ more) t now
  served_joined s m t before mid now qs more a b = record {
    answers = a.answers ++ b.answers;
    run = run_joined qs more a.answers b.answers s m t a.run b.run;
    sent = sent_joined before mid now a.answers b.answers a.sent b.sent;
  }

  pub served_more : (s m t : k.States) (before mid now : List ℕ) (qs : List Q) (q : Q) (a : List ℕ) → Served k s before qs m mid → k.gives m q a t → now ≡ mid ++ a → Served k s before (qs ++ q ∷ []) t now
  served_more s m t before mid now qs q a served given sent =
      served_joined s m t before mid now qs (q ∷ []) served (record { answers = a ∷ []; run = (t, given, refl); sent = sent ∙ ap (λ l. mid ++ l) (sym (append-nil a)) })

  pub served_none : (s : k.States) (before : List ℕ) → Served k s before [] s before
  served_none s before = record { answers = []; run = refl; sent = sym (append-nil before) }

  -- what later requests leave, from the first request on
  pub of_later : (s m : k.States) (before mid : List ℕ) (qs more : List Q) (x : Image) (f : List ℕ) → Served k s before qs m mid → IsOfPrefix k m mid more x f → IsOfPrefix k s before (qs ++ more) x f
  of_later s m before mid qs more x f served p = record {
    first = qs ++ p.first;
    rest = p.rest;
    parts = ap (λ l. qs ++ l) p.parts ∙ sym (append_assoc qs p.first p.rest);
    answers = served.answers ++ p.answers;
    state = p.state;
    run = run_joined qs p.first served.answers p.answers s m p.state served.run p.run;
    stands = p.stands;
    sent = record {
      front = texts served.answers ++ p.sent.front;
      back = p.sent.back;
      sent = p.sent.sent ∙ ap (λ l. l ++ p.sent.front) served.sent ∙ append_assoc before (texts served.answers) p.sent.front;
      whole = texts-append served.answers p.answers ∙ ap (λ l. texts served.answers ++ l) p.sent.whole ∙ sym (append_assoc (texts served.answers) p.sent.front p.sent.back);
    };
  }

  -- more requests behind
  pub of_earlier : (s : k.States) (before : List ℕ) (qs more : List Q) (x : Image) (f : List ℕ) → IsOfPrefix k s before qs x f → IsOfPrefix k s before (qs ++ more) x f
  of_earlier s before qs more x f p = record {
    first = p.first;
    rest = p.rest ++ more;
    parts = ap (λ l. l ++ more) p.parts ∙ append_assoc p.first p.rest more;
    answers = p.answers;
    state = p.state;
    run = p.run;
    stands = p.stands;
    sent = p.sent;
  }

  -- none of them counts
  pub of_none : (s : k.States) (before : List ℕ) (qs : List Q) (x : Image) (f : List ℕ) → k.stands s x → f ≡ before → IsOfPrefix k s before qs x f
  of_none s before qs x f stands same = record {
    first = [];
    rest = qs;
    parts = refl;
    answers = [];
    state = s;
    run = refl;
    stands = stands;
    sent = record { front = []; back = []; sent = same ∙ sym (append-nil before); whole = refl };
  }

  -- all of them count, and a front of their answers was sent
  pub of_all : (s t : k.States) (before : List ℕ) (qs : List Q) (answers : List (List ℕ)) (x : Image) (f : List ℕ) → Run k s qs answers t → k.stands t x → IsPart before (texts answers) f → IsOfPrefix k s before qs x f
  of_all s t before qs answers x f run stands part =
      record { first = qs; rest = []; parts = sym (append-nil qs); answers = answers; state = t; run = run; stands = stands; sent = part }
