-- How much is left to be done while one request is answered.
use Rattle.std.proofs.Common.{◌≡◌, inl, inr, ℕ, ◌+◌, ◌≤◌, List, [], ◌∷◌, ◌++◌, refl, sym, ◌∙◌, ap, subst, arith, append_assoc, append-nil}
use Rattle.image_device.specs.Image.{Image}
use Rattle.serving.specs.Service.{Service, IsCounted, IsInAnswer}
use Rattle.serving.specs.Runs.{Run, texts}
use Rattle.serving.specs.Debts.{Debt, more_debt, debt_after, debt_of, first_debt, IsOwing}
use Rattle.serving.proofs.Runs.{run_next, acked_run, sent_next, sent_front, some_or_none, all_sent}

module _ {Q : Type 0} (k : Service Q) (made : k.States → Q → ℕ) where
  pub debt_next : (s m t : k.States) (qs : List Q) (xs : List (List ℕ)) (q : Q) (a : List ℕ) (run : Run k s qs xs m) (given : k.gives m q a t) (d : Debt)
      → debt_after k made s (qs ++ q ∷ []) (xs ++ a ∷ []) t (run_next k s m t qs xs q a run given) d ≡ more_debt (made m q) (debt_after k made s qs xs m run d)
  unfolding run_next
  debt_next s m t [] [] q a run given d = ap (λ u. more_debt (made u q) d) run
  debt_next s m t [] (o ∷ xs) q a run given d = absurd run
  debt_next s m t (p ∷ qs) [] q a run given d = absurd run
  debt_next s m t (p ∷ qs) (o ∷ xs) q a run given d = debt_next run.0 m t qs xs q a run.2 given (more_debt (made s p) d)

  left_peak : (s t : k.States) (qs : List Q) (xs : List (List ℕ)) (run : Run k s qs xs t) (d : Debt) → d.left ≤ d.peak → (debt_after k made s qs xs t run d).left ≤ (debt_after k made s qs xs t run d).peak
  left_peak s t [] xs run d h = h
  left_peak s t (q ∷ qs) [] run d h = h
  left_peak s t (q ∷ qs) (a ∷ xs) run d h = left_peak run.0 t qs xs run.2 (more_debt (made s q) d) (omega arith)

  first_more : (s : k.States) (qs more : List Q) → first_debt k made s qs ≤ first_debt k made s (qs ++ more)
  first_more s [] more = omega arith
  first_more s (q ∷ qs) more = omega arith

-- after a run of these requests, whose answers make `now`
module _ {Q : Type 0} (k : Service Q) (counted : IsCounted k) (made : k.States → Q → ℕ) (s : k.States) (before : List ℕ) (start : ℕ) (qs : List Q) (m : k.States) (xs : List (List ℕ)) (run : Run k s qs xs m) (now : List ℕ) (sent : now ≡ before ++ texts xs) (debt : ℕ) (few : debt ≤ (debt_after k made s qs xs m run (debt_of start)).left) where
  -- a proper front of the next answer is sent, or nothing of it
  pub owing_front : (rest : List Q) (f front : List ℕ) (d : ℕ) → f ≡ now ++ front → k.acked front ≡ 0 → d ≤ debt + first_debt k made m rest → IsOwing k made s before start (qs ++ rest) d f
  owing_front rest f front d is none h = record {
    answered = qs;
    rest = rest;
    parts = refl;
    answers = xs;
    state = m;
    run = run;
    front = front;
    sent = sent_front before now f xs front sent is;
    count = omega (arith, acked_run k counted s m qs xs front run, none);
    few = omega (arith, h, few, left_peak k made s m qs xs run (debt_of start) (omega arith));
  }

  -- the answer is sent whole, and what is left isn't yet less
  pub owing_whole : (q : Q) (a : List ℕ) (t : k.States) (f : List ℕ) (d : ℕ) → k.gives m q a t → f ≡ now ++ a → d ≤ debt + made m q → IsOwing k made s before start (qs ++ q ∷ []) d f
  owing_whole q a t f d given is h =
      let next = run_next k s m t qs xs q a run given in
      let e = debt_next k made s m t qs xs q a run given (debt_of start) in
      record {
        answered = qs ++ q ∷ [];
        rest = [];
        parts = sym (append-nil (qs ++ q ∷ []));
        answers = xs ++ a ∷ [];
        state = t;
        run = next;
        front = [];
        sent = sent_next before now f xs a sent is ∙ ap (λ l. before ++ l) (sym (append-nil (texts (xs ++ a ∷ []))));
        count = omega (arith, acked_run k counted s t (qs ++ q ∷ []) (xs ++ a ∷ []) [] next, counted.nothing);
        few = omega (arith, h, few, ap (λ (x : Debt). x.peak) e);
      }

  -- while a request is answered
  pub owing_answer : (q : Q) (x : Image) (f : List ℕ) (d : ℕ) → IsInAnswer k m q now x f → d ≤ debt + made m q → IsOwing k made s before start (qs ++ q ∷ []) d f
  owing_answer q x f d left h = elim left [
    | inl old ↦ owing_front (q ∷ []) f [] d (old.1 ∙ sym (append-nil now)) counted.nothing h
    | inr part ↦
        let a = part.0 in
        elim (some_or_none a.back) [
          | inl none ↦ owing_whole q a.answer a.next f d a.given (all_sent a.answer now f a.front a.back a.whole a.sent none) h
          | inr some ↦ owing_front (q ∷ []) f a.front d a.sent (counted.part m q a.answer a.next a.front a.back a.given a.whole some) h
        ]
  ]

  -- between two requests
  pub owing_rest : (f : List ℕ) (d : ℕ) → f ≡ now → d ≤ debt → IsOwing k made s before start qs d f
  owing_rest f d is h = subst (λ l. IsOwing k made s before start l d f) (append-nil qs) (owing_front [] f [] d (is ∙ sym (append-nil now)) counted.nothing (omega (arith, h)))

module _ {Q : Type 0} (k : Service Q) (made : k.States → Q → ℕ) (s : k.States) (before : List ℕ) (start : ℕ) where
  pub owing_longer : (qs more : List Q) (d : ℕ) (f : List ℕ) → IsOwing k made s before start qs d f → IsOwing k made s before start (qs ++ more) d f
  owing_longer qs more d f was = record {
    answered = was.answered;
    rest = was.rest ++ more;
    parts = ap (λ l. l ++ more) was.parts ∙ append_assoc was.answered was.rest more;
    answers = was.answers;
    state = was.state;
    run = was.run;
    front = was.front;
    sent = was.sent;
    count = was.count;
    few = omega (arith, was.few, first_more k made was.state was.rest more);
  }
