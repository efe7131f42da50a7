-- What one request more costs.
use Rattle.std.proofs.Common.{◌≡◌, ℕ, ◌+◌, ◌≤◌, List, [], ◌∷◌, ◌++◌, All, length, get_or, length-append, refl, sym, ◌∙◌, ap, subst, arith, append_assoc, append-nil}
use Rattle.std.proofs.lemmas.List.{get_or_append_left}
use Rattle.serving.specs.Service.{Service, IsCounted}
use Rattle.serving.specs.Work.{WorkCount}
use Rattle.serving.specs.Runs.{Run, texts}
use Rattle.serving.specs.Costs.{costs, first_cost, IsPaidFor}
use Rattle.serving.proofs.Runs.{run_next, acked_run, sent_next, sent_front}

-- each of the first
pub front_all : {Q : Type 0} (P : Q → Type 0) (xs ys : List Q) → All P (xs ++ ys) → All P xs
front_all P xs ys all i d h = subst P (get_or_append_left xs ys d i h) (all i d (omega (arith, h, length-append xs ys)))

get_or_last : {Q : Type 0} (xs : List Q) (y : Q) → get_or (xs ++ y ∷ []) (length xs) y ≡ y
get_or_last [] y = refl
get_or_last (x ∷ xs) y = get_or_last xs y

-- the one behind them
pub next_all : {Q : Type 0} (P : Q → Type 0) (xs : List Q) (y : Q) → All P (xs ++ y ∷ []) → P y
next_all P xs y all = subst P (get_or_last xs y) (all (length xs) y (omega (arith, length-append xs (y ∷ []))))

module _ {Q : Type 0} (k : Service Q) (cost : k.States → Q → ℕ) where
  pub costs_next : (s m t : k.States) (qs : List Q) (xs : List (List ℕ)) (q : Q) (a : List ℕ) (run : Run k s qs xs m) (given : k.gives m q a t)
      → costs k cost s (qs ++ q ∷ []) (xs ++ a ∷ []) t (run_next k s m t qs xs q a run given) ≡ costs k cost s qs xs m run + cost m q
  unfolding run_next
  costs_next s m t [] [] q a run given = let e : cost s q ≡ cost m q = ap (λ u. cost u q) run in omega (arith, e)
  costs_next s m t [] (o ∷ xs) q a run given = absurd run
  costs_next s m t (p ∷ qs) [] q a run given = absurd run
  costs_next s m t (p ∷ qs) (o ∷ xs) q a run given =
      let rest = costs_next run.0 m t qs xs q a run.2 given in
      ap (λ n. cost s p + n) rest ∙ omega arith

  pub first_more : (s : k.States) (qs more : List Q) → first_cost k cost s qs ≤ first_cost k cost s (qs ++ more)
  first_more s [] more = omega arith
  first_more s (q ∷ qs) more = omega arith

-- after a run of these requests, whose answers make `now`
module _ {Q : Type 0} (k : Service Q) (counted : IsCounted k) (w : WorkCount Q k.States) (s : k.States) (before : List ℕ) (start : ℕ) (qs : List Q) (m : k.States) (xs : List (List ℕ)) (run : Run k s qs xs m) (now : List ℕ) (sent : now ≡ before ++ texts xs) where
  -- a proper front of the next answer is sent, or nothing of it
  pub paid_front : (rest : List Q) (f front : List ℕ) (writes : ℕ) → f ≡ now ++ front → k.acked front ≡ 0
      → (All w.bounded (qs ++ rest) → writes ≤ start + costs k w.cost s qs xs m run + first_cost k w.cost m rest) → IsPaidFor k w s before (qs ++ rest) f start writes
  paid_front rest f front writes is none paid = record {
    answered = qs;
    rest = rest;
    parts = refl;
    answers = xs;
    state = m;
    run = run;
    front = front;
    sent = sent_front before now f xs front sent is;
    count = omega (arith, acked_run k counted s m qs xs front run, none);
    paid = paid;
  }

  -- the answer is sent whole
  pub paid_whole : (q : Q) (a : List ℕ) (t : k.States) (f : List ℕ) (writes : ℕ) → k.gives m q a t → f ≡ now ++ a
      → (All w.bounded (qs ++ q ∷ []) → writes ≤ start + costs k w.cost s qs xs m run + w.cost m q) → IsPaidFor k w s before (qs ++ q ∷ []) f start writes
  paid_whole q a t f writes given is paid =
      let next = run_next k s m t qs xs q a run given in
      record {
        answered = qs ++ q ∷ [];
        rest = [];
        parts = sym (append-nil (qs ++ q ∷ []));
        answers = xs ++ a ∷ [];
        state = t;
        run = next;
        front = [];
        sent = sent_next before now f xs a sent is ∙ ap (λ l. before ++ l) (sym (append-nil (texts (xs ++ a ∷ []))));
        count = omega (arith, acked_run k counted s t (qs ++ q ∷ []) (xs ++ a ∷ []) [] next, counted.nothing);
        paid = λ all. omega (arith, paid all, costs_next k w.cost s m t qs xs q a run given);
      }

module _ {Q : Type 0} (k : Service Q) (w : WorkCount Q k.States) (s : k.States) (before f : List ℕ) (start : ℕ) where
  pub paid_longer : (qs more : List Q) (later : ℕ) → IsPaidFor k w s before qs f start later → IsPaidFor k w s before (qs ++ more) f start later
  paid_longer qs more later was = record {
    answered = was.answered;
    rest = was.rest ++ more;
    parts = ap (λ l. l ++ more) was.parts ∙ append_assoc was.answered was.rest more;
    answers = was.answers;
    state = was.state;
    run = was.run;
    front = was.front;
    sent = was.sent;
    count = was.count;
    paid = λ all. omega (arith, was.paid (front_all w.bounded qs more all), first_more k w.cost was.state was.rest more);
  }
