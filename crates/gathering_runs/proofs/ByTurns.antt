-- Turns, one behind the other.
use Rattle.std.proofs.Common.{◌≡◌, ◌⊎◌, ◌≤◌, ◌<◌, inl, inr, ℕ, ◌+◌, ◌-◌, List, [], ◌∷◌, ◌++◌, refl, sym, ◌∙◌, ap, subst, arith, append_assoc, append-nil}
use Rattle.std.specs.Prelude.{Result, Ok, Err}
use Rattle.serving.specs.Prompt.{Mark}
use Rattle.serving.specs.Service.{Service}
use Rattle.serving.specs.Work.{WorkCount}
use Rattle.gathering_runs.specs.ByTurns.{all_of, ByTurns, IsGroup, IsReplied, IsTurn, AnswersByTurns, LeavesBut, Reclaims}
use Rattle.gathering_runs.proofs.Reclaiming.{left_mono, reclaims_joined, reclaims_less}

pub all_of-append : {Q : Type 0} (xs ys : List (List Q)) → all_of (xs ++ ys) ≡ all_of xs ++ all_of ys
all_of-append [] ys = refl
all_of-append (qs ∷ xs) ys = ap (λ l. qs ++ l) (all_of-append xs ys) ∙ sym (append_assoc qs (all_of xs) (all_of ys))

module _ {Q : Type 0} (k : Service Q) (w : WorkCount Q k.States) (waits : Q → Type 0) (port : Mark → Type 0) where
  pub by_turns_joined : (xs ys : List (List Q)) (s m t : k.States) (old mid new : Mark) → ByTurns k w waits port s xs m old mid → ByTurns k w waits port m ys t mid new → ByTurns k w waits port s (xs ++ ys) t old new
  by_turns_joined [] ys s m t old mid new a b = subst (λ (z : k.States). ByTurns k w waits port z ys t old new) (sym a.0) (subst (λ (z : Mark). ByTurns k w waits port m ys t z new) a.1 b)
  by_turns_joined (qs ∷ xs) ys s m t old mid new a b = (a.0, a.1, a.2, by_turns_joined xs ys a.0 m t a.1 mid new a.3 b)

  -- all of these were answered by turns, and nothing was done behind the last one
  pub record AllTurns (s t : k.States) (qs : List Q) (old new : Mark) : Type 0 where
    pub turns : List (List Q)
    pub all : all_of turns ≡ qs
    pub each : ByTurns k w waits port s turns t old new

  pub no_turns : (s t : k.States) (m n : Mark) → s ≡ t → n ≡ m → AllTurns s t [] m n
  no_turns s t m n same unmoved = record { turns = []; all = refl; each = (same, unmoved) }

  pub one_turn : (s t : k.States) (qs : List Q) (old new : Mark) → IsTurn k w waits port s qs t old new → AllTurns s t qs old new
  one_turn s t qs old new turn = record { turns = qs ∷ []; all = append-nil qs; each = (t, new, turn, (refl, refl)) }

  pub all_then : (s m t : k.States) (qs more : List Q) (old mid new : Mark) → AllTurns s m qs old mid → AllTurns m t more mid new → AllTurns s t (qs ++ more) old new
  all_then s m t qs more old mid new a b = record {
    turns = a.turns ++ b.turns;
    all = all_of-append a.turns b.turns ∙ ap (λ l. l ++ all_of b.turns) a.all ∙ ap (λ l. qs ++ l) b.all;
    each = by_turns_joined a.turns b.turns s m t old mid new a.each b.each;
  }

  -- one turn more
  pub turn_then : (s m t : k.States) (qs more : List Q) (old mid new : Mark) → AllTurns s m qs old mid → IsTurn k w waits port m more t mid new → AllTurns s t (qs ++ more) old new
  turn_then s m t qs more old mid new a turn = all_then s m t qs more old mid new a (one_turn m t more mid new turn)

  pub all_turns : {T E : Type 0} (r : Result T E) (x : T) (s t : k.States) (qs : List Q) (old new : Mark) → r ≡ Ok x → AnswersByTurns r k w waits port s t qs old new → AllTurns s t qs old new
  all_turns (Ok y) x s t qs old new is b = record {
    turns = b.turns;
    all = sym (b.parts ∙ ap (λ l. all_of b.turns ++ l) b.all.0 ∙ append-nil (all_of b.turns));
    each = subst (λ (z : k.States). ByTurns k w waits port s b.turns z old new) b.all.1 (subst (λ (z : Mark). ByTurns k w waits port s b.turns b.state old z) (sym b.all.2) b.each);
  }
  all_turns (Err e) x s t qs old new is b = absurd (cc)

  pub turns_ok : {T E : Type 0} (x : T) (s t : k.States) (qs : List Q) (old new : Mark) → AllTurns s t qs old new → AnswersByTurns {Q = Q} {T = T} {E = E} (Ok x) k w waits port s t qs old new
  turns_ok x s t qs old new a = record { turns = a.turns; rest = []; parts = sym a.all ∙ sym (append-nil (all_of a.turns)); state = t; rested = new; each = a.each; not_after = omega arith; all = (refl, refl, refl) }

  -- these were answered, and then it stopped
  pub turns_err : {T E : Type 0} (e : E) (s m t : k.States) (qs more : List Q) (old mid new : Mark) → AllTurns s m qs old mid → mid.clock ≤ new.clock → AnswersByTurns {Q = Q} {T = T} {E = E} (Err e) k w waits port s t (qs ++ more) old new
  turns_err e s m t qs more old mid new a later = record { turns = a.turns; rest = more; parts = ap (λ l. l ++ more) (sym a.all); state = m; rested = mid; each = a.each; not_after = later; all = tt }

  -- ---- one turn
  -- answered as a group, and then the steps that lacked were made
  pub turn_of_group : (s m t : k.States) (q : Q) (more : List Q) (old mid new : Mark) (lacking groups : ℕ) → port mid → IsGroup old mid → LeavesBut k w s old.sent (q ∷ more) m mid.sent (w.debt old.reads) (w.debt mid.reads) lacking
      → lacking ≤ 4 → groups ≤ lacking → Reclaims w port groups mid new → w.debt new.reads ≤ w.debt mid.reads - lacking → m ≡ t → IsTurn k w waits port s (q ∷ more) t old new
  turn_of_group s m t q more old mid new lacking groups here group leaves few some reclaimed less same = subst (λ (z : k.States). IsTurn k w waits port s (q ∷ more) z old new) same (record {
    first = q;
    more = more;
    some = refl;
    before = 0;
    begun = old;
    settled = refl;
    may_wait = λ none. absurd (omega (arith, none));
    answered = mid;
    answers = record { of_port = here; served = leaves.served; work = inl group };
    behind = groups;
    few_behind = omega (arith, few, some);
    caught_up = reclaimed;
    left = λ all. let h = leaves.few all in omega (arith, h, less);
  })

  -- a request on the device itself
  pub turn_of_direct : (s m t u : k.States) (q : Q) (old emptied new : Mark) → waits q → port emptied → old.clock ≤ emptied.clock → emptied.sent ≡ old.sent → emptied.writes ≤ old.writes + 121 → port new → IsReplied w port m q emptied new
      → LeavesBut k w m emptied.sent (q ∷ []) t new.sent (w.debt old.reads) (w.debt new.reads) 0 → m ≡ s → t ≡ u → IsTurn k w waits port s (q ∷ []) u old new
  turn_of_direct s m t u q old emptied new long here later unsent few there replied leaves before after =
      let own : LeavesBut k w s old.sent (q ∷ []) u new.sent (w.debt old.reads) (w.debt new.reads) 0 =
      subst (λ (z : k.States). LeavesBut k w s old.sent (q ∷ []) z new.sent (w.debt old.reads) (w.debt new.reads) 0) after
      (subst (λ (z : k.States). LeavesBut k w z old.sent (q ∷ []) t new.sent (w.debt old.reads) (w.debt new.reads) 0) before
      (subst (λ (l : List ℕ). LeavesBut k w m l (q ∷ []) t new.sent (w.debt old.reads) (w.debt new.reads) 0) unsent leaves)) in
      record {
        first = q;
        more = [];
        some = refl;
        before = 0;
        begun = old;
        settled = refl;
        may_wait = λ none. long;
        answered = new;
        answers = record {
          of_port = there;
          served = own.served;
          work = inr (record { request = q; one = refl; may_wait = long; emptied = emptied; of_port = here; not_before = later; nothing_sent = unsent; writes = few; replied = subst (λ (z : k.States). IsReplied w port z q emptied new) before replied });
        };
        behind = 0;
        few_behind = omega arith;
        caught_up = refl;
        left = λ all. let h = own.few all in omega (arith, h);
      }

  -- groups before a turn
  pub turn_after : (s m t : k.States) (q : Q) (more : List Q) (old mid new : Mark) (groups : ℕ) → waits q → Reclaims w port groups old mid → m ≡ s → IsTurn k w waits port m (q ∷ more) t mid new → IsTurn k w waits port s (q ∷ more) t old new
  turn_after s m t q more old mid new groups long reclaimed same turn = subst (λ (z : k.States). IsTurn k w waits port z (q ∷ more) t old new) same
      (let before = reclaims_joined w port groups turn.before old mid turn.begun reclaimed turn.settled in
      record {
        first = q;
        more = more;
        some = refl;
        before = before.0;
        begun = turn.begun;
        settled = before.1;
        may_wait = λ some. long;
        answered = turn.answered;
        answers = turn.answers;
        behind = turn.behind;
        few_behind = turn.few_behind;
        caught_up = turn.caught_up;
        left = λ all.
            let a = turn.left all in
            let b = left_mono k w m t turn.begun.sent turn.answered.sent (q ∷ more) turn.answers.served (w.debt mid.reads) (w.debt old.reads) (let n = reclaims_less w port groups old mid reclaimed in omega (arith, n)) in
            omega (arith, a, b);
      })
