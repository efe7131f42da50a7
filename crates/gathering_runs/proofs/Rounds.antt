-- Rounds, one behind the other.
use Rattle.std.proofs.Common.{◌≡◌, ◌≤◌, inl, inr, ℕ, zero, suc, ◌+◌, ◌-◌, false, MatchBool, List, [], ◌∷◌, ◌++◌, length, take, drop, refl, sym, ◌∙◌, ap, subst, arith, append-nil, length-append}
use Rattle.std.proofs.lemmas.List.{length-take, take_all}
use Rattle.std.proofs.lemmas.Bool.{cases_Bool}
use Rattle.tsd_words.specs.declared.status.Status.{Status}
use Rattle.tsd_words.specs.declared.status.Status.TheVariants as status
use Rattle.serving.specs.Goes.{Handed, Reads, unread}
use Rattle.serving.specs.Input.{Spelling, all_requests, last}
use Rattle.serving.specs.Prompt.{IsCutShort, Mark}
use Rattle.serving.specs.Ran.{AskedBy, Taking}
use Rattle.serving.specs.Runs.{Run}
use Rattle.serving.specs.Service.{Service}
use Rattle.serving.specs.Work.{WorkCount}
use Rattle.serving.specs.declared.intake.Intake.{Intake}
use Rattle.gathering_runs.specs.ByTurns.{all_of, ByTurns, IsDirect, IsFinished, IsTurn}
use Rattle.gathering_runs.specs.Rounds.{AreAll, ByRounds, IsNear, RanByRounds, Round}
use Rattle.gathering_runs.proofs.ByTurns.{AllTurns}
use Rattle.gathering_runs.proofs.Reclaiming.{reclaims_over}

pub take_none : (n : ℕ) → take {A = ℕ} n [] ≡ []
take_none zero = refl
take_none (suc n) = refl

module _ {Q : Type 0} (p : Spelling Q) where
  -- all that came, as far as it is served, makes no more than one request more whole
  near_all : (limit : ℕ) (came more : List ℕ) (qs : List Q) → length (p.requests (take limit (came ++ more))) ≤ length qs + 1 → IsNear p limit came qs more
  near_all limit came more qs few = record { front = take limit (came ++ more); back = []; parts = sym (append-nil (take limit (came ++ more))); one_more = few; one_room = omega arith }

  pub near_none : (limit : ℕ) → p.requests [] ≡ [] → take {A = ℕ} limit [] ≡ [] → IsNear p limit [] [] []
  near_none limit none nil = near_all limit [] [] [] (let e : length (p.requests (take limit [])) ≡ 0 = ap (λ l. length (p.requests l)) nil ∙ ap length none in omega (arith, e))

  -- these were asked, and the input is over
  few_of : (limit : ℕ) (x : List ℕ) (qs : List Q) → length x ≤ limit → qs ≡ all_requests p x → length (p.requests (take limit x)) ≤ length qs
  few_of limit x qs le these =
      let e : take limit x ≡ x = take_all limit x le in
      let n : length qs ≡ length (p.requests x) + length (last (p.ending x)) = ap length these ∙ length-append (p.requests x) (last (p.ending x)) in
      let m : length (p.requests (take limit x)) ≡ length (p.requests x) = ap (λ l. length (p.requests l)) e in
      omega (arith, n, m)

  pub near_end : (limit : ℕ) (came more : List ℕ) (qs : List Q) → length (came ++ more) ≤ limit → qs ≡ all_requests p (came ++ more) → IsNear p limit came qs more
  near_end limit came more qs le these = near_all limit came more qs (let n = few_of limit (came ++ more) qs le these in omega (arith, n))

  pub near_cut : (limit : ℕ) (came more : List ℕ) (qs : List Q) → qs ≡ p.requests (take limit (came ++ more)) → IsNear p limit came qs more
  near_cut limit came more qs these = near_all limit came more qs (let n : length qs ≡ length (p.requests (take limit (came ++ more))) = ap length these in omega (arith, n))

  pub near_fault : (limit : ℕ) (came more : List ℕ) (qs : List Q) → length (came ++ more) ≤ limit → qs ≡ p.requests (came ++ more) → IsNear p limit came qs more
  near_fault limit came more qs le these = near_cut limit came more qs (these ∙ ap p.requests (sym (take_all limit (came ++ more) le)))

  one_longer : (qs : List Q) (q : Q) → length (qs ++ q ∷ []) ≡ length qs + 1
  one_longer qs q = length-append qs (q ∷ [])

  room_short : (i : Intake) → length (unread i) ≤ 65536
  room_short i =
      let n = length-take (i.to - i.from) (drop_of i) in
      let b = i.within in
      omega (arith, n, b)
    where
      drop_of : Intake → List ℕ
      drop_of j = drop j.from j.room

  -- a request was found behind these
  pub near_found : (fed : List ℕ → Type 0) (ended : Type 0) (i : Intake) (limit : ℕ) (came more : List ℕ) (qs : List Q) (q : Q) → i.limit ≡ limit → Handed p fed ended i (came ++ more) (qs ++ q ∷ []) → IsNear p limit came qs more
  near_found fed ended i limit came more qs q same found = subst (λ n. IsNear p n came qs more) same (elim (cases_Bool i.over) [
    | inl e ↦
        let by = subst (λ b. MatchBool b (AskedBy status.Done p i.limit (came ++ more) ended (qs ++ q ∷ [])) (Reads p fed i (came ++ more) (qs ++ q ∷ []))) e found in
        near_all i.limit came more qs (let n = few_of i.limit (came ++ more) (qs ++ q ∷ []) by.0 by.3 in let m = one_longer qs q in omega (arith, n, m))
    | inr e ↦
        let by = subst (λ b. MatchBool b (AskedBy status.Done p i.limit (came ++ more) ended (qs ++ q ∷ [])) (Reads p fed i (came ++ more) (qs ++ q ∷ []))) e found in
        record {
          front = by.x;
          back = unread i;
          parts = sym by.parts;
          one_more = let n : length (qs ++ q ∷ []) ≡ length (p.requests by.x) = ap length by.these in let m = one_longer qs q in omega (arith, n, m);
          one_room = room_short i;
        }
  ])

  -- where nothing that was taken is unread, all that is whole was handed out
  pub all_handed : (fed : List ℕ → Type 0) (ended : Type 0) (i : Intake) (limit : ℕ) (came : List ℕ) (qs : List Q) → i.limit ≡ limit → (i.over ≡ false → unread i ≡ []) → Handed p fed ended i came qs → AreAll p limit came qs
  all_handed fed ended i limit came qs same read handed = subst (λ n. AreAll p n came qs) same (elim (cases_Bool i.over) [
    | inl e ↦ inr (subst (λ b. MatchBool b (AskedBy status.Done p i.limit came ended qs) (Reads p fed i came qs)) e handed).3
    | inr e ↦
        let by = subst (λ b. MatchBool b (AskedBy status.Done p i.limit came ended qs) (Reads p fed i came qs)) e handed in
        inl (by.these ∙ ap p.requests (sym (append-nil by.x) ∙ ap (λ l. by.x ++ l) (sym (read e)) ∙ by.parts))
  ])

module _ {Q : Type 0} (k : Service Q) (w : WorkCount Q k.States) (waits : Q → Type 0) (port : Mark → Type 0) (p : Spelling Q) (limit : ℕ) where
  pub one_round_more : (rounds : List (Round Q)) (r : Round Q) (s m t : k.States) (came0 came : List ℕ) (qs0 qs : List Q) (old mid new : Mark) → ByRounds k w waits port p limit s came0 qs0 rounds m came qs old mid → IsNear p limit came qs r.more → ByTurns k w waits port m r.turns t mid new
      → AreAll p limit (came ++ r.more) (qs ++ all_of r.turns) → ByRounds k w waits port p limit s came0 qs0 (rounds ++ r ∷ []) t (came ++ r.more) (qs ++ all_of r.turns) old new
  one_round_more [] r s m t came0 came qs0 qs old mid new a near turns all =
      let step : (c : List ℕ) (l : List Q) → came ≡ c → qs ≡ l → (z : k.States) → m ≡ z → (o : Mark) → mid ≡ o → ByRounds k w waits port p limit z c l (r ∷ []) t (came ++ r.more) (qs ++ all_of r.turns) o new = here in
      step came0 qs0 (sym a.1) (sym a.2) s (sym a.0) old a.3
    where
      base : ByRounds k w waits port p limit m came qs (r ∷ []) t (came ++ r.more) (qs ++ all_of r.turns) mid new
      base = (t, new, near, turns, all, (refl, refl, refl, refl))

      here : (c : List ℕ) (l : List Q) → came ≡ c → qs ≡ l → (z : k.States) → m ≡ z → (o : Mark) → mid ≡ o → ByRounds k w waits port p limit z c l (r ∷ []) t (came ++ r.more) (qs ++ all_of r.turns) o new
      here c l ec el z ez o eo =
          subst (λ (y : List ℕ). ByRounds k w waits port p limit z y l (r ∷ []) t (came ++ r.more) (qs ++ all_of r.turns) o new) ec
          (subst (λ (y : List Q). ByRounds k w waits port p limit z came y (r ∷ []) t (came ++ r.more) (qs ++ all_of r.turns) o new) el
          (subst (λ (y : k.States). ByRounds k w waits port p limit y came qs (r ∷ []) t (came ++ r.more) (qs ++ all_of r.turns) o new) ez
          (subst (λ (y : Mark). ByRounds k w waits port p limit m came qs (r ∷ []) t (came ++ r.more) (qs ++ all_of r.turns) y new) eo base)))
  one_round_more (o ∷ rounds) r s m t came0 came qs0 qs old mid new a near turns all =
      (a.0, a.1, a.2, a.3, a.4, one_round_more rounds r a.0 m t (came0 ++ o.more) came (qs0 ++ all_of o.turns) qs a.1 mid new a.5 near turns all)

  -- so far, from the moment at which the journal was empty
  pub record SoFar (s t : k.States) (came : List ℕ) (qs : List Q) (sent : List ℕ) (debt since : ℕ) (new : Mark) : Type 0 where
    pub begun : Mark
    pub of_port : port begun
    pub not_before : since ≤ begun.clock
    pub nothing_sent : begun.sent ≡ sent
    pub no_more_left : w.debt begun.reads ≤ debt
    pub rounds : List (Round Q)
    pub each : ByRounds k w waits port p limit s [] [] rounds t came qs begun new

  unfoldable pub so_far_none : (s t : k.States) (sent : List ℕ) (debt since : ℕ) (new : Mark) → port new → since ≤ new.clock → new.sent ≡ sent → w.debt new.reads ≤ debt → s ≡ t → SoFar s t [] [] sent debt since new
  so_far_none s t sent debt since new here later same left state = record { begun = new; of_port = here; not_before = later; nothing_sent = same; no_more_left = left; rounds = []; each = (state, refl, refl, refl) }

  pub so_far_more : (s m t : k.States) (came more : List ℕ) (qs qs_more : List Q) (sent : List ℕ) (debt since : ℕ) (mid new : Mark) → SoFar s m came qs sent debt since mid → IsNear p limit came qs more → AllTurns k w waits port m t qs_more mid new → AreAll p limit (came ++ more) (qs ++ qs_more)
      → SoFar s t (came ++ more) (qs ++ qs_more) sent debt since new
  so_far_more s m t came more qs qs_more sent debt since mid new a near turns all = record {
    begun = a.begun;
    of_port = a.of_port;
    not_before = a.not_before;
    nothing_sent = a.nothing_sent;
    no_more_left = a.no_more_left;
    rounds = a.rounds ++ (record { more = more; turns = turns.turns }) ∷ [];
    each = subst (λ l. ByRounds k w waits port p limit s [] [] (a.rounds ++ (record { more = more; turns = turns.turns }) ∷ []) t (came ++ more) (qs ++ l) a.begun new) turns.all
        (one_round_more a.rounds (record { more = more; turns = turns.turns }) s m t [] came [] qs a.begun mid new a.each near turns.each
        (subst (λ l. AreAll p limit (came ++ more) (qs ++ l)) (sym turns.all) all));
  }

  -- a run that ended so
  unfoldable pub ran_by_rounds : (r : Status) (s t last : k.States) (source : Taking) (came more : List ℕ) (qs : List Q) (turns : List (List Q)) (old mid stopped new : Mark) → SoFar s t came qs old.sent (w.debt old.reads) old.clock mid → source.came (came ++ more) → IsNear p limit came qs more
      → ByTurns k w waits port t turns last mid stopped → stopped.clock ≤ new.clock → (IsCutShort r → new ≡ mid) → (r ≡ status.Done → IsFinished w port stopped new) → RanByRounds r k w waits port p limit s source old new
  ran_by_rounds r s t last source came more qs turns old mid stopped new a came_in near behind later as_it_was done = record {
    begun = a.begun;
    of_port = a.of_port;
    not_before = a.not_before;
    nothing_sent = a.nothing_sent;
    no_more_left = a.no_more_left;
    rounds = a.rounds;
    state = t;
    came = came;
    answered = qs;
    rested = mid;
    each = a.each;
    more = more;
    came_in = came_in;
    near = near;
    turns = turns;
    last = last;
    stopped = stopped;
    behind = behind;
    not_after = later;
    as_it_was = as_it_was;
    done = done;
  }

-- no request leads to no other state
pub run_none : {Q : Type 0} (k : Service Q) (s t : k.States) (xs : List (List ℕ)) → Run k s [] xs t → s ≡ t
run_none k s t [] run = run
run_none k s t (a ∷ xs) run = absurd run

-- the same of another port of which all of it is seen
module _ {Q : Type 0} (k : Service Q) (w : WorkCount Q k.States) (waits : Q → Type 0) (A B : Mark → Type 0) (over : (m : Mark) → A m → B m) where
  direct_over : (s : k.States) (qs : List Q) (old new : Mark) → IsDirect k w waits A s qs old new → IsDirect k w waits B s qs old new
  direct_over s qs old new d = record {
    request = d.request;
    one = d.one;
    may_wait = d.may_wait;
    emptied = d.emptied;
    of_port = over d.emptied d.of_port;
    not_before = d.not_before;
    nothing_sent = d.nothing_sent;
    writes = d.writes;
    replied = record { replied = d.replied.replied; of_port = over d.replied.replied d.replied.of_port; between = d.replied.between; sent = d.replied.sent; before = d.replied.before };
  }

  turn_over : (s : k.States) (qs : List Q) (t : k.States) (old new : Mark) → IsTurn k w waits A s qs t old new → IsTurn k w waits B s qs t old new
  turn_over s qs t old new turn = record {
    first = turn.first;
    more = turn.more;
    some = turn.some;
    before = turn.before;
    begun = turn.begun;
    settled = reclaims_over w A B over turn.before old turn.begun turn.settled;
    may_wait = turn.may_wait;
    answered = turn.answered;
    answers = record {
      of_port = over turn.answered turn.answers.of_port;
      served = turn.answers.served;
      work = elim turn.answers.work [ inl group ↦ inl group | inr direct ↦ inr (direct_over s qs turn.begun turn.answered direct) ];
    };
    behind = turn.behind;
    few_behind = turn.few_behind;
    caught_up = reclaims_over w A B over turn.behind turn.answered new turn.caught_up;
    left = turn.left;
  }

  pub finished_over : (old new : Mark) → IsFinished w A old new → IsFinished w B old new
  finished_over old new f = record {
    groups = f.groups;
    settled = f.settled;
    reclaimed = reclaims_over w A B over f.groups old f.settled f.reclaimed;
    nothing_left = f.nothing_left;
    not_after = f.not_after;
    nothing_sent = f.nothing_sent;
    writes = f.writes;
    still_nothing = f.still_nothing;
  }

  pub turns_over : (turns : List (List Q)) (s t : k.States) (old new : Mark) → ByTurns k w waits A s turns t old new → ByTurns k w waits B s turns t old new
  turns_over [] s t old new a = a
  turns_over (qs ∷ turns) s t old new a = (a.0, a.1, turn_over s qs a.0 old a.1 a.2, turns_over turns a.0 t a.1 new a.3)

  pub rounds_over : (p : Spelling Q) (limit : ℕ) (rounds : List (Round Q)) (s t : k.States) (came0 came : List ℕ) (qs0 qs : List Q) (old new : Mark) → ByRounds k w waits A p limit s came0 qs0 rounds t came qs old new → ByRounds k w waits B p limit s came0 qs0 rounds t came qs old new
  rounds_over p limit [] s t came0 came qs0 qs old new a = a
  rounds_over p limit (r ∷ rounds) s t came0 came qs0 qs old new a =
      (a.0, a.1, a.2, turns_over r.turns s a.0 old a.1 a.3, a.4, rounds_over p limit rounds a.0 t (came0 ++ r.more) came (qs0 ++ all_of r.turns) qs a.1 new a.5)

  unfoldable pub ran_over : (r : Status) (p : Spelling Q) (limit : ℕ) (s : k.States) (source : Taking) (old new : Mark) → RanByRounds r k w waits A p limit s source old new → RanByRounds r k w waits B p limit s source old new
  ran_over r p limit s source old new a = record {
    begun = a.begun;
    of_port = over a.begun a.of_port;
    not_before = a.not_before;
    nothing_sent = a.nothing_sent;
    no_more_left = a.no_more_left;
    rounds = a.rounds;
    state = a.state;
    came = a.came;
    answered = a.answered;
    rested = a.rested;
    each = rounds_over p limit a.rounds s a.state [] a.came [] a.answered a.begun a.rested a.each;
    more = a.more;
    came_in = a.came_in;
    near = a.near;
    turns = a.turns;
    last = a.last;
    stopped = a.stopped;
    behind = turns_over a.turns a.state a.last a.rested a.stopped a.behind;
    not_after = a.not_after;
    as_it_was = a.as_it_was;
    done = λ is. finished_over a.stopped new (a.done is);
  }
