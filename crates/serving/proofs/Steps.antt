-- A run that goes on by one request, or ends.
use Rattle.std.proofs.Common.{◌≡◌, ◌≢◌, ◌⊎◌, inl, inr, ℕ, suc, ◌+◌, ◌-◌, ◌≤◌, false, All, List, [], ◌∷◌, ◌++◌, length, refl, sym, ◌∙◌, ap, subst, arith, append-nil, append_assoc}
use Rattle.image_device.specs.Image.{Image}
use Rattle.image_device.specs.View.{View, IsSound}
use Rattle.image_device.specs.Runs.{LeavesOnly}
use Rattle.image_device.proofs.Moments.{started, joined, weakened, leaves_both, firm_image}
use Rattle.tsd_words.specs.declared.status.Status.{Status}
use Rattle.tsd_words.specs.declared.status.Status.TheVariants as status
use Rattle.serving.specs.Service.{Service, IsCounted, IsAnswering, IsInAnswer, LeftBy}
use Rattle.serving.specs.Work.{WorkCount, used}
use Rattle.serving.specs.Costs.{IsPaidFor, costs}
use Rattle.serving.specs.Debts.{Debt, HasDebt, debt_of}
use Rattle.serving.specs.Prompt.{IsCutShort, IsPrompt, Mark, Promptly, mark}
use Rattle.serving.specs.Runs.{Run, Served, IsBroken}
use Rattle.serving.specs.Seen.{AreSeen, IsSeen, IsSeenRun, IsLeftInRun, IsOfNext}
use Rattle.serving.specs.Input.{Spelling}
use Rattle.serving.specs.Ran.{AskedBy, ByStatus, Ends, Ran, Taking, Moments}
use Rattle.serving.specs.Goes.{Goes}
use Rattle.serving.proofs.Seen.{are_seen_still, are_seen_next, last_seen, left_longer, left_still}
use Rattle.serving.proofs.Runs.{run_next, sent_next, sent_front, broken, cut_off, served_next, at_rest, in_answer, broken_longer, cut_off_longer, all_sent, some_or_none}
use Rattle.serving.proofs.Costs.{front_all, next_all, costs_next, paid_front, paid_longer, paid_whole}
use Rattle.serving.proofs.Prompt.{prompt_next}
use Rattle.serving.proofs.Debts.{debt_next, owing_answer, owing_rest, owing_longer}

-- of what stops a request, none is that the input was cut short
pub not_cut : (why : Status) → (why ≡ status.DeviceFault) ⊎ (why ≡ status.PutFault) → IsCutShort why → ⊥
not_cut why (inl e) cut = subst IsCutShort e cut
not_cut why (inr e) cut = subst IsCutShort e cut

module _ {Q : Type 0} (k : Service Q) (w : WorkCount Q k.States) (port : Mark → Type 0) (s : k.States) (due : ℕ) (v0 : View) where
  -- the replies so far
  pub served_of : (qs : List Q) (m : k.States) (due1 : ℕ) (v : View) → Goes k w port s due v0 qs m due1 v → Served k s v0.sent qs m v.sent
  served_of qs m due1 v goes = record { answers = goes.answers; run = goes.run; sent = goes.sent }

  -- the states of these requests were seen, and of one more a front was sent
  seen_run : (t : ℕ) → t ≤ v0.clock → (qs more : List Q) (m : k.States) (due1 : ℕ) (v new : View) (goes : Goes k w port s due v0 qs m due1 v) → ((x : Image) (f : List ℕ) → v.left t x f → new.left t x f)
      → (front : List ℕ) → new.sent ≡ v.sent ++ front → k.acked front ≤ 1 → IsOfNext k m more front → (seen : IsSeenRun k (new.left t) s v0.sent (qs ++ more) new.sent) × (seen.front ≡ front)
  seen_run t le qs more m due1 v new goes kept front is few of_next = (
    record {
      answered = qs;
      rest = more;
      parts = refl;
      answers = goes.answers;
      state = m;
      run = goes.run;
      seen = are_seen_still k (v.left t) (new.left t) kept v0.sent s m qs goes.answers goes.run (goes.seen t le);
      front = front;
      sent = sent_front v0.sent v.sent new.sent goes.answers front goes.sent is;
      one_more = few;
      of_next = of_next;
    },
    refl,
  )

  -- of all requests, with no more sent
  seen_whole : (t : ℕ) → t ≤ v0.clock → IsCounted k → (qs : List Q) (m : k.States) (due1 : ℕ) (v new : View) (goes : Goes k w port s due v0 qs m due1 v) → ((x : Image) (f : List ℕ) → v.left t x f → new.left t x f)
      → new.sent ≡ v.sent → (seen : IsSeenRun k (new.left t) s v0.sent qs new.sent) × (k.acked seen.front ≡ 0)
  seen_whole t le counted qs m due1 v new goes kept same =
      let on = seen_run t le qs [] m due1 v new goes kept [] (same ∙ sym (append-nil v.sent)) (omega (arith, counted.nothing)) (inl refl) in
      subst (λ l. (seen : IsSeenRun k (new.left t) s v0.sent l new.sent) × (k.acked seen.front ≡ 0)) (append-nil qs) (on.0, ap k.acked on.1 ∙ counted.nothing)

  -- a run that ends as it stands
  pub ends_now : IsCounted k → (r : Status) (qs : List Q) (m : k.States) (due1 : ℕ) (v : View) → Goes k w port s due v0 qs m due1 v → ByStatus r k s v0.sent qs m v.sent → Ends r k w s m due v0 v qs
  ends_now counted r qs m due1 v goes sent = record {
    seen = λ t le. (seen_whole t le counted qs m due1 v v goes (λ x f left. left) refl).0;
    all_seen = λ fine t le. (seen_whole t le counted qs m due1 v v goes (λ x f left. left) refl).1;
    sent = sent;
    any_moment = goes.any_moment;
    most = subst (λ l. IsPaidFor k w s v0.sent l v.sent (used due v0) v.writes) (append-nil qs)
        (paid_front k counted w s v0.sent (used due v0) qs m goes.answers goes.run v.sent goes.sent [] v.sent [] v.writes (sym (append-nil v.sent)) counted.nothing (λ all. omega (arith, goes.paid (front_all w.bounded qs [] all))));
    debt = goes.debt;
  }

module _ {Q : Type 0} (k : Service Q) (counted : IsCounted k) (w : WorkCount Q k.States) (port : Mark → Type 0) (s : k.States) (due : ℕ) (v0 : View) where
  -- before the first request
  pub goes_first : IsSound v0 → ((n : ℕ) → v0.loose n ≡ false) → k.stands s v0.reads → k.rests s v0.reads → Goes k w port s due v0 [] s due v0
  goes_first sound firm stands rests =
      let served : Served k s v0.sent [] s v0.sent = record { answers = []; run = refl; sent = sym (append-nil v0.sent) } in
      record {
        answers = [];
        run = refl;
        sent = sym (append-nil v0.sent);
        seen = λ t le. record { image = v0.reads; was_left = sound.counts_now t v0.reads v0.sent le (sound.own, refl); rests = rests };
        any_moment = λ t le. started v0 (IsLeftInRun k (v0.left t) s v0.sent []) sound
            (λ x f left. at_rest k counted s v0.sent (v0.left t) [] [] s v0.sent f x served (subst (λ y. k.stands s y) (sym (firm_image v0 firm x f left)) stands) left.1);
        paid = λ all. omega arith;
        few = λ all. omega arith;
        debt = λ all. started v0 (HasDebt k w s v0.sent (w.debt v0.reads) []) sound
            (λ x f left.
            let e : w.debt x ≡ w.debt v0.reads = ap w.debt (firm_image v0 firm x f left) in
            owing_rest k counted w.made s v0.sent (w.debt v0.reads) [] s [] refl v0.sent (sym (append-nil v0.sent)) (w.debt v0.reads) (omega arith) f (w.debt x) left.1 (omega (arith, e)));
        prompt = refl;
      }

  module _ (qs : List Q) (m : k.States) (due1 : ℕ) (v : View) (goes : Goes k w port s due v0 qs m due1 v) where
    module _ (q : Q) (new : View) (any : LeavesOnly v new (IsInAnswer k m q v.sent)) (debts : w.bounded q → LeavesOnly v new (λ x f. w.debt x ≤ w.debt v.reads + w.made m q)) where
      later : v0.clock ≤ v.clock
      later = (goes.any_moment v0.clock (omega arith)).later

      kept : (t : ℕ) → t ≤ v0.clock → (x : Image) (f : List ℕ) → v.left t x f → new.left t x f
      kept t le x f left = any.keeps t x f (omega (arith, le, later)) left

      -- the states so far were seen
      seen_now : (t : ℕ) → t ≤ v0.clock → AreSeen k (new.left t) v0.sent s qs goes.answers m goes.run
      seen_now t le = are_seen_still k (v.left t) (new.left t) (kept t le) v0.sent s m qs goes.answers goes.run (goes.seen t le)

      -- what a crash left while the request was answered
      any_next : (t : ℕ) → t ≤ v0.clock → LeavesOnly v0 new (IsLeftInRun k (new.left t) s v0.sent (qs ++ q ∷ []))
      any_next t le =
          let came : IsSeen k (new.left t) m v.sent = subst (λ g. IsSeen k (new.left t) m g) (sym goes.sent) (last_seen k (new.left t) v0.sent s m qs goes.answers goes.run (seen_now t le)) in
          joined v0 v new (IsLeftInRun k (new.left t) s v0.sent (qs ++ q ∷ [])) (IsInAnswer k m q v.sent)
          (weakened v0 v (IsLeftInRun k (v.left t) s v0.sent qs) (IsLeftInRun k (new.left t) s v0.sent (qs ++ q ∷ [])) (goes.any_moment t le)
          (left_longer k (v.left t) (new.left t) (kept t le) s v0.sent qs (q ∷ []))) any
          (λ x f left. in_answer k counted s v0.sent (new.left t) qs m v.sent f q x (served_of k w port s due v0 qs m due1 v goes) came left)

      debt_on : All w.bounded (qs ++ q ∷ []) → LeavesOnly v0 new (HasDebt k w s v0.sent (w.debt v0.reads) (qs ++ q ∷ []))
      debt_on all =
          joined v0 v new (HasDebt k w s v0.sent (w.debt v0.reads) (qs ++ q ∷ [])) (λ x f. IsInAnswer k m q v.sent x f × (w.debt x ≤ w.debt v.reads + w.made m q))
          (weakened v0 v (HasDebt k w s v0.sent (w.debt v0.reads) qs) (HasDebt k w s v0.sent (w.debt v0.reads) (qs ++ q ∷ [])) (goes.debt (front_all w.bounded qs (q ∷ []) all))
          (λ x f left. owing_longer k w.made s v0.sent (w.debt v0.reads) qs (q ∷ []) (w.debt x) f left))
          (leaves_both v new (IsInAnswer k m q v.sent) (λ x f. w.debt x ≤ w.debt v.reads + w.made m q) any (debts (next_all w.bounded qs q all)))
          (λ x f left. owing_answer k counted w.made s v0.sent (w.debt v0.reads) qs m goes.answers goes.run v.sent goes.sent (w.debt v.reads) (goes.few (front_all w.bounded qs (q ∷ []) all)) q x f (w.debt x) left.0 left.1)

      -- the request was answered
      pub goes_next : IsSound new → (t : k.States) → k.rests t new.reads → (due2 : ℕ) (a : List ℕ) → k.gives m q a t → new.sent ≡ v.sent ++ a → (w.bounded q → w.debt new.reads ≤ w.debt v.reads + w.made m q - 4) → (w.bounded q → used due2 new ≤ used due1 v + w.cost m q)
          → port (mark new) → IsPrompt k w port m q (mark v) (mark new) → Goes k w port s due v0 (qs ++ q ∷ []) t due2 new
      goes_next sound t rests due2 a given sent less paid here prompt = record {
        answers = goes.answers ++ a ∷ [];
        run = run_next k s m t qs goes.answers q a goes.run given;
        sent = sent_next v0.sent v.sent new.sent goes.answers a goes.sent sent;
        seen = λ n le.
            let now : IsSeen k (new.left n) t new.sent = record { image = new.reads; was_left = sound.counts_now n new.reads new.sent (omega (arith, le, later, any.later)) (sound.own, refl); rests = rests } in
            are_seen_next k (new.left n) m t q a given new.sent now v0.sent s qs goes.answers goes.run (sent_front v0.sent v.sent new.sent goes.answers a goes.sent sent)
            (seen_now n le);
        any_moment = any_next;
        paid = λ all. omega (arith, goes.paid (front_all w.bounded qs (q ∷ []) all), paid (next_all w.bounded qs q all), costs_next k w.cost s m t qs goes.answers q a goes.run given);
        few = λ all. omega (arith, goes.few (front_all w.bounded qs (q ∷ []) all), less (next_all w.bounded qs q all), ap (λ (d : Debt). d.left) (debt_next k w.made s m t qs goes.answers q a goes.run given (debt_of (w.debt v0.reads))));
        debt = debt_on;
        prompt = prompt_next k w port s m t qs goes.answers q a goes.run given (mark v0) (mark v) (mark new) goes.prompt here sent prompt;
      }

      device_stopped : (final : k.States) → (a : IsAnswering k m q v.sent new.sent) → (a.back ≡ []) ⊎ k.in_parts q a.answer → ByStatus status.DeviceFault k s v0.sent (qs ++ q ∷ []) final new.sent
      device_stopped final a how = elim (some_or_none a.back) [
        | inl none ↦
            let all = served_next k counted s v0.sent qs m a.next v.sent new.sent q a.answer (served_of k w port s due v0 qs m due1 v goes) a.given (all_sent a.answer v.sent new.sent a.front a.back a.whole a.sent none) in
            inl (subst (λ l. IsBroken k s v0.sent l new.sent) (append-nil (qs ++ q ∷ [])) (broken k counted s v0.sent (qs ++ q ∷ []) [] a.next new.sent all).0)
        | inr some ↦ elim how [
          | inl none ↦ absurd (omega (arith, some, ap length none))
          | inr parts ↦
              let c = cut_off k counted s v0.sent qs m v.sent new.sent q (served_of k w port s due v0 qs m due1 v goes) a some in
              inr (c.0, subst (λ r. k.in_parts r c.0.answer) (sym c.3) (subst (λ t. k.in_parts q t) (sym c.4) parts))
        ]
      ]

      sent_by : (why : Status) (final : k.States) → (why ≡ status.DeviceFault) ⊎ (why ≡ status.PutFault) → LeftBy why k m q final v.sent new.sent → ByStatus why k s v0.sent (qs ++ q ∷ []) final new.sent
      sent_by why final (inr e) left =
          subst (λ r. ByStatus r k s v0.sent (qs ++ q ∷ []) final new.sent) (sym e)
          (let l = subst (λ r. LeftBy r k m q final v.sent new.sent) e left in
          let c = cut_off k counted s v0.sent qs m v.sent new.sent q (served_of k w port s due v0 qs m due1 v goes) l.0 l.1 in
          (c.0, l.2 ∙ sym c.2))
      sent_by why final (inl e) left =
          subst (λ r. ByStatus r k s v0.sent (qs ++ q ∷ []) final new.sent) (sym e)
          (elim (subst (λ r. LeftBy r k m q final v.sent new.sent) e left) [
            | inl nothing ↦ inl (subst (λ f. IsBroken k s v0.sent (qs ++ q ∷ []) f) (sym nothing) (broken k counted s v0.sent qs (q ∷ []) m v.sent (served_of k w port s due v0 qs m due1 v goes)).0)
            | inr some ↦ device_stopped final some.0 some.1
          ])

      at_most_one : (a : IsAnswering k m q v.sent new.sent) → k.acked a.front ≤ 1
      at_most_one a = elim (some_or_none a.back) [
        | inl none ↦
            let one : k.acked (a.answer ++ []) ≡ suc (k.acked []) = counted.whole m q a.answer a.next [] a.given in
            let same : a.answer ++ [] ≡ a.front = append-nil a.answer ∙ a.whole ∙ ap (λ b. a.front ++ b) none ∙ append-nil a.front in
            let counts : k.acked (a.answer ++ []) ≡ k.acked a.front = ap k.acked same in
            omega (arith, one, counts, counted.nothing)
        | inr some ↦
            let none : k.acked a.front ≡ 0 = counted.part m q a.answer a.next a.front a.back a.given a.whole some in
            omega (arith, none)
      ]

      of_answer : (a : IsAnswering k m q v.sent new.sent) → IsOfNext k m (q ∷ []) a.front
      of_answer a = inr (q, [], refl, record { answer = a.answer; next = a.next; given = a.given; front = a.front; back = a.back; whole = a.whole; sent = refl })

      -- what was sent of its answer: all of it only where the device failed
      front_of : (why : Status) (final : k.States) → (why ≡ status.DeviceFault) ⊎ (why ≡ status.PutFault) → LeftBy why k m q final v.sent new.sent
          → (front : List ℕ) × (new.sent ≡ v.sent ++ front) × (k.acked front ≤ 1) × (why ≢ status.DeviceFault → k.acked front ≡ 0) × IsOfNext k m (q ∷ []) front
      front_of why final (inr e) left =
          let l = subst (λ r. LeftBy r k m q final v.sent new.sent) e left in
          let a = l.0 in
          let none = counted.part m q a.answer a.next a.front a.back a.given a.whole l.1 in
          (a.front, a.sent, omega (arith, none), λ fine. none, of_answer a)
      front_of why final (inl e) left = elim (subst (λ r. LeftBy r k m q final v.sent new.sent) e left) [
        | inl nothing ↦ ([], nothing ∙ sym (append-nil v.sent), omega (arith, counted.nothing), λ fine. counted.nothing, inl refl)
        | inr some ↦
            let a = some.0 in
            (a.front, a.sent, at_most_one a, λ fine. absurd (fine e), of_answer a)
      ]

      seen_stopped : (t : ℕ) → t ≤ v0.clock → (why : Status) (final : k.States) → (why ≡ status.DeviceFault) ⊎ (why ≡ status.PutFault) → LeftBy why k m q final v.sent new.sent
          → (seen : IsSeenRun k (new.left t) s v0.sent (qs ++ q ∷ []) new.sent) × (why ≢ status.DeviceFault → k.acked seen.front ≡ 0)
      seen_stopped t le why final stops left =
          let f = front_of why final stops left in
          let on = seen_run k w port s due v0 t le qs (q ∷ []) m due1 v new goes (kept t le) f.0 f.1 f.2 f.4 in
          (on.0, λ fine. ap k.acked on.1 ∙ f.3 fine)

      -- what was used, where its answer wasn't sent whole, and where it was
      paid_stopped : (why : Status) (final : k.States) → (why ≡ status.DeviceFault) ⊎ (why ≡ status.PutFault) → LeftBy why k m q final v.sent new.sent
          → (All w.bounded (qs ++ q ∷ []) → new.writes ≤ used due v0 + costs k w.cost s qs goes.answers m goes.run + w.cost m q) → IsPaidFor k w s v0.sent (qs ++ q ∷ []) new.sent (used due v0) new.writes
      paid_stopped why final (inr e) left paid =
          let l = subst (λ r. LeftBy r k m q final v.sent new.sent) e left in
          let a = l.0 in
          paid_front k counted w s v0.sent (used due v0) qs m goes.answers goes.run v.sent goes.sent (q ∷ []) new.sent a.front new.writes a.sent (counted.part m q a.answer a.next a.front a.back a.given a.whole l.1) paid
      paid_stopped why final (inl e) left paid = elim (subst (λ r. LeftBy r k m q final v.sent new.sent) e left) [
        | inl nothing ↦ paid_front k counted w s v0.sent (used due v0) qs m goes.answers goes.run v.sent goes.sent (q ∷ []) new.sent [] new.writes (nothing ∙ sym (append-nil v.sent)) counted.nothing paid
        | inr part ↦
            let a = part.0 in
            elim (some_or_none a.back) [
              | inl none ↦ paid_whole k counted w s v0.sent (used due v0) qs m goes.answers goes.run v.sent goes.sent q a.answer a.next new.sent new.writes a.given (all_sent a.answer v.sent new.sent a.front a.back a.whole a.sent none) paid
              | inr some ↦ paid_front k counted w s v0.sent (used due v0) qs m goes.answers goes.run v.sent goes.sent (q ∷ []) new.sent a.front new.writes a.sent (counted.part m q a.answer a.next a.front a.back a.given a.whole some) paid
            ]
      ]

      -- how promptly, where this request stopped the run
      pub prompt_stopped : (why : Status) (final : k.States) → (why ≡ status.DeviceFault) ⊎ (why ≡ status.PutFault) → LeftBy why k m q final v.sent new.sent
          → (p : Spelling Q) (n limit : ℕ) (source : Taking) (bytes : List ℕ) (more : List Q) → n ≡ limit → source.came bytes → AskedBy why p n bytes source.at_end ((qs ++ q ∷ []) ++ more) → Promptly why k w port p limit s source (mark v0) (mark new)
      prompt_stopped why final stops left p n limit source bytes more same came asked =
          let f = front_of why final stops left in
          record {
            bytes = bytes;
            came_in = came;
            asked = (qs ++ q ∷ []) ++ more;
            these = subst (λ l. AskedBy why p l bytes source.at_end ((qs ++ q ∷ []) ++ more)) same asked;
            answered = qs;
            rest = q ∷ more;
            parts = append_assoc qs (q ∷ []) more;
            none_left = λ device put. elim stops [ inl e ↦ absurd (device e) | inr e ↦ absurd (put e) ];
            answers = goes.answers;
            state = m;
            run = goes.run;
            rested = mark v;
            each = goes.prompt;
            not_after = any.later;
            front = f.0;
            sent = f.1;
            one_more = f.2;
            all = f.3;
            as_it_was = λ cut. absurd (not_cut why stops cut);
          }

      -- the request stopped the run
      pub ends_stopped : (why : Status) (final : k.States) → (why ≡ status.DeviceFault) ⊎ (why ≡ status.PutFault) → LeftBy why k m q final v.sent new.sent → (w.bounded q → new.writes ≤ used due1 v + w.cost m q) → Ends why k w s final due v0 new (qs ++ q ∷ [])
      ends_stopped why final stops left most = record {
        seen = λ t le. (seen_stopped t le why final stops left).0;
        all_seen = λ fine t le. (seen_stopped t le why final stops left).1 fine;
        sent = sent_by why final stops left;
        any_moment = any_next;
        most = paid_stopped why final stops left (λ all. omega (arith, goes.paid (front_all w.bounded qs (q ∷ []) all), most (next_all w.bounded qs q all)));
        debt = debt_on;
      }

    -- all that was left to be done is done, or the device failed in it
    module _ (new : View) (any : LeavesOnly v new (λ x f. k.stands m x × (f ≡ v.sent))) (debts : LeavesOnly v new (λ x f. (w.debt x ≤ w.debt v.reads) × (f ≡ v.sent))) (sent : new.sent ≡ v.sent) (most : new.writes ≤ used due1 v) where
      later_then : v0.clock ≤ v.clock
      later_then = (goes.any_moment v0.clock (omega arith)).later

      kept_then : (t : ℕ) → t ≤ v0.clock → (x : Image) (f : List ℕ) → v.left t x f → new.left t x f
      kept_then t le x f left = any.keeps t x f (omega (arith, le, later_then)) left

      ends_close : (r : Status) (final : k.States) → ByStatus r k s v0.sent qs final new.sent → Ends r k w s final due v0 new qs
      ends_close r final by = record {
        seen = λ t le. (seen_whole k w port s due v0 t le counted qs m due1 v new goes (kept_then t le) sent).0;
        all_seen = λ fine t le. (seen_whole k w port s due v0 t le counted qs m due1 v new goes (kept_then t le) sent).1;
        sent = by;
        any_moment = λ t le. joined v0 v new (IsLeftInRun k (new.left t) s v0.sent qs) (λ x f. k.stands m x × (f ≡ v.sent))
            (weakened v0 v (IsLeftInRun k (v.left t) s v0.sent qs) (IsLeftInRun k (new.left t) s v0.sent qs) (goes.any_moment t le) (left_still k (v.left t) (new.left t) (kept_then t le) s v0.sent qs)) any
            (λ x f left. subst (λ l. IsLeftInRun k (new.left t) s v0.sent l x f) (append-nil qs) (at_rest k counted s v0.sent (new.left t) qs [] m v.sent f x (served_of k w port s due v0 qs m due1 v goes) left.0 left.1));
        most = subst (λ l. IsPaidFor k w s v0.sent l new.sent (used due v0) new.writes) (append-nil qs)
            (paid_front k counted w s v0.sent (used due v0) qs m goes.answers goes.run v.sent goes.sent [] new.sent [] new.writes (sent ∙ sym (append-nil v.sent)) counted.nothing (λ all. omega (arith, goes.paid (front_all w.bounded qs [] all), most)));
        debt = λ all. joined v0 v new (HasDebt k w s v0.sent (w.debt v0.reads) qs) (λ x f. (w.debt x ≤ w.debt v.reads) × (f ≡ v.sent)) (goes.debt all) debts
            (λ x f left. owing_rest k counted w.made s v0.sent (w.debt v0.reads) qs m goes.answers goes.run v.sent goes.sent (w.debt v.reads) (goes.few all) f (w.debt x) left.1 left.0);
      }

      pub ends_done : (final : k.States) → final ≡ m → Ends status.Done k w s final due v0 new qs
      ends_done final same = ends_close status.Done final (record { answers = goes.answers; run = subst (λ u. Run k s qs goes.answers u) (sym same) goes.run; sent = sent ∙ goes.sent })

      pub ends_close_fault : (final : k.States) → Ends status.DeviceFault k w s final due v0 new qs
      ends_close_fault final = ends_close status.DeviceFault final
          (inl (subst (λ f. IsBroken k s v0.sent qs f) (sym sent) (subst (λ l. IsBroken k s v0.sent l v.sent) (append-nil qs) (broken k counted s v0.sent qs [] m v.sent (served_of k w port s due v0 qs m due1 v goes)).0)))

-- more requests behind
module _ {Q : Type 0} (k : Service Q) (w : WorkCount Q k.States) (s final : k.States) (due : ℕ) (v0 v : View) (qs more : List Q) where
  by_longer : (why : Status) → (why ≡ status.DeviceFault) ⊎ (why ≡ status.PutFault) → ByStatus why k s v0.sent qs final v.sent → ByStatus why k s v0.sent (qs ++ more) final v.sent
  unfolding cut_off_longer
  by_longer why (inr e) left =
      subst (λ r. ByStatus r k s v0.sent (qs ++ more) final v.sent) (sym e)
      (let c = subst (λ r. ByStatus r k s v0.sent qs final v.sent) e left in
      (cut_off_longer k s v0.sent qs more v.sent c.0, c.1))
  by_longer why (inl e) left =
      subst (λ r. ByStatus r k s v0.sent (qs ++ more) final v.sent) (sym e)
      (elim (subst (λ r. ByStatus r k s v0.sent qs final v.sent) e left) [
        | inl b ↦ inl (broken_longer k s v0.sent qs more v.sent b)
        | inr c ↦ inr (cut_off_longer k s v0.sent qs more v.sent c.0, c.1)
      ])

  next_longer : (m : k.States) (rest : List Q) (front : List ℕ) → IsOfNext k m rest front → IsOfNext k m (rest ++ more) front
  next_longer m rest front (inl none) = inl none
  next_longer m rest front (inr is) = inr (is.0, is.1 ++ more, ap (λ l. l ++ more) is.2, is.3)

  seen_longer : (t : ℕ) (was : IsSeenRun k (v.left t) s v0.sent qs v.sent) → (seen : IsSeenRun k (v.left t) s v0.sent (qs ++ more) v.sent) × (seen.front ≡ was.front)
  seen_longer t was = (
    record {
      answered = was.answered;
      rest = was.rest ++ more;
      parts = ap (λ l. l ++ more) was.parts ∙ append_assoc was.answered was.rest more;
      answers = was.answers;
      state = was.state;
      run = was.run;
      seen = was.seen;
      front = was.front;
      sent = was.sent;
      one_more = was.one_more;
      of_next = next_longer was.state was.rest was.front was.of_next;
    },
    refl,
  )

  pub ends_longer : (why : Status) → (why ≡ status.DeviceFault) ⊎ (why ≡ status.PutFault) → Ends why k w s final due v0 v qs → Ends why k w s final due v0 v (qs ++ more)
  ends_longer why stops ends = record {
    seen = λ t le. (seen_longer t (ends.seen t le)).0;
    all_seen = λ fine t le. ap k.acked (seen_longer t (ends.seen t le)).1 ∙ ends.all_seen fine t le;
    sent = by_longer why stops ends.sent;
    any_moment = λ t le. weakened v0 v (IsLeftInRun k (v.left t) s v0.sent qs) (IsLeftInRun k (v.left t) s v0.sent (qs ++ more)) (ends.any_moment t le) (left_longer k (v.left t) (v.left t) (λ x f left. left) s v0.sent qs more);
    most = paid_longer k w s v0.sent v.sent (used due v0) qs more v.writes ends.most;
    debt = λ all. weakened v0 v (HasDebt k w s v0.sent (w.debt v0.reads) qs) (HasDebt k w s v0.sent (w.debt v0.reads) (qs ++ more)) (ends.debt (front_all w.bounded qs more all))
        (λ x f left. owing_longer k w.made s v0.sent (w.debt v0.reads) qs more (w.debt x) f left);
  }

-- how promptly, where nothing of a further answer was sent
pub prompt_done : {Q : Type 0} (r : Status) (k : Service Q) (counted : IsCounted k) (w : WorkCount Q k.States) (port : Mark → Type 0) (s : k.States) (due : ℕ) (v0 : View) (qs : List Q) (m : k.States) (due1 : ℕ) (v new : View)
    → Goes k w port s due v0 qs m due1 v → new.sent ≡ v.sent → v.clock ≤ new.clock → (IsCutShort r → mark new ≡ mark v)
    → (p : Spelling Q) (n limit : ℕ) (source : Taking) (bytes : List ℕ) → n ≡ limit → source.came bytes → AskedBy r p n bytes source.at_end qs → Promptly r k w port p limit s source (mark v0) (mark new)
prompt_done r k counted w port s due v0 qs m due1 v new goes same later still p n limit source bytes within came asked = record {
  bytes = bytes;
  came_in = came;
  asked = qs;
  these = subst (λ l. AskedBy r p l bytes source.at_end qs) within asked;
  answered = qs;
  rest = [];
  parts = sym (append-nil qs);
  none_left = λ device put. refl;
  answers = goes.answers;
  state = m;
  run = goes.run;
  rested = mark v;
  each = goes.prompt;
  not_after = later;
  front = [];
  sent = same ∙ sym (append-nil v.sent);
  one_more = omega (arith, counted.nothing);
  all = λ fine. counted.nothing;
  as_it_was = still;
}

-- a run as a whole
pub ran_of : {Q : Type 0} (r : Status) (k : Service Q) (w : WorkCount Q k.States) (p : Spelling Q) (s final : k.States) (limit counted : ℕ) (source : Taking) (due : ℕ) (port : Moments) (bytes : List ℕ) (qs : List Q)
    → counted ≡ limit → source.came bytes → AskedBy r p counted bytes source.at_end qs → (port.tells → Ends r k w s final due port.old port.new qs) → Ran r k w p s final limit source due port
ran_of r k w p s final limit counted source due port bytes qs same came asked ends = record { bytes = bytes; came_in = came; asked = qs; these = subst (λ n. AskedBy r p n bytes source.at_end qs) same asked; ends = ends }
