-- A disk that was opened, and a run from there as one from the start.
use Rattle.std.proofs.Common.{◌≡◌, inl, inr, ℕ, ◌≤◌, Bool, true, false, List, [], refl, sym, ◌∙◌, ap, subst, append-nil, arith}
use Rattle.std.specs.Prelude.{All, Result, Ok, Err}
use Rattle.image_runs.proofs.Common.{World, State, at_rest, PlaceKind, Request, View, IsFirm, LeavesOnly, joined, weakened, leaves_both, Image, home, Stands, world_of, tables_of, StandAlike, IsQuiet, IsGood, Status, IsPaidFor, HasDebt, Spelling, Placed, ByStatus, AskedBy, IsAcknowledged, IsCounted, Voice, Core, state_on, debt, disk_work, placed_on, IsUnopened, IsJudged, disk_service, start_of, IsAtEase, IsOwed, RunEnds}
use Rattle.tsd_words.specs.declared.status.Status.TheVariants as status
use Rattle.serving.specs.Ran.{Ends as Served}
use Rattle.serving.specs.Seen.{IsLeftInRun}
use Rattle.serving.proofs.Seen.{acknowledged}
use Rattle.serving.specs.Work.{used}

-- a disk beside a placement
pub placed_at : (kind : PlaceKind) (c : Core) (x : Image) (w : World) → state_on c x ≡ at_rest w → placed_on kind c x ≡ record { kind = kind; state = at_rest w }
placed_at kind c x w at = ap (λ (s : State). let p : Placed = record { kind = kind; state = s } in p) at

-- with nothing answered, an image of the world at the start
pub first_moment : (v : Voice) (s : Placed) (before : List ℕ) (qs : List Request) (x : Image) (f : List ℕ) → IsCounted (disk_service v) → Stands x s.state.world → f ≡ before
    → IsAcknowledged (disk_service v) s before qs x f
first_moment v s before qs x f counted stands e = inl (
  record {
    answered = [];
    rest = qs;
    parts = refl;
    answers = [];
    state = s;
    run = refl;
    sent = e ∙ sym (append-nil before);
    count = counted.nothing;
  },
  stands,
)

-- what a crash leaves while an image is opened
pub opening_moments : (v : Voice) (kind : PlaceKind) (old mid : View) (qs : List Request) → IsCounted (disk_service v)
    → LeavesOnly old mid (λ x f. StandAlike old.reads x × (f ≡ old.sent)) → (w : World) → Stands old.reads w
    → LeavesOnly old mid (IsAcknowledged (disk_service v) (start_of kind old.reads) old.sent qs)
opening_moments v kind old mid qs counted leaves w stands =
    let own : Stands old.reads (world_of old.reads) = record { good = stands.good; world = refl } in
    weakened old mid _ _ leaves (λ x f left. first_moment v (start_of kind old.reads) old.sent qs x f counted ((left.0 (world_of old.reads)).0 own) left.1)

-- how much a crash leaves to be reclaimed while an image is opened
pub opening_debt : (v : Voice) (kind : PlaceKind) (old mid : View) (qs : List Request)
    → LeavesOnly old mid (λ x f. StandAlike old.reads x × (f ≡ old.sent))
    → ((tables_of (home old.reads)).is_sweeping ≡ false → LeavesOnly old mid (λ x f. debt x ≤ debt old.reads))
    → LeavesOnly old mid (IsOwed v kind old qs)
opening_debt v kind old mid qs leaves owes = go ((tables_of (home old.reads)).is_sweeping) refl
  where
    go : (b : Bool) → (tables_of (home old.reads)).is_sweeping ≡ b → LeavesOnly old mid (IsOwed v kind old qs)
    go true e = weakened old mid _ (IsOwed v kind old qs) leaves (λ x f p. inr (p.1, λ closed. absurd (cc)))
    go false e = weakened old mid _ (IsOwed v kind old qs) (leaves_both old mid _ _ leaves (owes e)) (λ x f p. inr (p.0.1, λ closed. p.1))

-- what is paid from less is paid from more
pub paid_from : (v : Voice) (s : Placed) (before : List ℕ) (qs : List Request) (sent : List ℕ) (less more now : ℕ) → less ≤ more → IsPaidFor (disk_service v) disk_work s before qs sent less now → IsPaidFor (disk_service v) disk_work s before qs sent more now
paid_from v s before qs sent less more now le p = record {
  answered = p.answered;
  rest = p.rest;
  parts = p.parts;
  answers = p.answers;
  state = p.state;
  run = p.run;
  front = p.front;
  sent = p.sent;
  count = p.count;
  paid = λ bounded. omega (arith, p.paid bounded, le);
}

-- nothing was asked, and nothing written
pub paid_nothing : (v : Voice) (s : Placed) (before sent : List ℕ) (start now : ℕ) → IsCounted (disk_service v) → sent ≡ before → now ≤ start → IsPaidFor (disk_service v) disk_work s before [] sent start now
paid_nothing v s before sent start now counted same le =
    record { answered = []; rest = []; parts = refl; answers = []; state = s; run = refl; front = []; sent = same ∙ sym (append-nil before); count = counted.nothing; paid = λ bounded. omega (arith, le) }

-- what is known of opening: what a crash leaves, and how often was written
pub record OpenedBy (old mid : View) (owed : ℕ) : Type 0 where
  pub sent : mid.sent ≡ old.sent
  pub any_moment : IsFirm old → LeavesOnly old mid (λ x f. StandAlike old.reads x × (f ≡ old.sent))
  pub any_debt : IsFirm old → (tables_of (home old.reads)).is_sweeping ≡ false → LeavesOnly old mid (λ x f. debt x ≤ debt old.reads)
  pub writes : IsQuiet old.reads → used owed mid ≤ old.writes

-- The run after opening, as one from the start.
pub ends_opened : (r : Status) (v : Voice) (kind : PlaceKind) (old mid new : View) (qs : List Request) (s final : Placed) (owed : ℕ) → IsCounted (disk_service v)
    → s ≡ start_of kind old.reads → debt mid.reads ≡ 0 → OpenedBy old mid owed
    → Served r (disk_service v) disk_work s final owed mid new qs → (r ≡ status.Done → IsAtEase new final.state.world) → RunEnds r v kind old new qs final
ends_opened r v kind old mid new qs s final owed counted at settled opened served done =
    let start = start_of kind old.reads in
    let sent = opened.sent in
    let by : ByStatus r (disk_service v) start old.sent qs final new.sent =
    subst (λ (b : List ℕ). ByStatus r (disk_service v) start b qs final new.sent) sent (subst (λ (p : Placed). ByStatus r (disk_service v) p mid.sent qs final new.sent) at served.sent) in
    let moments : LeavesOnly mid new (IsAcknowledged (disk_service v) start old.sent qs) =
    subst (λ (b : List ℕ). LeavesOnly mid new (IsAcknowledged (disk_service v) start b qs)) sent (subst (λ (p : Placed). LeavesOnly mid new (IsAcknowledged (disk_service v) p mid.sent qs))
    at (weakened mid new (IsLeftInRun (disk_service v) (new.left mid.clock) s mid.sent qs) (IsAcknowledged (disk_service v) s mid.sent qs) (served.any_moment mid.clock (omega arith))
    (acknowledged (disk_service v) (new.left mid.clock) (λ t q x none. none) s mid.sent qs))) in
    let debts : All disk_work.bounded qs → LeavesOnly mid new (HasDebt (disk_service v) disk_work start old.sent 0 qs) = λ bounded.
    subst (λ (n : ℕ). LeavesOnly mid new (HasDebt (disk_service v) disk_work start old.sent n qs)) settled
    (subst (λ (b : List ℕ). LeavesOnly mid new (HasDebt (disk_service v) disk_work start b (debt mid.reads) qs)) sent
    (subst (λ (p : Placed). LeavesOnly mid new (HasDebt (disk_service v) disk_work p mid.sent (debt mid.reads) qs)) at (served.debt bounded))) in
    let most : IsPaidFor (disk_service v) disk_work start old.sent qs new.sent (used owed mid) new.writes =
    subst (λ (b : List ℕ). IsPaidFor (disk_service v) disk_work start b qs new.sent (used owed mid) new.writes) sent
    (subst (λ (p : Placed). IsPaidFor (disk_service v) disk_work p mid.sent qs new.sent (used owed mid) new.writes) at served.most) in
    record {
      sent = by;
      any_moment = λ firm w stands. joined old mid new _ _ (opening_moments v kind old mid qs counted (opened.any_moment firm) w stands) moments (λ x f acked. acked);
      debt = λ firm bounded. joined old mid new (IsOwed v kind old qs) _ (opening_debt v kind old mid qs (opened.any_moment firm) (opened.any_debt firm)) (debts bounded) (λ x f has. inl has);
      writes = λ quiet. paid_from v start old.sent qs new.sent (used owed mid) old.writes new.writes (opened.writes quiet) most;
      done = done;
    }

-- Nothing was opened.
pub ends_unopened : (r : Status) (v : Voice) (kind : PlaceKind) (old new : View) → IsCounted (disk_service v) → IsUnopened r → OpenedBy old new 0
    → RunEnds r v kind old new [] (start_of kind old.reads)
ends_unopened r v kind old new counted why opened =
    record {
      sent = by r why;
      any_moment = λ firm w stands. opening_moments v kind old new [] counted (opened.any_moment firm) w stands;
      debt = λ firm bounded. opening_debt v kind old new [] (opened.any_moment firm) (opened.any_debt firm);
      writes = λ quiet. paid_nothing v (start_of kind old.reads) old.sent new.sent old.writes new.writes counted opened.sent (omega (arith, opened.writes quiet));
      done = λ e. absurd (subst IsUnopened e why);
    }
  where
    by : (t : Status) → IsUnopened t → ByStatus t (disk_service v) (start_of kind old.reads) old.sent [] (start_of kind old.reads) new.sent
    by (status.NotImage reason) h = record { answers = []; run = refl; sent = opened.sent ∙ sym (append-nil old.sent) }
    by status.NoMemory h = record { answers = []; run = refl; sent = opened.sent ∙ sym (append-nil old.sent) }
    by status.DeviceFault h = inl (record { answered = []; rest = []; parts = refl; answers = []; state = start_of kind old.reads; run = refl; sent = opened.sent ∙ sym (append-nil old.sent); count = counted.nothing })
    by r h = absurd h

-- ---- statuses

-- a loop's status comes of a disk that was opened
pub judged_by : (image : Image) (r : Status) (p : Spelling Request) (limit : ℕ) (bytes : List ℕ) (ended : Type 0) (qs : List Request) → AskedBy r p limit bytes ended qs → IsGood image → IsJudged image r
judged_by image (status.NotImage reason) p limit bytes ended qs h good = absurd h
judged_by image status.DeviceFault p limit bytes ended qs h good = tt
judged_by image status.NoMemory p limit bytes ended qs h good = tt
judged_by image r p limit bytes ended qs h good = good

-- of a status with which nothing was opened
pub not_of_source : (r : Status) → IsUnopened r → r ≡ status.SourceFault → ⊥
not_of_source r h e = subst IsUnopened e h

pub not_of_put : (r : Status) → IsUnopened r → r ≡ status.PutFault → ⊥
not_of_put r h e = subst IsUnopened e h

-- two statuses, and two results
pub done_no_fault : (r : Status) → r ≡ status.Done → r ≡ status.DeviceFault → ⊥
done_no_fault r done fault = cc

pub ok_no_fault : {T : Type 0} (x : T) → ◌≡◌ {A = Result T Status} (Ok x) (Err status.DeviceFault) → ⊥
ok_no_fault x e = cc
