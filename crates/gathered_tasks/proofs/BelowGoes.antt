-- A task on the device itself.
use Rattle.std.proofs.Common.{◌≡◌, inl, inr, ⊎_elim, true, List, [], sym, ◌∙◌, ap, subst}
use Rattle.gathered_tasks.proofs.Common.{AreClosed, Core, CountsFault, Err, Failed, GoesOn, IfOk, IsCoreAt, IsCoreReady, IsInMemory, IsSound, JournalRecord, LeavesEither, LeavesOnly, LeavesPart, Ok, OnErr, OnOk, Patch, Result, Rose, SameSize, Stands, StandsForAny, StandsForEither, State, View, Works, World, behind, gone_on, held_state, joined, part_then, state_on, world_of, world_on}
use Rattle.volume_laws.proofs.OperationLaws.{works_joined}
use Rattle.gathered_tasks.proofs.HoldLaws.{below_at, below_base, below_state}

-- the facts of a task, on the device or over a part
pub record RanBelow {T : Type 0} (told : Type 0) (c0 c1 : Core) (u w : View) (next : World) (r : Result T Failed) : Type 0 where
  pub ready : OnOk r (IsCoreReady c1)
  pub empty : OnOk r (c1.volume.ring ≡ [])
  pub at : told → OnOk r (IsCoreAt c1 w)
  pub closed : told → OnOk r (AreClosed w.reads)
  pub size : SameSize c0 c1
  pub spent : OnErr r (c1.volume.is_spent ≡ true)
  pub sent : told → w.sent ≡ u.sent
  pub any_moment : told → LeavesEither u w next
  pub behind : told → LeavesPart (behind c0.volume.tables.geometry) u w
  pub works : Works u w
  pub faults : CountsFault r u.faults w.faults

module _ (told : Type 0) (c0 c1 : Core) (ring : List JournalRecord) (b0 b1 : List Patch) (v u w : View) (next : World) (ringed : ring ≡ []) (none : b1 ≡ []) (sound : told → IsSound u)
    (first : told → LeavesOnly v u (λ x f. StandsForAny (world_of v.reads) (world_of (gone_on b0 v.reads)) next x × (f ≡ v.sent))) (aside : told → LeavesPart (behind c0.volume.tables.geometry) v u)
    (sent : told → u.sent ≡ v.sent) (works : Works v u) (same : u.faults ≡ v.faults) (now : told → world_on u ≡ world_of (gone_on b0 v.reads)) where
  moments : (t : told) → LeavesEither u w next → LeavesOnly v w (λ x f. StandsForAny (world_of v.reads) (world_of (gone_on b0 v.reads)) next x × (f ≡ v.sent))
  moments t more =
      joined v u w (λ x f. StandsForAny (world_of v.reads) (world_of (gone_on b0 v.reads)) next x × (f ≡ v.sent)) (λ x f. StandsForEither (world_on u) next x × (f ≡ u.sent)) (first t) more
      (λ x f left. (⊎_elim (λ s. inr (inl (subst (λ (k : World). Stands x k) (now t) s))) (λ s. inr (inr s)) left.0, left.1 ∙ sent t))

  pub below_goes : {T : Type 0} (r : Result T Failed) → RanBelow told c0 c1 u w next r → GoesOn told c0 c1 ring b0 b1 v w next r
  below_goes (Ok x) ran = record {
    ready = record { ready = ran.ready; empty = ran.empty };
    at = λ t. subst (λ (b : List Patch). IsInMemory c1 ring b w) (sym none) (subst (λ (rs : List JournalRecord). IsInMemory c1 rs [] w) (sym ringed) (below_at w (ran.at t) ran.empty (ran.closed t)));
    size = ran.size;
    spent = tt;
    sent = λ t. ran.sent t ∙ sent t;
    any_moment = λ t. moments t (ran.any_moment t);
    behind = λ t. part_then (behind c0.volume.tables.geometry) v u w (sound t) (aside t) (ran.behind t);
    works = works_joined v u w works ran.works;
    faults = ran.faults ∙ same;
  }
  below_goes (Err e) ran = record {
    ready = tt;
    at = λ t. tt;
    size = ran.size;
    spent = ran.spent;
    sent = λ t. ran.sent t ∙ sent t;
    any_moment = λ t. moments t (ran.any_moment t);
    behind = λ t. part_then (behind c0.volume.tables.geometry) v u w (sound t) (aside t) (ran.behind t);
    works = works_joined v u w works ran.works;
    faults = subst (λ n. Rose n w.faults) same ran.faults;
  }

pub below_world : {T : Type 0} {told : Type 0} {c0 c1 : Core} {u w : View} {next : World} (r : Result T Failed) → RanBelow told c0 c1 u w next r → told → OnOk r (world_of w.reads ≡ world_of (gone_on [] w.reads))
below_world {w = w} (Ok x) ran t = below_base w (ran.at t) ran.empty (ran.closed t)
below_world (Err e) ran t = tt

pub below_given : {T : Type 0} {told : Type 0} {c0 c1 : Core} (b0 : List Patch) {b1 : List Patch} (v : View) {u w : View} {next : World} (r : Result T Failed) → RanBelow told c0 c1 u w next r → b1 ≡ [] → (P : State → T → State → Type 0) → (t : told)
    → state_on c0 u.reads ≡ held_state c0 b0 v → IfOk r (λ x. P (state_on c0 u.reads) x (state_on c1 w.reads)) → IfOk r (λ x. P (held_state c0 b0 v) x (held_state c1 b1 w))
below_given {c0 = c0} {c1 = c1} b0 {b1 = b1} v {u = u} {w = w} (Ok x) ran none P t same given =
    subst (λ (s : State). P s x (held_state c1 b1 w)) same (subst (λ (s : State). P (state_on c0 u.reads) x s) (sym (ap (λ (b : List Patch). held_state c1 b w) none ∙ below_state w (ran.at t) ran.empty (ran.closed t))) given)
below_given b0 v (Err e) ran none P t same given = tt
