-- A copy on a core, joined from its steps.
use Rattle.std.proofs.Common.{Option, Some, None, ◌≡◌, inl, inr, ⊎_elim, ℕ, refl, sym, ◌∙◌, ap, subst, Result, Ok, Err, IfOk, IfErr}
use Rattle.image_shell.proofs.Common.{AreApart, Core, FilesView, Geometry, IsCoreAt, IsCoreReady, IsOneMore, IsSessionBegun, IsSound, KeepsBehind, LeavesBehind, LeavesOnly, LeavesPart, LeavesWorld, Rose, Stands, Status, Works, World, behind, behind_between, behind_on, joined, no_sessions, part_stays, part_then, same_size, sessions_of, size_at, size_of_image, weakened, world_of}
use Rattle.image_device.specs.View.{View as DeviceView}
use Rattle.tsd_words.specs.declared.status.Status.TheVariants as status
use Rattle.image_shell.proofs.BeginLaws.{none_open}
use Rattle.image_shell.proofs.FromLaws.{moments_of_start}
use Rattle.image_copy.specs.Ends.{EndsAs, IsFirstShared}
use Rattle.image_copy.specs.Steps.{AreBothOpen, CopiesOn, IsEndedOn, IsLeftBy, IsSharing, IsStartOf, IsStoppedBy}
use Rattle.image_copy.specs.declared.ending.CopyEnd.{CopyEnd}
use Rattle.image_copy.specs.declared.ending.CopyEnd.TheVariants as end

-- ---- the sessions

pub both_open : (c0 c1 c2 : Core) → c0.grants.sessions ≡ no_sessions → IsOneMore 1 (sessions_of c0) (sessions_of c1) → IsOneMore 2 (sessions_of c1) (sessions_of c2) → AreBothOpen c2
both_open c0 c1 c2 none one two = record {
  source = two.others 1 one.this;
  target = two.this;
  others = λ n h. ⊎_elim inr (λ before. ⊎_elim inl (λ never. absurd (none_open c0 none n never)) (one.only n before)) (two.only n h);
}

module _ (told : Type 0) (f g : FilesView) (session : ℕ) (c0 c1 : Core) (v u : DeviceView) where
  as_started : told → LeavesOnly v u (λ x s. Stands x (world_of v.reads) × (s ≡ v.sent)) → LeavesOnly v u (λ x s. IsLeftBy f g (world_of v.reads) x × (s ≡ v.sent))
  as_started t any = weakened v u (λ x s. Stands x (world_of v.reads) × (s ≡ v.sent)) (λ x s. IsLeftBy f g (world_of v.reads) x × (s ≡ v.sent)) any (λ x s left. (inl left.0, left.1))

  -- one wasn't begun
  pub not_begun : {A : Type 0} (why : Status) → IsSessionBegun {X = A} told session c0 c1 v u (Err why) → (told → IsCoreAt c0 v) → CopiesOn told f g c1 v u (Err why)
  not_begun why begun was = record {
    ended = tt;
    stopped = elim begun.stops [
      | inl device ↦ subst (IsStoppedBy told v u) (sym device) (begun.faults.0 (ap Err device))
      | inr memory ↦ subst (IsStoppedBy told v u) (sym memory) (begun.faults.1 (λ is. cc), begun.any_moment)
    ];
    sent = begun.sent;
    any_moment = λ t. as_started t (begun.any_moment t);
    behind = behind_on told c0 c1 v u was begun.behind;
    put_faults = begun.put_faults;
  }

  -- one was, and a copy follows
  module _ {A : Type 0} (a : A) (begun : IsSessionBegun {X = A} told session c0 c1 v u (Ok a)) where
    faultless : u.faults ≡ v.faults
    faultless = begun.faults.1 (λ is. cc)

    module _ (c2 : Core) (w : DeviceView) where
      ended_so : (r : Result CopyEnd Status) → IfOk r (IsEndedOn told f g c2 u w) → IfOk r (IsEndedOn told f g c2 v w)
      ended_so (Ok e) ended = record {
        ready = ended.ready;
        at = ended.at;
        size = λ t. ended.size t ∙ same_size u.reads v.reads (begun.at t).world;
        ends = λ t. subst (λ (y : World). EndsAs f g y e (world_of w.reads)) (begun.at t).world (ended.ends t);
        words = ended.words;
        faults = ended.faults ∙ faultless;
      }
      ended_so (Err why) ended = tt

      stopped_so : (r : Result CopyEnd Status) → IfErr r (IsStoppedBy told u w) → IfErr r (IsStoppedBy told v w)
      stopped_so (Ok e) stopped = tt
      stopped_so (Err status.DeviceFault) rose = subst (λ (n : ℕ). Rose n w.faults) faultless rose
      stopped_so (Err status.NoMemory) stopped = (
        stopped.0 ∙ faultless,
        λ t. joined v u w (λ x s. Stands x (world_of v.reads) × (s ≡ v.sent)) (λ x s. Stands x (world_of u.reads) × (s ≡ u.sent)) (begun.any_moment t) (stopped.1 t)
            (λ x s left. (subst (λ (y : World). Stands x y) (begun.at t).world left.0, left.1 ∙ begun.sent t)),
      )
      stopped_so (Err why) stopped = absurd stopped

      pub copies_begun : (r : Result CopyEnd Status) → CopiesOn told f g c2 u w r → (told → IsCoreAt c0 v) → CopiesOn told f g c2 v w r
      copies_begun r copies was = record {
        ended = ended_so r copies.ended;
        stopped = stopped_so r copies.stopped;
        sent = λ t. copies.sent t ∙ begun.sent t;
        any_moment = λ t. joined v u w (λ x s. IsLeftBy f g (world_of v.reads) x × (s ≡ v.sent)) (λ x s. IsLeftBy f g (world_of u.reads) x × (s ≡ u.sent)) (as_started t (begun.any_moment t)) (copies.any_moment t)
            (λ x s left. (subst (λ (y : World). IsLeftBy f g y x) (begun.at t).world left.0, left.1 ∙ begun.sent t));
        behind = behind_between told c0 c1 v u w was (λ t. (begun.at t).core) begun.behind copies.behind;
        put_faults = copies.put_faults ∙ begun.put_faults;
      }

-- ---- a block is shared, and nothing was done

pub shared_on : (told : Type 0) (f g : FilesView) (c : Core) (v : DeviceView) (b : ℕ) → (told → IsSound v) → IsStartOf told f g c v → (told → IsFirstShared (world_of v.reads) f.root g.root b) → CopiesOn told f g c v v (Ok (end.Shared b))
shared_on told f g c v b sound start shared = record {
  ended = record { ready = start.ready; at = λ t. (start.at t).core; size = λ t. size_at c v (start.at t).core; ends = λ t. (shared t, refl); words = tt; faults = refl };
  stopped = tt;
  sent = λ t. refl;
  any_moment = λ t. as_started told f g 0 c c v v t (moments_of_start (world_of v.reads) c v (sound t) (start.at t));
  behind = λ t. part_stays (behind (size_of_image v.reads)) v (sound t) (start.at t).core.0;
  put_faults = refl;
}

-- none is
pub unshared : (w : World) (root other : ℕ) (o : Option ℕ) → ((b : ℕ) → o ≡ Some b → ⊥) → IsSharing w root other o → AreApart w root other
unshared w root other (Some b) none sharing = absurd (none b refl)
unshared w root other None none sharing = sharing

-- ---- and closed

module _ (told : Type 0) (f g : FilesView) (c1 c2 : Core) (v u w : DeviceView) (e : CopyEnd) (copies : CopiesOn told f g c1 v u (Ok e)) (any : told → LeavesWorld u w) (sent : told → w.sent ≡ u.sent) (works : Works u w) (sound : told → IsSound u) (aside : KeepsBehind told c1 c2 u w) where
  closing : told → LeavesOnly v w (λ x s. IsLeftBy f g (world_of v.reads) x × (s ≡ v.sent))
  closing t = joined v u w (λ x s. IsLeftBy f g (world_of v.reads) x × (s ≡ v.sent)) (λ x s. Stands x (world_of u.reads) × (s ≡ u.sent)) (copies.any_moment t) (any t)
      (λ x s left. (inr (world_of u.reads, left.0, inr (e, copies.ended.ends t)), left.1 ∙ copies.sent t))

  closing_behind : told → LeavesBehind v w
  closing_behind t = part_then (behind (size_of_image v.reads)) v u w (sound t) (copies.behind t) (subst (λ (s : Geometry). LeavesPart (behind s) u w) (copies.ended.size t) (aside.any_moment t))

  closed_as : (r : Result CopyEnd Status) → IfOk r (IsEndedOn told f g c2 v w) → IfErr r (IsStoppedBy told v w) → CopiesOn told f g c2 v w r
  closed_as r ended stopped = record { ended = ended; stopped = stopped; sent = λ t. sent t ∙ copies.sent t; any_moment = closing; behind = closing_behind; put_faults = works.put_faults ∙ copies.put_faults }

  pub closed_on : IsCoreReady c2 → (told → IsCoreAt c2 w) → (told → world_of w.reads ≡ world_of u.reads) → w.faults ≡ u.faults → CopiesOn told f g c2 v w (Ok e)
  closed_on ready at same faultless = closed_as (Ok e) (record {
    ready = ready;
    at = at;
    size = λ t. aside.size ∙ copies.ended.size t;
    ends = λ t. subst (λ (y : World). EndsAs f g (world_of v.reads) e y) (sym (same t)) (copies.ended.ends t);
    words = copies.ended.words;
    faults = faultless ∙ copies.ended.faults;
  }) tt

  pub not_closed : Rose u.faults w.faults → CopiesOn told f g c2 v w (Err status.DeviceFault)
  not_closed rose = closed_as (Err status.DeviceFault) tt (subst (λ (n : ℕ). Rose n w.faults) copies.ended.faults rose)
