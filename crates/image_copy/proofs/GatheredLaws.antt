-- A copy that was carried out in memory, and what is committed of it.
use Rattle.std.proofs.Common.{◌≡◌, ◌⊎◌, inl, inr, ℕ, false, true, List, [], refl, sym, ◌∙◌, ap, subst, Result, Ok, Err, OnOk, IfOk, IfErr, is_some}
use Rattle.image_shell.proofs.Common.{AreApart, Core, CountsFault, DiskView, FilesView, Fits, Geometry, IsBegun, IsCoreAt, IsCoreReady, IsImageOf, IsLeftNow, IsSound, IsValid, LeavesBehind, LeavesOnly, LeavesPart, PlaceKind, Rose, Stands, State, Status, There, View, Works, World, behind, blocks_view, held_world, joined, part_then, sessions_of, size_at, size_of_image, started, told_world, weakened, world_below, world_of}
use Rattle.volume_laws.proofs.QuestionLaws.{told_size}
use Rattle.tsd_words.specs.declared.status.Status.TheVariants as status
use Rattle.tsd_core.specs.Work.{SameSize}
use Rattle.gathered_tasks.specs.Carried.{LeavesBaseOrNow}
use Rattle.gathered_tasks.specs.Held.{IsInMemory, IsReadyInMemory}
use Rattle.gathered_tasks.specs.Rooms.{gathered}
use Rattle.gathered_tasks.specs.declared.asked.Before.{Before}
use Rattle.gathered_tasks.specs.declared.room.AskRoom.{AskRoom}
use Rattle.gathered_tasks.proofs.CarryLaws.{begun_held, begun_in_memory, with_ring}
use Rattle.gathered_tasks.proofs.RunLaws.{asks_aside, asks_base, asks_held, asks_leave}
use Rattle.image_copy.specs.Ends.{EndsAs, IsUnderWay}
use Rattle.image_copy.specs.Gathered.{IsCopyGathered, IsCopyReady, IsCopyist}
use Rattle.image_copy.specs.Steps.{AreBothOpen, CopiesBetween, CopiesOn, IsEndedOn, IsLeftBy, IsStartOf, IsStoppedBy}
use Rattle.image_copy.specs.declared.ending.CopyEnd.{CopyEnd}

-- ---- what was gathered

on_ok : {P Q : Type 0} (r : Result CopyEnd Status) → (P → Q) → OnOk r P → OnOk r Q
on_ok (Ok e) h p = h p
on_ok (Err why) h p = tt

pub gathered_as : {D : Type 0} (told : Type 0) (view : D → View) (start : View) (f g : FilesView) (l m : ℕ × ℕ) (kind placed : PlaceKind) (bs cs : List (Before D)) (a old b new : There D) (r : Result CopyEnd Status)
    → a ≡ old → b ≡ new → bs ≡ [] → CopiesBetween told f g (blocks_view view l kind start a bs) (blocks_view view m placed start b cs) r
    → (b.core.volume.is_spent ≡ false → is_some b.room.room ≡ true) → (b.core.volume.is_spent ≡ false → IsReadyInMemory b.core) → (told → b.core.volume.is_spent ≡ false → IsInMemory b.core b.room.ring (gathered b.room) (view b.dev))
    → IsCopyGathered told view start f g old new r
gathered_as told view start f g l m kind placed bs cs a old b new r was is none copies here ready at = record {
  lenders = l;
  lenders_now = m;
  kind = kind;
  kind_now = placed;
  asked = cs;
  copies = subst (λ (n : There _). CopiesBetween told f g (blocks_view view l kind start old []) (blocks_view view m placed start n cs) r) is
      (subst (λ (o : There _). CopiesBetween told f g (blocks_view view l kind start o []) (blocks_view view m placed start b cs) r) was
      (subst (λ (ls : List (Before _)). CopiesBetween told f g (blocks_view view l kind start a ls) (blocks_view view m placed start b cs) r) none copies));
  here = subst (λ (n : There _). OnOk r (is_some n.room.room ≡ true)) is (on_ok r here copies.unspent);
  ready = subst (λ (n : There _). OnOk r (IsReadyInMemory n.core)) is (on_ok r ready copies.unspent);
  at = λ t. subst (λ (n : There _). OnOk r (IsInMemory n.core n.room.ring (gathered n.room) (view n.dev))) is (on_ok r (at t) copies.unspent);
}

-- what was lent is given back, as it was left
pub given_back : {D : Type 0} {told : Type 0} {view : D → View} {start : View} {f g : FilesView} {begin : There D} {core core_now : Core} {room room_now : AskRoom} {dev dev_now : D} {r : Result CopyEnd Status}
    → core_now ≡ core → room_now ≡ room → dev_now ≡ dev → IsCopyGathered told view start f g begin (record { core = core; room = room; dev = dev }) r → IsCopyGathered told view start f g begin (record { core = core_now; room = room_now; dev = dev_now }) r
given_back core room dev did = rw (core, room, dev) did

-- ---- over a device

module _ {D : Type 0} (told : Type 0) (view : D → View) (sound : (d : D) → told → IsSound (view d)) (f g : FilesView) (c0 c1 : Core) (r1 : AskRoom) (dev : D) (is : c1 ≡ with_ring c0 []) (given : r1.ring ≡ c0.volume.ring) (none : gathered r1 ≡ []) (unspent : c1.volume.is_spent ≡ false)
    (starts : IsStartOf told f g c0 (view dev)) where
  abbrev v : View
  v = view dev

  abbrev begin : There D
  begin = record { core = c1; room = r1; dev = dev }

  core_at : told → IsCoreAt c0 v
  core_at t = (starts.at t).core

  -- what is in memory as it begins is what is on the device
  world_begun : told → held_world view r1 dev ≡ world_of v.reads
  world_begun t = ap (λ (s : State). s.world) (begun_held c0 v (core_at t) c1 r1.ring (gathered r1) is given none)

  pub ready_begun : AreBothOpen c0 → (told → AreApart (world_of v.reads) f.root g.root) → IsCopyReady told view f g c1 r1 dev
  ready_begun both apart = record {
    copyist = subst (λ (c : Core). IsCopyist f g c) (sym is) (record { source = starts.source; target = starts.target; source_asks = starts.source_asks; target_asks = starts.target_asks; begun = record { source = both.source; target = both.target; others = both.others } });
    at = λ t. begun_in_memory c0 v (core_at t) c1 r1.ring (gathered r1) is given none;
    valid = λ t. subst IsValid (sym (world_begun t)) (starts.at t).valid;
    fits = λ t. subst (λ (w : World). Fits w (sessions_of c1)) (sym (world_begun t))
        (subst (λ s. Fits (world_of v.reads) s) (sym (ap (λ (s : State). s.sessions) (begun_held c0 v (core_at t) c1 r1.ring (gathered r1) is given none))) (starts.at t).fits);
    apart = λ t. subst (λ (w : World). AreApart w f.root g.root) (sym (world_begun t)) (apart t);
  }

  begun : told → IsBegun view v begin
  begun t = record {
    unspent = unspent;
    rested = record { reads = refl; loose = refl; sent = refl; leaves = started v (IsLeftNow v) (sound dev t) (λ x s now. now) };
    writes = refl;
    same = sym (world_begun t);
  }

  module _ (now : There D) (r : Result CopyEnd Status) (did : IsCopyGathered told view v f g begin now r) where
    abbrev w : View
    w = view now.dev

    abbrev old : DiskView
    old = blocks_view view did.lenders did.kind v begin []

    abbrev new : DiskView
    new = blocks_view view did.lenders_now did.kind_now v now did.asked

    abbrev Way : World → Type 0
    Way = IsUnderWay f g (held_world view r1 dev)

    left_as : (to : View) → told → LeavesOnly v to (IsImageOf Way v.sent) → LeavesOnly v to (λ x s. IsLeftBy f g (world_of v.reads) x × (s ≡ v.sent))
    left_as to t leaves =
        weakened v to (IsImageOf Way v.sent) (λ x s. IsLeftBy f g (world_of v.reads) x × (s ≡ v.sent)) leaves
        (λ x s left. (inr (left.0, left.1, inl (subst (λ (y : World). IsUnderWay f g y left.0) (world_begun t) left.2)), left.3))

    left : told → LeavesOnly v w (IsImageOf Way v.sent)
    left t = asks_leave view did.lenders did.lenders_now did.kind did.kind_now v begin now did.asked (λ d. sound d t) (core_at t).0 (core_at t).1.good (begun t) Way (did.copies.crash t)

    sent : told → w.sent ≡ v.sent
    sent t = (did.copies.crash t).sent

    size : told → (told_world now.core).geometry ≡ size_of_image v.reads
    size t = did.copies.counts.geometry ∙ ap (λ (c : Core). (told_world c).geometry) is ∙ size_at c0 v (core_at t)

    aside : told → LeavesBehind v w
    aside t =
        subst (λ (s : Geometry). LeavesPart (behind s) v w) (sym (told_size now.core.volume.tables).0 ∙ size t)
        (asks_aside view did.lenders did.lenders_now did.kind did.kind_now v begin now did.asked (λ d. sound d t) (core_at t).0 (core_at t).1.good (begun t) Way (did.copies.crash t))

    -- The copy has no end: nothing is committed.
    pub no_end : (why : Status) → r ≡ Err why → CopiesOn told f g now.core v w (Err why)
    no_end why fell = record {
      ended = tt;
      stopped =
          let is : why ≡ status.DeviceFault = subst (λ (q : Result CopyEnd Status). IfErr q (λ e. e ≡ status.DeviceFault)) fell did.copies.stops in
          subst (IsStoppedBy told v w) (sym is) (subst (λ (q : Result CopyEnd Status). CountsFault q v.faults w.faults) fell did.copies.faults);
      sent = sent;
      any_moment = λ t. left_as w t (left t);
      behind = aside;
      put_faults = did.copies.counts.put_faults;
    }

    -- ---- it has one, and a commit follows

    module _ (end : CopyEnd) (went : r ≡ Ok end) where
      copies : CopiesBetween told f g old new (Ok end)
      copies = subst (λ (q : Result CopyEnd Status). CopiesBetween told f g old new q) went did.copies

      pub here_then : is_some now.room.room ≡ true
      here_then = subst (λ (q : Result CopyEnd Status). OnOk q (is_some now.room.room ≡ true)) went did.here

      pub ready_then : IsReadyInMemory now.core
      ready_then = subst (λ (q : Result CopyEnd Status). OnOk q (IsReadyInMemory now.core)) went did.ready

      pub at_then : told → IsInMemory now.core now.room.ring (gathered now.room) w
      at_then t = subst (λ (q : Result CopyEnd Status). OnOk q (IsInMemory now.core now.room.ring (gathered now.room) w)) went (did.at t)

      module _ (c3 : Core) (dev3 : D) (any : told → LeavesBaseOrNow (gathered now.room) w (view dev3)) (more_aside : told → LeavesPart (behind now.core.volume.tables.geometry) w (view dev3)) (sent3 : told → (view dev3).sent ≡ w.sent) (size3 : SameSize now.core c3)
          (works : Works w (view dev3)) where
        left_then : told → LeavesOnly v (view dev3) (IsImageOf Way v.sent)
        left_then t =
            joined v w (view dev3) (IsImageOf Way v.sent) (λ x s. (Stands x (world_below view now.dev) ⊎ Stands x (held_world view now.room now.dev)) × (s ≡ w.sent)) (left t) (any t)
            (λ x s is. elim is.0 [
              | inl below ↦ (world_below view now.dev, below, asks_base view did.lenders did.lenders_now did.kind did.kind_now v begin now did.asked (λ d. sound d t) (core_at t).0 (core_at t).1.good (begun t) Way (did.copies.crash t) copies.unspent, is.1 ∙ sent t)
              | inr held ↦ (held_world view now.room now.dev, held, asks_held view did.lenders did.lenders_now did.kind did.kind_now v begin now did.asked (λ d. sound d t) (core_at t).0 (core_at t).1.good (begun t) Way (did.copies.crash t) copies.unspent, is.1 ∙ sent t)
            ])

        size_then : told → (told_world c3).geometry ≡ size_of_image v.reads
        size_then t = (told_size c3.volume.tables).0 ∙ size3.geometry ∙ sym (told_size now.core.volume.tables).0 ∙ size t

        aside_then : told → LeavesBehind v (view dev3)
        aside_then t =
            part_then (behind (size_of_image v.reads)) v w (view dev3) (sound now.dev t) (aside t)
            (subst (λ (s : Geometry). LeavesPart (behind s) w (view dev3)) (sym (told_size now.core.volume.tables).0 ∙ size t) (more_aside t))

        committed_as : (q : Result CopyEnd Status) → IfOk q (IsEndedOn told f g c3 v (view dev3)) → IfErr q (IsStoppedBy told v (view dev3)) → CopiesOn told f g c3 v (view dev3) q
        committed_as q ended stopped = record { ended = ended; stopped = stopped; sent = λ t. sent3 t ∙ sent t; any_moment = λ t. left_as (view dev3) t (left_then t); behind = aside_then; put_faults = works.put_faults ∙ copies.counts.put_faults }

        -- that was done
        pub committed : IsCoreReady c3 → (told → IsCoreAt c3 (view dev3)) → (told → world_of (view dev3).reads ≡ held_world view now.room now.dev) → (view dev3).faults ≡ w.faults → CopiesOn told f g c3 v (view dev3) (Ok end)
        committed core_ready core_at3 world3 faults3 = committed_as (Ok end) (record {
          ready = core_ready;
          at = core_at3;
          size = size_then;
          ends = λ t. subst (λ (y : World). EndsAs f g (world_of v.reads) end y) (sym (world3 t)) (subst (λ (y : World). EndsAs f g y end (held_world view now.room now.dev)) (world_begun t) (copies.ends t));
          words = copies.words;
          faults = faults3 ∙ copies.faults;
        }) tt

        -- that failed
        pub not_committed : Rose w.faults (view dev3).faults → CopiesOn told f g c3 v (view dev3) (Err status.DeviceFault)
        not_committed rose = committed_as (Err status.DeviceFault) tt (subst (λ (n : ℕ). Rose n (view dev3).faults) copies.faults rose)
