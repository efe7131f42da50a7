-- An ask that was carried out in memory, and what is committed of it.
use Rattle.std.proofs.Common.{◌≡◌, ◌≢◌, ◌⊎◌, inl, inr, ℕ, ◌+◌, ◌≤◌, Bool, true, false, List, [], refl, sym, ◌∙◌, ap, subst, arith}
use Rattle.shell_server.proofs.Common.{AreReady, Core, DiskView, Err, FilesView, Fits, FitsShell, FsRefusal, Geometry, IfErr, IsBegun, IsCarried, IsChanged, IsClient, IsCoreAt, IsCoreReady, IsEitherTree, IsGathered, IsImageOf, IsOneCommit, IsSound, IsTrue, LeavesOnly, LeavesWorldsOnly, MatchResult, Ok, OnAnswer, OnErr, OnOk, PlaceKind, Result, Rose, ShellAsk, Stands, There, View, World, behind, behind_of_core, blocks_view, files_after, held_world, is_change, is_err, is_heard, is_open, is_some, joined, sessions_of, started, state_on, told_state, world_below, world_of}
use Rattle.tsd_model.specs.Step.{State}
use Rattle.image_device.specs.View.{IsLeftNow}
use Rattle.image_device.specs.Runs.{LeavesPart}
use Rattle.image_device.proofs.Parts.{part_then}
use Rattle.volume_laws.proofs.QuestionLaws.{told_size}
use Rattle.volume_laws.specs.Writes.{Works}
use Rattle.tsd_core.specs.Work.{SameSize}
use Rattle.fs_trees.specs.declared.refusal.FsRefusal.TheVariants as no
use Rattle.gathered_tasks.specs.Carried.{LeavesBaseOrNow}
use Rattle.gathered_tasks.specs.Held.{IsInMemory, IsReadyInMemory, held_state}
use Rattle.gathered_tasks.specs.Rooms.{gathered}
use Rattle.gathered_tasks.specs.declared.asked.Before.{Before}
use Rattle.gathered_tasks.proofs.CarryLaws.{begun_held, with_ring}
use Rattle.gathered_tasks.proofs.RunLaws.{asks_aside, asks_base, asks_held, asks_leave, asks_quiet, went}
use Rattle.serving.specs.Handling.{FitsDevice}
use Rattle.shell_server.proofs.ChangeLaws.{carried, moments}
use Rattle.shell_server.proofs.KeptLaws.{client_after, client_still}
use Rattle.shell_server.proofs.SendLaws.{on_answer as of_answer}

-- ---- answers

pub on_answer : {X : Type 0} (r : Result X FsRefusal) {P Q : Type 0} → (P → Q) → OnAnswer r P → OnAnswer r Q
on_answer (Ok x) h p = (h p.0, tt)
on_answer (Err e) h p = (tt, λ other. h (p.1 other))

pub always : {X : Type 0} (r : Result X FsRefusal) {P : Type 0} → P → OnAnswer r P
always (Ok x) h = (h, tt)
always (Err e) h = (tt, λ other. h)

-- nothing is asked of one
pub no_fault : {X : Type 0} (P : Type 0) (r : Result X FsRefusal) → r ≢ Err no.Device → IfErr r (λ e. e ≡ no.Device → P)
no_fault P (Ok x) other = tt
no_fault P (Err e) other = λ is. absurd (other (ap (λ z. Err z) is))

pub of_fault : {X : Type 0} (r : Result X FsRefusal) {P : Type 0} → r ≡ Err no.Device → IfErr r (λ e. e ≡ no.Device → P) → P
of_fault {X} r {P} is h = subst (λ z. IfErr z (λ e. e ≡ no.Device → P)) is h refl

-- of a call that went well, and of one that failed
pub ok_of : {T E P : Type 0} (r : Result T E) (b : Bool) → b ≡ false → b ≡ is_err r → OnOk r P → P
ok_of (Ok x) b went is p = p
ok_of (Err e) b went is p = absurd (cc)

pub err_of : {T E P : Type 0} (r : Result T E) (b : Bool) → b ≡ true → b ≡ is_err r → OnErr r P → P
err_of (Ok x) b fell is p = absurd (cc)
err_of (Err e) b fell is p = p

ready_by : {X : Type 0} (r : Result X FsRefusal) (f h : FilesView) (q : ShellAsk) (c : Core) → MatchResult r (λ _. h ≡ files_after f q) (λ _. h ≡ f) → AreReady f c → OnAnswer r (AreReady h c)
ready_by (Ok x) f h q c is ready = (subst (λ k. AreReady k c) (sym is) (record { core = ready.core; client = client_after f q c ready.client }), tt)
ready_by (Err e) f h q c is ready = (tt, λ other. subst (λ k. AreReady k c) (sym is) ready)

-- ---- what was gathered

pub gathered_as : {D X : Type 0} (told : Type 0) (view : D → View) (start : View) (f g : FilesView) (l m : ℕ × ℕ) (kind placed : PlaceKind) (bs cs : List (Before D)) (a old b new : There D) (q : ShellAsk) (r : Result X FsRefusal)
    → a ≡ old → b ≡ new → bs ≡ [] → IsChanged told f g (blocks_view view l kind start a bs) (blocks_view view m placed start b cs) q r
    → (b.core.volume.is_spent ≡ false → is_some b.room.room ≡ true) → (b.core.volume.is_spent ≡ false → IsReadyInMemory b.core) → (told → b.core.volume.is_spent ≡ false → IsInMemory b.core b.room.ring (gathered b.room) (view b.dev))
    → IsGathered told view start f g old new q r
gathered_as told view start f g l m kind placed bs cs a old b new q r was is none changed here ready at = record {
  lenders = l;
  lenders_now = m;
  kind = kind;
  kind_now = placed;
  asked = cs;
  changed = subst (λ (n : There _). IsChanged told f g (blocks_view view l kind start old []) (blocks_view view m placed start n cs) q r) is
      (subst (λ (o : There _). IsChanged told f g (blocks_view view l kind start o []) (blocks_view view m placed start b cs) q r) was
      (subst (λ (ls : List (Before _)). IsChanged told f g (blocks_view view l kind start a ls) (blocks_view view m placed start b cs) q r) none changed));
  here = subst (λ (n : There _). OnAnswer r (is_some n.room.room ≡ true)) is (on_answer r here changed.runs.unspent);
  ready = subst (λ (n : There _). OnAnswer r (IsReadyInMemory n.core)) is (on_answer r ready changed.runs.unspent);
  at = λ t. subst (λ (n : There _). OnAnswer r (IsInMemory n.core n.room.ring (gathered n.room) (view n.dev))) is (on_answer r (at t) changed.runs.unspent);
}

-- no answer but Device
silent : {P : Type 0} → OnAnswer {X = Unit {0}} (Err no.Device) P
silent = (tt, λ other. absurd (other refl))

-- ---- over a device

-- An ask begins, with nothing gathered, on the disk in memory of a core that was at its device.
pub record Begins {D : Type 0} (told : Type 0) (view : D → View) (start : World) (f : FilesView) (q : ShellAsk) (c0 : Core) (begin : There D) : Type 0 where
  pub sound : (d : D) → told → IsSound (view d)
  pub changes : IsTrue (is_change q)
  pub hears : IsTrue (is_heard f.kind q)
  pub core : begin.core ≡ with_ring c0 []
  pub ring : begin.room.ring ≡ c0.volume.ring
  pub none : gathered begin.room ≡ []
  pub unspent : begin.core.volume.is_spent ≡ false
  pub at : told → FitsDevice (FitsShell start f c0) (view begin.dev)

module _ {D : Type 0} {told : Type 0} {view : D → View} {start : World} {f : FilesView} {q : ShellAsk} {c0 : Core} {begin : There D} (b : Begins told view start f q c0 begin) where
  abbrev v : View
  v = view begin.dev

  held_begun : told → held_state begin.core (gathered begin.room) v ≡ state_on c0 v.reads
  held_begun t = begun_held c0 v ((b.at t).0, (b.at t).1.core) begin.core begin.room.ring (gathered begin.room) b.core b.ring b.none

  -- what is in memory as it begins is what is on the device
  pub world_begun : told → held_world view begin.room begin.dev ≡ world_of v.reads
  world_begun t = ap (λ (s : State). s.world) (held_begun t)

  pub fits_begun : told → Fits (held_world view begin.room begin.dev) (sessions_of begin.core)
  fits_begun t = subst (λ (s : State). Fits s.world s.sessions) (sym (held_begun t)) (b.at t).1.fits

  begun : told → IsBegun view v begin
  begun t = record {
    unspent = b.unspent;
    rested = record { reads = refl; loose = refl; sent = refl; leaves = started v (IsLeftNow v) (b.sound begin.dev t) (λ x s now. now) };
    writes = refl;
    same = sym (world_begun t);
  }

  module _ {g : FilesView} {now : There D} {r : Result (Unit {0}) FsRefusal} (did : IsGathered told view v f g begin now q r) where
    abbrev w : View
    w = view now.dev

    abbrev old : DiskView
    old = blocks_view view did.lenders did.kind v begin []

    abbrev new : DiskView
    new = blocks_view view did.lenders_now did.kind_now v now did.asked

    size : SameSize c0 now.core
    size = record {
      geometry = sym (told_size now.core.volume.tables).0 ∙ did.changed.runs.counts.geometry ∙ (told_size begin.core.volume.tables).0 ∙ ap (λ (c : Core). c.volume.tables.geometry) b.core;
      version = sym (told_size now.core.volume.tables).1 ∙ did.changed.runs.counts.version ∙ (told_size begin.core.volume.tables).1 ∙ ap (λ (c : Core). c.volume.tables.version) b.core;
    }

    -- what its requests did to the device
    module _ (t : told) (P : World → Type 0) (leaves : LeavesWorldsOnly old new P) where
      abbrev left : LeavesOnly v w (IsImageOf P v.sent)
      left = asks_leave view did.lenders did.lenders_now did.kind did.kind_now v begin now did.asked (λ d. b.sound d t) (b.at t).0 (b.at t).1.core.good (begun t) P leaves

      abbrev base : now.core.volume.is_spent ≡ false → P (world_below view now.dev)
      base = asks_base view did.lenders did.lenders_now did.kind did.kind_now v begin now did.asked (λ d. b.sound d t) (b.at t).0 (b.at t).1.core.good (begun t) P leaves

      abbrev held : now.core.volume.is_spent ≡ false → P (held_world view now.room now.dev)
      held = asks_held view did.lenders did.lenders_now did.kind did.kind_now v begin now did.asked (λ d. b.sound d t) (b.at t).0 (b.at t).1.core.good (begun t) P leaves

    aside : told → LeavesPart (behind c0.volume.tables.geometry) v w
    aside t =
        subst (λ (s : Geometry). LeavesPart (behind s) v w) size.geometry
        (asks_aside view did.lenders did.lenders_now did.kind did.kind_now v begin now did.asked (λ d. b.sound d t) (b.at t).0 (b.at t).1.core.good (begun t) (IsEitherTree f old q) (did.changed.runs.crash t))

    -- where there is room for each request, the device isn't written but by what comes then
    pub once : told → (u : View) → u.writes ≤ w.writes + 236 → IsOneCommit view v u
    once t u few = record {
      kind = did.kind_now;
      asked = did.asked;
      last = now;
      went = went view did.lenders did.lenders_now did.kind did.kind_now v begin now did.asked (λ d. b.sound d t) (b.at t).0 (b.at t).1.core.good (begun t) (IsEitherTree f old q) (did.changed.runs.crash t);
      few = λ room.
          let quiet = asks_quiet view did.lenders did.lenders_now did.kind did.kind_now v begin now did.asked (λ d. b.sound d t) (b.at t).0 (b.at t).1.core.good (begun t) (IsEitherTree f old q) (did.changed.runs.crash t) room in
          omega (arith, few, quiet);
    }

    -- The device failed somewhere: it is answered so.
    failed : (c3 : Core) (dev3 : D) → SameSize c0 c3 → (told → (P : World → Type 0) → LeavesWorldsOnly old new P → LeavesOnly v (view dev3) (IsImageOf P v.sent)) → (told → LeavesPart (behind c0.volume.tables.geometry) v (view dev3))
        → (told → (view dev3).sent ≡ v.sent) → (view dev3).put_faults ≡ v.put_faults → c3.volume.is_spent ≡ true → Rose v.faults (view dev3).faults → IsCarried {X = Unit {0}} told start q f g c0 c3 v (view dev3) (Err no.Device)
    failed c3 dev3 size3 left3 aside3 sent3 put_faults spent rose = record {
      called = record {
        ready = silent;
        at = λ t. silent;
        sent = sent3;
        any_moment = moments start f q b.changes b.hears v told g old new c0 (view dev3) r did.changed world_begun (λ t. (b.at t).1) left3;
        behind = behind_of_core told c0 c3 v (view dev3) (λ t. b.sound dev3 t) size3 aside3;
        put_faults = put_faults;
        faultless = silent;
        spent = λ e. spent;
        cause = λ e. rose;
      };
      answered = λ t. silent;
    }

    -- in the ask itself
    pub fault_in_ask : r ≡ Err no.Device → IsCarried {X = Unit {0}} told start q f g c0 now.core v w (Err no.Device)
    fault_in_ask fault = failed now.core now.dev size left aside (λ t. (did.changed.runs.crash t).sent) did.changed.runs.counts.put_faults (of_fault r fault did.changed.runs.spent) (of_fault r fault did.changed.runs.cause)

    -- ---- a commit

    module _ (other : r ≢ Err no.Device) (c3 : Core) (dev3 : D) (any : told → LeavesBaseOrNow (gathered now.room) w (view dev3)) (more_aside : told → LeavesPart (behind now.core.volume.tables.geometry) w (view dev3)) (sent3 : told → (view dev3).sent ≡ w.sent) (size3 : SameSize now.core c3)
        (works : Works w (view dev3)) where
      fine : now.core.volume.is_spent ≡ false
      fine = of_answer _ r other did.changed.runs.unspent

      left_then : told → (P : World → Type 0) → LeavesWorldsOnly old new P → LeavesOnly v (view dev3) (IsImageOf P v.sent)
      left_then t P leaves =
          joined v w (view dev3) (IsImageOf P v.sent) (λ x s. (Stands x (world_below view now.dev) ⊎ Stands x (held_world view now.room now.dev)) × (s ≡ w.sent)) (left t P leaves) (any t)
          (λ x s is. elim is.0 [
            | inl below ↦ (world_below view now.dev, below, base t P leaves fine, is.1 ∙ (did.changed.runs.crash t).sent)
            | inr in_memory ↦ (held_world view now.room now.dev, in_memory, held t P leaves fine, is.1 ∙ (did.changed.runs.crash t).sent)
          ])

      size_then : SameSize c0 c3
      size_then = record { geometry = size3.geometry ∙ size.geometry; version = size3.version ∙ size.version }

      aside_then : told → LeavesPart (behind c0.volume.tables.geometry) v (view dev3)
      aside_then t = part_then (behind c0.volume.tables.geometry) v w (view dev3) (b.sound now.dev t) (aside t) (subst (λ (s : Geometry). LeavesPart (behind s) w (view dev3)) size.geometry (more_aside t))

      sent_then : told → (view dev3).sent ≡ v.sent
      sent_then t = sent3 t ∙ (did.changed.runs.crash t).sent

      put_faults_then : (view dev3).put_faults ≡ v.put_faults
      put_faults_then = works.put_faults ∙ did.changed.runs.counts.put_faults

      faultless_now : w.faults ≡ v.faults
      faultless_now = of_answer _ r other did.changed.runs.faultless

      -- that failed
      pub fault_in_commit : c3.volume.is_spent ≡ true → Rose w.faults (view dev3).faults → IsCarried {X = Unit {0}} told start q f g c0 c3 v (view dev3) (Err no.Device)
      fault_in_commit spent rose = failed c3 dev3 size_then left_then aside_then sent_then put_faults_then spent (subst (λ n. Rose n (view dev3).faults) faultless_now rose)

      -- that was done
      module _ (ready : IsClient f c0) (core_ready : IsCoreReady c3) (core_at3 : told → IsCoreAt c3 (view dev3)) (world3 : told → world_of (view dev3).reads ≡ held_world view now.room now.dev) (told3 : told_state c3 ≡ told_state now.core) (faults3 : (view dev3).faults ≡ w.faults) where
        client_now : IsClient f now.core
        client_now =
            let stays = of_answer _ r other did.changed.runs.stays in
            client_still f begin.core now.core stays.records did.changed.runs.counts.version did.changed.runs.counts.geometry stays.sessions
            (subst (λ c. IsClient f c) (sym b.core) (record { number = ready.number; begun = ready.begun; primary = ready.primary; attains = ready.attains }))

        client_then : IsClient f c3
        client_then =
            client_still f now.core c3 (ap (λ (s : State). s.world.records) told3) (ap (λ (s : State). s.world.version) told3) (ap (λ (s : State). s.world.geometry) told3) (λ s. ap (λ (k : State). is_open k.sessions s) told3) client_now

        fits_then : told → Fits (world_of (view dev3).reads) (sessions_of c3)
        fits_then t =
            let valid = of_answer _ r other (did.changed.runs.valid t) in
            subst (λ (u : World). Fits u (sessions_of c3)) (sym (world3 t)) (subst (λ s. Fits (held_world view now.room now.dev) s) (sym (ap (λ (k : State). k.sessions) told3)) valid.fits)

        pub committed : IsCarried {X = Unit {0}} told start q f g c0 c3 v (view dev3) r
        committed =
            carried start f q b.changes b.hears v told g old new c0 (view dev3) r did.changed world_begun (λ t. (b.at t).1) left_then c3 (λ t. sym (world3 t)) (behind_of_core told c0 c3 v (view dev3) (λ t. b.sound dev3 t) size_then aside_then)
            (ready_by r f g q c3 did.changed.files (record { core = core_ready; client = client_then })) (λ t. always r ((core_at3 t).0, (core_at3 t).1, fits_then t)) sent_then put_faults_then (always r (faults3 ∙ faultless_now)) (no_fault _ r other) (no_fault _ r other)
