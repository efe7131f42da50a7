-- The source mounted and copied on a disk.
use Rattle.std.proofs.Common.{◌≡◌, ◌≢◌, ◌⊎◌, inl, inr, ⊎_elim, ℕ, ◌<◌, false, refl, sym, ◌∙◌, ap, subst, Result, Ok, Err, IfOk, IfErr, OnOk, slice_get}
use Rattle.image_shell.proofs.Common.{AreApart, Counts, CountsFault, DiskView, FilesView, FindsTree, FsRefusal, Geometry, IsClientReady, IsDiskSound, IsTreeAlone, IsValid, IsValidNow, LeavesWorldsOnly, OnlyDeletes, OthersStay, Rose, Runs, Tree, World, mounted_now, tree_at, tree_under}
use Rattle.fs_trees.specs.Copying.{copy_steps, partial}
use Rattle.fs_trees.specs.declared.refusal.FsRefusal.TheVariants as fs
use Rattle.fs_port.proofs.RunLaws.{both_count, both_leave, leaves_more}
use Rattle.fs_copy.specs.Copies as FsStays
use Rattle.fs_copy.specs.Copies.{CopiesTree, CopyRuns, IsPartOfCopy}
use Rattle.fs_copy.specs.Counted.{IsCount}
use Rattle.fs_copy.specs.Nesting.{CanHold, IsNested}
use Rattle.fs_copy.specs.declared.copied.Copied.{Copied}
use Rattle.fs_copy.specs.declared.refusal.CopyRefusal.{CopyRefusal}
use Rattle.fs_copy.specs.declared.refusal.CopyRefusal.TheVariants as no
use Rattle.tsd_words.specs.declared.status.Status.TheVariants as status
use Rattle.image_copy.specs.declared.ending.CopyEnd.TheVariants as end
use Rattle.image_copy.specs.Lines.{HasWords}
use Rattle.image_copy.specs.Ends.{EndsAs, IsSourceMounted, IsTrimmed, IsUnderWay, SourceStays}
use Rattle.image_copy.specs.Steps.{CopiesBetween, copy_end, unmounted_end}
use Rattle.image_copy.proofs.TrimLaws.{apart_back, same_tree, still_apart}

-- ---- whatever mounting answers

module _ (told : Type 0) (f g : FilesView) (old : DiskView) (was_apart : told → AreApart old.world f.root g.root) (sound : told → IsDiskSound old) (into_ready : IsClientReady g old) (valid : told → IsValidNow old) where
  abbrev start : World
  start = old.world

  here : told → g.root < start.geometry.primaries
  here t = subst (λ (s : Geometry). g.root < s.primaries) (sym (sound t).geometry) into_ready.primary

  trimmed_by : told → (w : World) → IsValid w → w.geometry ≡ start.geometry → tree_under f w ≡ tree_under f start → OnlyDeletes f start w → OthersStay f.root start w → IsTrimmed f g start w
  trimmed_by t w then size source deletes others = record {
    were_apart = was_apart t;
    valid = then;
    geometry = size;
    source = source;
    target = same_tree start w g.root f.root (valid t).valid then size (here t) (apart_back start f.root g.root (was_apart t)) others g.kind;
    deletes = deletes;
    others = others;
  }

  alone_on_the_way : told → (w : World) → IsTreeAlone f old w → IsUnderWay f g start w
  alone_on_the_way t w left = inl (trimmed_by t w left.1.valid left.1.geometry left.0 left.2 left.1.others)

  mount_leaves : (mid : DiskView) → (told → LeavesWorldsOnly old mid (IsTreeAlone f old)) → told → LeavesWorldsOnly old mid (IsUnderWay f g start)
  mount_leaves mid crash t = leaves_more old mid (IsTreeAlone f old) (IsUnderWay f g start) (alone_on_the_way t) (crash t)

  -- ---- it was refused

  refused_how : (e : FsRefusal) → (e ≡ fs.Device) ⊎ ((e ≢ fs.Device) × (unmounted_end e ≡ unmounted_end fs.NotThisFs))
  refused_how fs.Device = inl refl
  refused_how e = inr (λ is. absurd (cc), refl)

  no_tree : {X : Type 0} (mid : DiskView) (e : FsRefusal) → e ≢ fs.Device → told → FindsTree {X = X} f old mid (Err e) → EndsAs f g start end.NotThisFs mid.world
  no_tree mid e other t finds =
      let why : e ≡ fs.NotThisFs = ⊎_elim (λ is. is) (λ is. absurd (other is)) finds.only in
      let gone = finds.not_there why in
      record { were_apart = was_apart t; none = gone.0; same = gone.1 }

  pub not_mounted : {X : Type 0} (mid : DiskView) (e : FsRefusal) → (told → FindsTree {X = X} f old mid (Err e)) → Runs {X = X} told old mid (IsTreeAlone f old) (Err e) → CopiesBetween told f g old mid (unmounted_end e)
  not_mounted mid e finds runs = elim (refused_how e) [
    | inl device ↦ subst (λ (r : FsRefusal). CopiesBetween told f g old mid (unmounted_end r)) (sym device) (record {
      ends = λ t. tt;
      words = tt;
      crash = mount_leaves mid runs.crash;
      counts = runs.counts;
      unspent = tt;
      stops = refl;
      faults = runs.cause device;
    })
    | inr other ↦ subst (λ r. CopiesBetween told f g old mid r) (sym other.1) (record {
      ends = λ t. no_tree mid e other.0 t (finds t);
      words = tt;
      crash = mount_leaves mid runs.crash;
      counts = runs.counts;
      unspent = runs.unspent.1 other.0;
      stops = tt;
      faults = runs.faultless.1 other.0;
    })
  ]

  -- ---- it is mounted

  module _ (mid : DiskView) (sound_then : told → IsDiskSound mid) {X : Type 0} (x : X) (finds : told → FindsTree {X = X} f old mid (Ok x)) (runs : Runs {X = X} told old mid (IsTreeAlone f old) (Ok x)) where
    size : told → mid.world.geometry ≡ start.geometry
    size t = (sound_then t).geometry ∙ (runs.counts.geometry ∙ sym (sound t).geometry)

    valid_then : told → IsValid mid.world
    valid_then t = ((runs.valid t).0).valid

    pub apart_then : told → AreApart mid.world f.root g.root
    apart_then t = apart_back mid.world g.root f.root (still_apart start mid.world g.root f.root (valid t).valid (valid_then t) (size t) (here t) (apart_back start f.root g.root (was_apart t)) ((finds t).world.0).others)

    is_mounted : told → IsSourceMounted f g start mid.world
    is_mounted t = record {
      trimmed = trimmed_by t mid.world (valid_then t) (size t) (finds t).tree (finds t).deletes ((finds t).world.0).others;
      there = (finds t).there;
      tidy = (finds t).tidy;
      apart = apart_then t;
    }

    -- ---- and copied

    module _ (new : DiskView) (sound_now : told → new.spent ≡ false → IsDiskSound new) where
      still_holds : told → CanHold g.kind (tree_at f.kind mid.world f.root) → CanHold g.kind (tree_under f start)
      still_holds t = subst (λ (u : Tree). CanHold g.kind u) (finds t).tree

      partly : told → (w : World) → IsPartOfCopy (mounted_now f) g mid w → IsUnderWay f g start w
      partly t w left = inr (record {
        mounted = mid.world;
        is_mounted = is_mounted t;
        valid = left.left.valid;
        geometry = left.left.geometry ∙ size t;
        source = left.source ∙ (finds t).tree;
        target = ⊎_elim (λ same. inl (same ∙ (is_mounted t).trimmed.target))
            (λ some. inr (some.0, some.1, some.2 ∙ ap (λ (u : Tree). partial u some.0) (finds t).tree)) left.target;
        held = ⊎_elim (λ holds. inl (still_holds t holds)) inr left.held;
        others = left.left.others;
      })

      all_leave : told → LeavesWorldsOnly mid new (IsPartOfCopy (mounted_now f) g mid) → LeavesWorldsOnly old new (IsUnderWay f g start)
      all_leave t crash = both_leave old mid new (IsUnderWay f g start) (mount_leaves mid runs.crash t)
          (leaves_more mid new (IsPartOfCopy (mounted_now f) g mid) (IsUnderWay f g start) (partly t) crash)

      stays_by : (t : told) → Counts mid new → new.spent ≡ false → IsValidNow new → FsStays.SourceStays (mounted_now f) g mid new → SourceStays f g start new.world
      stays_by t counts unspent good stays = record {
        mounted = mid.world;
        is_mounted = is_mounted t;
        valid = good.valid;
        geometry = (sound_now t unspent).geometry ∙ (counts.geometry ∙ (sym (sound_then t).geometry ∙ size t));
        source = stays.source ∙ (finds t).tree;
        tidy = stays.tidy (finds t).tidy;
        apart = stays.apart;
        others = stays.others;
      }

      ends_by : (t : told) (r : Result Copied CopyRefusal) → CopiesTree (mounted_now f) g mid new r → CopyRuns mid new r → IfOk (copy_end r) (λ e. EndsAs f g start e new.world)
      ends_by t (Ok c) copies ran = record {
        stays = stays_by t ran.counts ran.unspent.0 copies.valid.0 copies.stays.0;
        holds = still_holds t copies.ok.holds;
        target = copies.ok.target ∙ (finds t).tree;
        tidy = copies.ok.tidy;
        count = subst (λ (u : Tree). IsCount u c) (finds t).tree copies.ok.count;
      }
      ends_by t (Err (no.Nested path)) copies ran = (subst (λ (w : World). IsSourceMounted f g start w) (sym copies.err.1) (is_mounted t), subst (λ (u : Tree). IsNested g.kind u path) (finds t).tree copies.err.0)
      ends_by t (Err (no.Into e)) copies ran =
          let other : no.Into e ≢ no.Device = λ is. cc in
          let here_is = copies.err.0 in
          record {
            stays = stays_by t ran.counts (ran.unspent.1 other) (copies.valid.1 other) (copies.stays.1 other);
            holds = still_holds t copies.err.1;
            j = here_is.j;
            here = here_is.here;
            later = here_is.later;
            step = ap (λ (u : Tree). slice_get (copy_steps u) here_is.j) (sym (finds t).tree) ∙ here_is.step;
            answer = here_is.answer;
            target = here_is.target ∙ ap (λ (u : Tree). partial u here_is.j) (finds t).tree;
            tidy = here_is.tidy;
          }
      ends_by t (Err no.Device) copies ran = tt

      words_by : (r : Result Copied CopyRefusal) → CopyRuns mid new r → IfOk (copy_end r) HasWords
      words_by (Ok c) ran = tt
      words_by (Err (no.Nested path)) ran = tt
      words_by (Err (no.Into e)) ran = λ is. ran.no_fault (ap no.Into is)
      words_by (Err no.Device) ran = tt

      unspent_by : (r : Result Copied CopyRefusal) → CopyRuns mid new r → OnOk (copy_end r) (new.spent ≡ false)
      unspent_by (Ok c) ran = ran.unspent.0
      unspent_by (Err (no.Nested path)) ran = ran.unspent.1 (λ is. cc)
      unspent_by (Err (no.Into e)) ran = ran.unspent.1 (λ is. cc)
      unspent_by (Err no.Device) ran = tt

      stops_by : (r : Result Copied CopyRefusal) → IfErr (copy_end r) (λ why. why ≡ status.DeviceFault)
      stops_by (Ok c) = tt
      stops_by (Err (no.Nested path)) = tt
      stops_by (Err (no.Into e)) = tt
      stops_by (Err no.Device) = refl

      faults_by : (r : Result Copied CopyRefusal) → CopyRuns mid new r → CountsFault (copy_end r) old.faults new.faults
      faults_by (Ok c) ran = ran.faultless.0 ∙ runs.faultless.0
      faults_by (Err (no.Nested path)) ran = ran.faultless.1 (λ is. cc) ∙ runs.faultless.0
      faults_by (Err (no.Into e)) ran = ran.faultless.1 (λ is. cc) ∙ runs.faultless.0
      faults_by (Err no.Device) ran = subst (λ (n : ℕ). Rose n new.faults) runs.faultless.0 (ran.cause refl)

      copies_by : (r : Result Copied CopyRefusal) → (told → CopiesTree (mounted_now f) g mid new r) → CopyRuns mid new r → CopiesBetween told f g old new (copy_end r)
      copies_by r copies ran = record {
        ends = λ t. ends_by t r (copies t) ran;
        words = words_by r ran;
        crash = λ t. all_leave t (copies t).crash;
        counts = both_count old mid new runs.counts ran.counts;
        unspent = unspent_by r ran;
        stops = stops_by r;
        faults = faults_by r ran;
      }

      -- of the file system as it is once it is mounted
      pub copied_between : (h k : FilesView) → h ≡ mounted_now f → k ≡ g → (r : Result Copied CopyRefusal) → (told → CopiesTree h k mid new r) → CopyRuns mid new r → CopiesBetween told f g old new (copy_end r)
      copied_between h k is same r copies ran =
          copies_by r (subst (λ (s : FilesView). told → CopiesTree (mounted_now f) s mid new r) same (subst (λ (s : FilesView). told → CopiesTree s k mid new r) is copies)) ran
