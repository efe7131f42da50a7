-- The tree mounted on the disk, where one is there.
use Rattle.std.proofs.Common.{◌≡◌, inl, inr, ℕ, Bool, true, false, List, refl, sym, ap, subst, arith, Result, Ok, Err, IsTrue, MatchResult}
use Rattle.image_shell.proofs.Common.{AreReady, Core, DiskView, FilesView, FindsTree, FitsReads, FitsShell, FsRefusal, Image, IsClient, IsCoreAt, IsCoreReady, IsFirstState, IsImageOf, IsKeptSince, IsLeftOf, IsMounted, IsTidy, IsTreeAlone, IsValidNow, KeepsBehind, LeavesOnly, LeavesTidyWorld, OnAnswer, OnlyDeletes, PlaceKind, Runs, Stays, Tree, World, images_left, is_there, mounted_now, resting, shell_state, tree_at, tree_under, unmounted_now, weakened, world_of}
use Rattle.image_device.specs.View.{View as DeviceView}
use Rattle.core_blocks.specs.CoreView.{core_view}
use Rattle.serving.specs.Handling.{FitsDevice}
use Rattle.shell_server.proofs.KeptLaws.{client_still, size_stays}

module _ (start : World) (f g : FilesView) (l m : ℕ × ℕ) (kind placement : PlaceKind) (c0 c1 : Core) (v w : DeviceView) where
  abbrev old : DiskView
  old = core_view l kind c0 v

  abbrev new : DiskView
  new = core_view m placement c1 w

  -- the tree of the world before
  abbrev was : Tree
  was = tree_at f.kind (world_of v.reads) f.root

  client_so : (b : Bool) → IsClient f c1 → IsClient (record f { mounted = b }) c1
  client_so b k = record { number = k.number; begun = k.begun; primary = k.primary; attains = k.attains }

  left_of : (x : Image) (h : List ℕ) → IsImageOf (IsTreeAlone f old) v.sent x h → IsLeftOf (world_of v.reads) (resting f (world_of v.reads)) x × (h ≡ v.sent)
  left_of x h left = (record { world = left.0; stands = left.1; valid = left.2.1.valid; geometry = left.2.1.geometry; tree = left.2.0; others = left.2.1.others; still = λ none. left.2.2.none (ap is_there none) }, left.3)

  kept_now : LeavesTidyWorld f old new → IsValidNow new → (world_of w.reads).geometry ≡ (world_of v.reads).geometry → (b : Bool) → (b ≡ true → IsTidy f.kind (world_of w.reads) f.root)
      → IsKeptSince (world_of v.reads) (shell_state (record f { mounted = b }) w.reads)
  kept_now left good size b tidy = record { valid = good.valid; geometry = size; others = left.others; tidy = λ still mounted. tidy mounted }

  deletes_none : (u : World) → u ≡ world_of v.reads → OnlyDeletes f (world_of v.reads) u
  deletes_none u same = subst (λ (x : World). OnlyDeletes f (world_of v.reads) x) (sym same) (record { pairs = λ a b h. h; bytes = λ b live. refl; named = refl; none = λ gone. refl })

  module _ (told : Type 0) (here : told → world_of v.reads ≡ start) where
    pub mounted_by : {X : Type 0} (result : Result X FsRefusal) → AreReady f c0 → (told → FitsReads c0 v.reads) → (c1.volume.is_spent ≡ false → IsCoreReady c1) → (told → c1.volume.is_spent ≡ false → IsCoreAt c1 w)
        → (told → FindsTree f old new result) → Runs told old new (IsTreeAlone f old) result → MatchResult result (λ x. g ≡ mounted_now f) (λ e. g ≡ unmounted_now f)
        → KeepsBehind told c0 c1 v w → IsMounted told start f g c0 c1 v w result
    mounted_by {X = X} result ready fits core_ready core_at finds runs mounted aside = record {
      ready = ready_by result runs.stays runs.unspent mounted;
      at = λ t. subst (λ (u : World). OnAnswer result (FitsDevice (FitsShell u g c1) w)) (here t) (at_by t result (finds t) (runs.valid t) mounted runs.unspent);
      first = λ t. subst (λ (u : World). OnAnswer result (IsFirstState f u (shell_state g w.reads))) (here t) (first_by t result (finds t) (runs.valid t) mounted);
      sent = λ t. (runs.crash t).sent;
      any_moment = λ t. subst (λ (u : World). LeavesOnly v w (λ x h. IsLeftOf u (resting f u) x × (h ≡ v.sent))) (here t)
          (weakened v w (IsImageOf (IsTreeAlone f old) v.sent) (λ x h. IsLeftOf (world_of v.reads) (resting f (world_of v.reads)) x × (h ≡ v.sent)) (images_left l m kind placement c0 c1 v w (IsTreeAlone f old) (runs.crash t)) left_of);
      behind = aside;
      clock = omega (arith, runs.counts.clock);
      put_faults = runs.counts.put_faults;
      faultless = runs.faultless;
      cause = runs.cause;
    }
      where
        size : (t : told) → new.spent ≡ false → (world_of w.reads).geometry ≡ (world_of v.reads).geometry
        size t fine = size_stays c0 c1 v.reads w.reads (fits t) (core_at t fine).1 aside.size

        ready_by : (r : Result X FsRefusal) → OnAnswer r (Stays old new) → OnAnswer r (new.spent ≡ false) → MatchResult r (λ x. g ≡ mounted_now f) (λ e. g ≡ unmounted_now f) → OnAnswer r (AreReady g c1)
        ready_by (Ok x) s u on = (subst (λ (h : FilesView). AreReady h c1) (sym on) (record { core = core_ready u.0; client = client_so true (client_still f c0 c1 s.0.records runs.counts.version runs.counts.geometry s.0.sessions ready.client) }), tt)
        ready_by (Err e) s u off = (tt, λ other. subst (λ (h : FilesView). AreReady h c1) (sym off) (record { core = core_ready (u.1 other); client = client_so false (client_still f c0 c1 (s.1 other).records runs.counts.version runs.counts.geometry (s.1 other).sessions ready.client) }))

        at_by : told → (r : Result X FsRefusal) → FindsTree f old new r → OnAnswer r (IsValidNow new) → MatchResult r (λ x. g ≡ mounted_now f) (λ e. g ≡ unmounted_now f) → OnAnswer r (new.spent ≡ false)
            → OnAnswer r (((n : ℕ) → w.loose n ≡ false) × FitsShell (world_of v.reads) g c1 w.reads)
        at_by t (Ok x) mount good on u = (
          (
            (core_at t u.0).0,
            subst (λ (h : FilesView). FitsShell (world_of v.reads) h c1 w.reads) (sym on) (record {
              core = (core_at t u.0).1;
              kept = kept_now mount.world.0 good.0 (size t u.0) true (λ so. mount.tidy);
              fits = good.0.fits;
              there = λ so. subst (λ (y : Tree). IsTrue (is_there y)) (sym mount.tree) mount.there;
            }),
          ),
          tt,
        )
        at_by t (Err e) mount good off u = (
          tt,
          λ other. (
            (core_at t (u.1 other)).0,
            subst (λ (h : FilesView). FitsShell (world_of v.reads) h c1 w.reads) (sym off) (record {
              core = (core_at t (u.1 other)).1;
              kept = kept_now (mount.world.1 other) (good.1 other) (size t (u.1 other)) false (λ so. absurd (cc));
              fits = (good.1 other).fits;
              there = λ so. absurd (cc);
            }),
          ),
        )

        first_by : told → (r : Result X FsRefusal) → FindsTree f old new r → OnAnswer r (IsValidNow new) → MatchResult r (λ x. g ≡ mounted_now f) (λ e. g ≡ unmounted_now f) → OnAnswer r (IsFirstState f (world_of v.reads) (shell_state g w.reads))
        first_by t (Ok x) mount good on = (
          subst (λ (h : FilesView). IsFirstState f (world_of v.reads) (shell_state h w.reads)) (sym on) (record {
            at_rest = refl;
            files = ap (λ b. record f { mounted = b }) (sym mount.there);
            tree = mount.tree;
            deletes = mount.deletes;
            kept = kept_now mount.world.0 good.0 (size t mount.world.0.unspent) true (λ so. mount.tidy);
          }),
          tt,
        )
        first_by t (Err e) mount good off = (
          tt,
          λ other. elim mount.only [
            | inr device ↦ absurd (other device)
            | inl not ↦
                let gone = mount.not_there not in
                subst (λ (h : FilesView). IsFirstState f (world_of v.reads) (shell_state h w.reads)) (sym off) (record {
                  at_rest = refl;
                  files = ap (λ (y : Tree). record f { mounted = is_there y }) (sym gone.0);
                  tree = ap (λ (u : World). tree_under f u) gone.1;
                  deletes = deletes_none (world_of w.reads) gone.1;
                  kept = kept_now (mount.world.1 other) (good.1 other) (ap (λ (u : World). u.geometry) gone.1) false (λ so. absurd (cc));
                })
          ],
        )
