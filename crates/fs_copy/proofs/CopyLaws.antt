-- The whole of a copy.
use Rattle.std.proofs.Common.{◌≡◌, ◌≢◌, ◌≤◌, ℕ, suc, Bool, true, false, cond, List, [], ◌∷◌, ◌++◌, length, take, refl, sym, ◌∙◌, ap, subst, inl, inr, ◌⊎◌, arith, Result, Ok, Err, Option, Some, None}
use Rattle.fs_copy.proofs.Common.{IfErr, OnOk, MatchResult, slice_get, World, IsValid, done, copy_steps, entry_steps, after_asks, partial, InodeNode, as_root, node_at, tree_of, inodes_right, chains_under, as_tree, Chains, tree_at, IsTidy, Path, path_max, OthersStay, empty_tree, nothing, a_file, a_dir, Tree, is_there, is_dir, ShellAsk, ShellKind, FsRefusal, AreApart, StaysApart, tree_listed_at, NamesListed, DiskView, IsDiskSound, IsLedTo, IsValidNow, LeavesWorldsOnly, Stays, FilesView, HasTree, IsClientReady, IsEitherTree, IsLeft, OnAnswer, mounted_now, step_on, has_dirs, Looks, IsMade, Runs, leaves_more, on_answer, IsCount, tree_under, AreSet, IsSource, IsPartly, IsRefusedAmong, MakesSteps, CanHold, CanMake, IsNested, first_dir, first_made, inside, Copied}
use Rattle.fs_trees.specs.Answer as answer
use Rattle.fs_trees.specs.declared.ask.ShellAsk.TheVariants as ask
use Rattle.fs_trees.specs.declared.ask.ShellKind.TheVariants.{Inode as ByInodes, Chain as ByChains}
use Rattle.fs_trees.specs.declared.refusal.FsRefusal.TheVariants as fs
use Rattle.fs_copy.specs.Copies.{copy_refusal, IsPartOfCopy, IsRefusedHere, IsAnswered, OnCopyAnswer, SourceStays, CopiesTree, CopyRuns}
use Rattle.fs_copy.specs.declared.refusal.CopyRefusal.{CopyRefusal}
use Rattle.fs_copy.specs.declared.refusal.CopyRefusal.TheVariants as no
use Rattle.fs_copy.proofs.GoingLaws.{err_as, goes_as, look_goes, ready_still, runs_more, source_left, source_stays, then_goes}
use Rattle.fs_copy.proofs.RebuildLaws.{whole_copy, in_order}

-- ---- the tree under a root is a directory

root_dir : (kind : ShellKind) (w : World) (root : ℕ) → is_there (tree_at kind w root) ≡ true → is_dir (tree_at kind w root) ≡ true
root_dir ByInodes w root h = by (node_at w (suc path_max) root) h
  where
    by : (x : InodeNode) → is_there (tree_of w (as_root w x)) ≡ true → is_dir (tree_of w (as_root w x)) ≡ true
    by nothing k = absurd (cc)
    by (a_file y) k = absurd (cc)
    by (a_dir b es) k = elim (inodes_right w b es) as (λ t. is_there (tree_of w (cond t (a_dir b es) nothing)) ≡ true → is_dir (tree_of w (cond t (a_dir b es) nothing)) ≡ true) [
      | true ↦ λ g. refl
      | false ↦ λ g. absurd (cc)
    ] k
root_dir ByChains w root h = by (chains_under w root) h
  where
    by : (o : Option Chains) → is_there (as_tree o) ≡ true → is_dir (as_tree o) ≡ true
    by None k = absurd (cc)
    by (Some c) k = refl

pub source_dir : (told : Type 0) (f : FilesView) (v : DiskView) → IsSource told f v → told → is_dir (tree_under f v) ≡ true
source_dir told f v source t = root_dir f.kind v.world f.root (source.there t)

pub steps_are : (t : Tree) → is_dir t ≡ true → copy_steps t ≡ ask.Make ∷ entry_steps [] (inside t)
steps_are nothing h = absurd (cc)
steps_are (a_file x) h = absurd (cc)
steps_are (a_dir d es) h = refl

-- the steps make the tree
whole : (t : Tree) → is_dir t ≡ true → NamesListed t → after_asks nothing (copy_steps t) ≡ t
whole nothing h listed = absurd (cc)
whole (a_file x) h listed = absurd (cc)
whole (a_dir d es) h listed = whole_copy d es listed.0.1 (in_order es listed.1)

-- ---- the first step

module _ (told : Type 0) (g : FilesView) (old new : DiskView) (result : Result (Unit {0}) FsRefusal) (sound_old : told → IsDiskSound old) (sound_new : told → OnAnswer result (IsDiskSound new)) where
  left_mounted : (w : World) → IsLeft g old w → IsLeft (mounted_now g) old w
  left_mounted w h = record { valid = h.valid; geometry = h.geometry; others = h.others }

  partly : (w : World) → IsEitherTree g old ask.Make w → IsPartly (mounted_now g) old (ask.Make ∷ []) w
  partly w either = elim either.0 [
    | inl before ↦ record { front = []; back = ask.Make ∷ []; parts = refl; tree = before; left = left_mounted w either.1 }
    | inr after ↦ record { front = ask.Make ∷ []; back = []; parts = refl; tree = after; left = left_mounted w either.1 }
  ]

  pub make_goes : (told → MatchResult result (λ _. IsMade g old new) (λ e. e ≡ fs.Device)) → Runs told old new (IsEitherTree g old ask.Make) result → MakesSteps told (mounted_now g) old new (ask.Make ∷ []) result
  make_goes made runs = record {
    done = λ t. by_done result (made t);
    refused = λ t. by_refused result (made t);
    there = λ t. by_there result (made t);
    tidy = λ t. by_tidy result (made t);
    size = λ t. on_answer (IsDiskSound new) (new.world.geometry ≡ old.world.geometry) result (λ s. s.geometry ∙ (runs.counts.geometry ∙ sym (sound_old t).geometry)) (sound_new t);
    others = λ t. by_others result (made t);
    runs = runs_more told old new (IsEitherTree g old ask.Make) (IsPartly (mounted_now g) old (ask.Make ∷ [])) result (λ t w either. partly w either) runs;
  }
    where
      by_done : (r : Result (Unit {0}) FsRefusal) → MatchResult r (λ _. IsMade g old new) (λ e. e ≡ fs.Device) → OnOk r (tree_under g new ≡ empty_tree)
      by_done (Ok x) h = h.tree
      by_done (Err e) h = tt

      by_refused : (r : Result (Unit {0}) FsRefusal) → MatchResult r (λ _. IsMade g old new) (λ e. e ≡ fs.Device) → IfErr r (λ e. e ≢ fs.Device → IsRefusedAmong (mounted_now g) old new (ask.Make ∷ []) e)
      by_refused (Ok x) h = tt
      by_refused (Err e) h = λ ne. absurd (ne h)

      by_there : (r : Result (Unit {0}) FsRefusal) → MatchResult r (λ _. IsMade g old new) (λ e. e ≡ fs.Device) → OnAnswer r (is_there (tree_under g old) ≡ true → is_there (tree_under g new) ≡ true)
      by_there (Ok x) h = (λ k. ap is_there h.tree, tt)
      by_there (Err e) h = (tt, λ ne. absurd (ne h))

      by_tidy : (r : Result (Unit {0}) FsRefusal) → MatchResult r (λ _. IsMade g old new) (λ e. e ≡ fs.Device) → OnAnswer r (IsTidy g.kind old.world g.root → IsTidy g.kind new.world g.root)
      by_tidy (Ok x) h = (λ k. h.tidy, tt)
      by_tidy (Err e) h = (tt, λ ne. absurd (ne h))

      by_others : (r : Result (Unit {0}) FsRefusal) → MatchResult r (λ _. IsMade g old new) (λ e. e ≡ fs.Device) → OnAnswer r (OthersStay g.root old.world new.world)
      by_others (Ok x) h = (h.left.others, tt)
      by_others (Err e) h = (tt, λ ne. absurd (ne h))

-- ---- refusals

device_only : (e : FsRefusal) → copy_refusal e ≡ no.Device → e ≡ fs.Device
device_only fs.Device h = refl
device_only fs.NotThisFs h = absurd (cc)
device_only fs.NoEntry h = absurd (cc)
device_only fs.Exists h = absurd (cc)
device_only fs.NotDir h = absurd (cc)
device_only fs.IsDir h = absurd (cc)
device_only fs.NotEmpty h = absurd (cc)
device_only fs.DirFull h = absurd (cc)
device_only fs.TooBig h = absurd (cc)
device_only (fs.Full free wanted) h = absurd (cc)
device_only (fs.PointersFull held most) h = absurd (cc)

never_fault : (e : FsRefusal) → copy_refusal e ≡ no.Into fs.Device → ⊥
never_fault fs.Device h = cc
never_fault fs.NotThisFs h = cc
never_fault fs.NoEntry h = cc
never_fault fs.Exists h = cc
never_fault fs.NotDir h = cc
never_fault fs.IsDir h = cc
never_fault fs.NotEmpty h = cc
never_fault fs.DirFull h = cc
never_fault fs.TooBig h = cc
never_fault (fs.Full free wanted) h = cc
never_fault (fs.PointersFull held most) h = cc

answered_by : (f g : FilesView) (old new : DiskView) (e : FsRefusal) → (e ≢ fs.Device → IsRefusedHere f g old new e × CanHold g.kind (tree_under f old)) → IsAnswered f g old new (copy_refusal e)
answered_by f g old new fs.Device h = tt
answered_by f g old new fs.NotThisFs h = h (λ e. cc)
answered_by f g old new fs.NoEntry h = h (λ e. cc)
answered_by f g old new fs.Exists h = h (λ e. cc)
answered_by f g old new fs.NotDir h = h (λ e. cc)
answered_by f g old new fs.IsDir h = h (λ e. cc)
answered_by f g old new fs.NotEmpty h = h (λ e. cc)
answered_by f g old new fs.DirFull h = h (λ e. cc)
answered_by f g old new fs.TooBig h = h (λ e. cc)
answered_by f g old new (fs.Full free wanted) h = h (λ e. cc)
answered_by f g old new (fs.PointersFull held most) h = h (λ e. cc)

-- what holds after every answer but a fault
as_ok : (X Y : Type 0) (P : Type 0) (x : X) (y : Y) → OnAnswer {X = X} (Ok x) P → OnCopyAnswer {X = Y} (Ok y) P
as_ok X Y P x y h = (h.0, tt)

as_err : (X Y : Type 0) (P : Type 0) (e : FsRefusal) → OnAnswer {X = X} (Err e) P → OnCopyAnswer {X = Y} (Err (copy_refusal e)) P
as_err X Y P e h = (tt, λ ne. h.1 (λ d. ne (ap copy_refusal d)))

-- ---- steps

take_front : (xs ys : List ShellAsk) → take (length xs) (xs ++ ys) ≡ xs
take_front [] ys = refl
take_front (x ∷ xs) ys = ap (λ zs. x ∷ zs) (take_front xs ys)

get_front : (xs : List ShellAsk) (y : ShellAsk) (ys : List ShellAsk) → slice_get (xs ++ y ∷ ys) (length xs) ≡ Some y
get_front [] y ys = refl
get_front (x ∷ xs) y ys = get_front xs y ys

-- some first steps are those of a partial tree
partial_of : (t : Tree) (front back : List ShellAsk) → copy_steps t ≡ front ++ back → after_asks nothing front ≡ partial t (length front)
partial_of t front back parts = ap (after_asks nothing) (sym (take_front front back) ∙ ap (take (length front)) (sym parts))

-- the first is to make an empty tree, whatever was there
first_make : (t : Tree) (a : ShellAsk) (rest back : List ShellAsk) → is_dir t ≡ true → copy_steps t ≡ a ∷ rest ++ back → a ≡ ask.Make
first_make t a rest back dir parts = let same : ask.Make ∷ entry_steps [] (inside t) ≡ a ∷ (rest ++ back) = sym (steps_are t dir) ∙ parts in cc

after_make : (t : Tree) (a : ShellAsk) (rest : List ShellAsk) → a ≡ ask.Make → after_asks t (a ∷ rest) ≡ after_asks nothing (a ∷ rest)
after_make t a rest is = ap (λ b. after_asks t (b ∷ rest)) is ∙ sym (ap (λ b. after_asks nothing (b ∷ rest)) is)

-- it can, where the look found none
pub can_hold : (kind : ShellKind) (t : Tree) → None ≡ cond (has_dirs kind) None (first_dir t) → CanHold kind t
can_hold kind t is = by (has_dirs kind) refl is
  where
    by : (b : Bool) → has_dirs kind ≡ b → None ≡ cond b None (first_dir t) → CanHold kind t
    by true e s = inl e
    by false e s = inr (sym s)

-- but for the first step, which makes none
pub can_entries : (kind : ShellKind) (t : Tree) → is_dir t ≡ true → CanHold kind t → CanMake kind (entry_steps [] (inside t))
can_entries kind t dir (inl dirs) = inl dirs
can_entries kind t dir (inr never) = inr (sym (ap first_made (steps_are t dir)) ∙ never)

-- ---- the stages of a copy

-- what is promised of the disk
pub record IsCopy (told : Type 0) (f g : FilesView) (old new : DiskView) (result : Result Copied CopyRefusal) : Type 0 where
  pub copies : told → CopiesTree f g old new result
  pub runs : CopyRuns old new result

-- At the start the source has its tree, and no block is reached from both roots.
pub record AtStart (told : Type 0) (f g : FilesView) (old : DiskView) : Type 0 where
  pub source : IsSource told f old
  pub into_ready : IsClientReady g old
  pub sound : told → IsDiskSound old
  pub apart : told → AreApart old.world f.root g.root

pub at_start : {told : Type 0} {f g : FilesView} {old : DiskView} → IsClientReady f old → IsClientReady g old → f.mounted ≡ true → (told → IsValidNow old) → (told → HasTree f old) → (told → AreApart old.world f.root g.root)
    → (told → old.spent ≡ false → IsDiskSound old) → AtStart told f g old
at_start from_ready into_ready mounted valid tree apart sound = record {
  source = record { ready = from_ready; mounted = mounted; valid = valid; there = λ t. tree t mounted };
  into_ready = into_ready;
  sound = λ t. sound t from_ready.unspent;
  apart = apart;
}

-- Once the empty tree is made the target is mounted and tidy, and can hold the source's tree.
pub record AfterMake (told : Type 0) (f g h k : FilesView) (old mid : DiskView) : Type 0 where
  pub start : AtStart told f g old
  pub holds : told → CanHold g.kind (tree_under f old)
  pub from_same : h ≡ f
  pub into_mounted : k ≡ mounted_now g
  pub begun : MakesSteps {X = Unit {0}} told (mounted_now g) old mid (ask.Make ∷ []) (Ok tt)
  pub tidy : told → IsTidy g.kind mid.world g.root

-- ---- what is promised, from the steps

refused_runs : {X Y told : Type 0} {old new : DiskView} {e : FsRefusal} {P : World → Type 0} → Runs {X = X} told old new P (Err e) → CopyRuns {X = Y} old new (Err (copy_refusal e))
refused_runs {X} {Y} {old = old} {new = new} {e = e} runs = record {
  stays = as_err X Y (Stays old new) e runs.stays;
  counts = runs.counts;
  unspent = as_err X Y (new.spent ≡ false) e runs.unspent;
  faultless = as_err X Y (new.faults ≡ old.faults) e runs.faultless;
  cause = λ is. runs.cause (device_only e is);
  no_fault = never_fault e;
}

module _ {told : Type 0} {f g : FilesView} {old : DiskView} (start : AtStart told f g old) where
  abbrev t : Tree
  t = tree_under f old

  -- the target as it is once it is mounted
  abbrev into : FilesView
  into = mounted_now g

  t_dir : told → is_dir t ≡ true
  t_dir = source_dir told f old start.source

  module _ {X : Type 0} {new : DiskView} {result : Result X FsRefusal} (goes : MakesSteps told into old new (copy_steps t) result) where
    part_left : told → CanHold g.kind t → (w : World) → IsPartly into old (copy_steps t) w → IsPartOfCopy f g old w
    part_left h holds w partly = record {
      source = source_left start.sound start.source start.apart goes h w partly;
      target = by partly.front partly.parts partly.tree;
      held = inl holds;
      left = record { valid = partly.left.valid; geometry = partly.left.geometry; others = partly.left.others };
    }
      where
        by : (front : List ShellAsk) → copy_steps t ≡ front ++ partly.back → tree_at g.kind w g.root ≡ after_asks (tree_under g old) front
            → (tree_at g.kind w g.root ≡ tree_under g old) ⊎ ((j : ℕ) × (1 ≤ j) × (tree_at g.kind w g.root ≡ partial t j))
        by [] parts tree = inl tree
        by (a ∷ rest) parts tree =
            let make = first_make t a rest partly.back (t_dir h) parts in
            inr (length (a ∷ rest), omega arith, tree ∙ (after_make (tree_under g old) a rest make ∙ partial_of t (a ∷ rest) partly.back parts))

    crash_so : told → CanHold g.kind t → LeavesWorldsOnly old new (IsPartOfCopy f g old)
    crash_so h holds = leaves_more old new (IsPartly into old (copy_steps t)) (IsPartOfCopy f g old) (part_left h holds) (goes.runs.crash h)

    stays_so : told → OnAnswer result (SourceStays f g old new)
    stays_so h = both result (source_stays start.sound start.source start.apart goes h) (goes.others h)
      where
        so : StaysApart f.kind f.root g.root old.world new.world → OthersStay g.root old.world new.world → SourceStays f g old new
        so s o = record { source = s.same.tree; tidy = s.tidy; apart = s.apart; others = o }

        both : (r : Result X FsRefusal) → OnAnswer r (StaysApart f.kind f.root g.root old.world new.world) → OnAnswer r (OthersStay g.root old.world new.world) → OnAnswer r (SourceStays f g old new)
        both (Ok x) s o = (so s.0 o.0, tt)
        both (Err e) s o = (tt, λ ne. so (s.1 ne) (o.1 ne))

  -- it was copied
  copied_so : {new : DiskView} {c : Copied} → (told → IsCount t c) → (told → CanHold g.kind t) → (told → OnAnswer {X = Copied} (Ok c) (IsTidy g.kind new.world g.root)) → MakesSteps told into old new (copy_steps t) (Ok c) → IsCopy told f g old new (Ok c)
  copied_so {new} {c} count holds tidy goes = record {
    copies = λ h. record {
      ok = record { target = made h ∙ whole t (t_dir h) (tree_listed_at f.kind old.world f.root (start.source.valid h).valid.raw.sized.lawful); tidy = (tidy h).0; count = count h; holds = holds h };
      err = tt;
      stays = as_ok Copied Copied (SourceStays f g old new) c c (stays_so goes h);
      crash = crash_so goes h (holds h);
      valid = as_ok Copied Copied (IsValidNow new) c c (goes.runs.valid h);
      led = as_ok Copied Copied (IsLedTo old new) c c (goes.runs.led h);
    };
    runs = record { stays = (goes.runs.stays.0, tt); counts = goes.runs.counts; unspent = (goes.runs.unspent.0, tt); faultless = (goes.runs.faultless.0, tt); cause = tt; no_fault = tt };
  }
    where
      made : told → tree_under g new ≡ after_asks nothing (copy_steps t)
      made h = goes.done h ∙ (ap (after_asks (tree_under g old)) (steps_are t (t_dir h)) ∙ sym (ap (after_asks nothing) (steps_are t (t_dir h))))

  -- it was refused
  refused_here : {X : Type 0} {new : DiskView} {e : FsRefusal} → MakesSteps {X = X} told into old new (copy_steps t) (Err e) → told → e ≢ fs.Device → IsTidy g.kind new.world g.root → IsRefusedHere f g old new e
  refused_here {new = new} {e = e} goes h ne tidy = let k = goes.refused h ne in by k.front k.here k.back k.parts k.tree k.answer
    where
      by : (front : List ShellAsk) (here : ShellAsk) (back : List ShellAsk) → copy_steps t ≡ front ++ here ∷ back → tree_under g new ≡ after_asks (tree_under g old) front → (step_on into new here).answer ≡ answer.refused e → IsRefusedHere f g old new e
      by [] here back parts tree says =
          let make : here ≡ ask.Make = first_make t here [] back (t_dir h) parts in
          let never : done ≡ answer.refused e = sym (ap (λ (a : ShellAsk). (step_on into new a).answer) make) ∙ says in
          absurd (cc)
      by (a ∷ rest) here back parts tree says =
          let make = first_make t a rest (here ∷ back) (t_dir h) parts in
          record {
            j = length (a ∷ rest);
            here = here;
            later = omega arith;
            step = ap (λ s. slice_get s (length (a ∷ rest))) parts ∙ get_front (a ∷ rest) here back;
            target = tree ∙ (after_make (tree_under g old) a rest make ∙ partial_of t (a ∷ rest) (here ∷ back) parts);
            tidy = tidy;
            answer = says;
          }

  refused_so : {X : Type 0} {new : DiskView} {e : FsRefusal} {r : CopyRefusal} → (told → CanHold g.kind t) → (told → OnAnswer {X = X} (Err e) (IsTidy g.kind new.world g.root)) → MakesSteps {X = X} told into old new (copy_steps t) (Err e)
      → r ≡ copy_refusal e → IsCopy told f g old new (Err r)
  refused_so {X} {new} {e} holds tidy goes is = subst (λ (r : CopyRefusal). IsCopy told f g old new (Err r)) (sym is) (record {
    copies = λ h. record {
      ok = tt;
      err = answered_by f g old new e (λ ne. (refused_here goes h ne ((tidy h).1 ne), holds h));
      stays = as_err X Copied (SourceStays f g old new) e (stays_so goes h);
      crash = crash_so goes h (holds h);
      valid = as_err X Copied (IsValidNow new) e (goes.runs.valid h);
      led = as_err X Copied (IsLedTo old new) e (goes.runs.led h);
    };
    runs = refused_runs goes.runs;
  })

  -- ---- the look for a directory

  module _ {X : Type 0} {new : DiskView} {result : Result X FsRefusal} (looks : Looks told old new result) where
    same_stays : told → new.world ≡ old.world → SourceStays f g old new
    same_stays h e = record {
      source = ap (λ w. tree_at f.kind w f.root) e;
      tidy = λ tidy. subst (λ w. IsTidy f.kind w f.root) (sym e) tidy;
      apart = subst (λ w. AreApart w f.root g.root) (sym e) (start.apart h);
      others = subst (λ w. OthersStay g.root old.world w) (sym e) (record { records = refl; bytes = λ b live away. refl; pairs = λ x y live away. refl; apart = λ b live away. away });
    }

    look_left : told → LeavesWorldsOnly old new (IsPartOfCopy f g old)
    look_left h = leaves_more old new (λ w. w ≡ old.world) (IsPartOfCopy f g old) (λ w e. record {
      source = ap (λ v. tree_at f.kind v f.root) e;
      target = inl (ap (λ v. tree_at g.kind v g.root) e);
      held = inr e;
      left = record { valid = subst IsValid (sym e) (start.source.valid h).valid; geometry = ap (λ v. v.geometry) e; others = subst (λ v. OthersStay g.root old.world v) (sym e) (record { records = refl; bytes = λ b live away. refl; pairs = λ x y live away. refl; apart = λ b live away. away }) };
    }) (looks.runs.crash h)

  -- it failed
  pub look_failed : {X : Type 0} {new : DiskView} {e : FsRefusal} {r : CopyRefusal} → (told → e ≢ fs.Device → ⊥) → Looks {X = X} told old new (Err e) → r ≡ copy_refusal e → IsCopy told f g old new (Err r)
  look_failed {X} {new} {e} only looks is = subst (λ (r : CopyRefusal). IsCopy told f g old new (Err r)) (sym is) (record {
    copies = λ h. record {
      ok = tt;
      err = answered_by f g old new e (λ ne. absurd (only h ne));
      stays = as_err X Copied (SourceStays f g old new) e (tt, λ ne. absurd (only h ne));
      crash = look_left looks h;
      valid = as_err X Copied (IsValidNow new) e (looks.runs.valid h);
      led = as_err X Copied (IsLedTo old new) e (looks.runs.led h);
    };
    runs = refused_runs looks.runs;
  })

  module _ {mid : DiskView} {x : Option Path} (first : told → x ≡ cond (has_dirs g.kind) None (first_dir t)) (looks : Looks told old mid (Ok x)) where
    -- there is one, and the target can hold none
    pub nested_found : {path : Path} → x ≡ Some path → IsCopy told f g old mid (Err (no.Nested path))
    nested_found {path} some = record {
      copies = λ h. record {
        ok = tt;
        err = (by (has_dirs g.kind) refl (sym some ∙ first h), (looks.world h).0);
        stays = (tt, λ ne. same_stays looks h (looks.world h).0);
        crash = look_left looks h;
        valid = (tt, λ ne. (looks.runs.valid h).0);
        led = (tt, λ ne. (looks.runs.led h).0);
      };
      runs = record {
        stays = (tt, λ ne. looks.runs.stays.0);
        counts = looks.runs.counts;
        unspent = (tt, λ ne. looks.runs.unspent.0);
        faultless = (tt, λ ne. looks.runs.faultless.0);
        cause = λ e. absurd (cc);
        no_fault = λ e. cc;
      };
    }
      where
        by : (b : Bool) → has_dirs g.kind ≡ b → Some path ≡ cond b None (first_dir t) → IsNested g.kind t path
        by true e s = absurd (cc)
        by false e s = record { no_dirs = e; first = sym s }

    -- ---- the first step

    pub make_ready : IsClientReady g mid
    make_ready = ready_still g old mid looks.runs.stays.0 looks.runs.counts looks.runs.unspent.0 start.into_ready

    module _ {new : DiskView} (sound_mid : told → mid.spent ≡ false → IsDiskSound mid) (sound_new : told → new.spent ≡ false → IsDiskSound new) (none : x ≡ None) where
      begun_so : (r : Result (Unit {0}) FsRefusal) → (told → MatchResult r (λ _. IsMade g mid new) (λ e. e ≡ fs.Device)) → Runs told mid new (IsEitherTree g mid ask.Make) r → MakesSteps told into old new (ask.Make ∷ []) r
      begun_so r made runs =
          let sound : told → OnAnswer r (IsDiskSound new) = λ t. on_answer (new.spent ≡ false) (IsDiskSound new) r (sound_new t) runs.unspent in
          let looked : MakesSteps told into old mid [] (Ok x) = look_goes (λ t. (start.source.valid t).valid) (λ t. tt) looks in
          then_goes looked (make_goes told g mid new r (λ t. sound_mid t make_ready.unspent) sound made runs)

      can : told → CanHold g.kind t
      can h = can_hold g.kind t (sym none ∙ first h)

      -- it failed, with a fault
      pub make_failed : {e : FsRefusal} {r : CopyRefusal} → (told → e ≡ fs.Device) → Runs {X = Unit {0}} told mid new (IsEitherTree g mid ask.Make) (Err e) → r ≡ copy_refusal e → IsCopy told f g old new (Err r)
      make_failed {e} made runs =
          let all : MakesSteps {X = Unit {0}} told into old new (copy_steps t) (Err e) = goes_as (λ h. sym (steps_are t (t_dir h))) (err_as (entry_steps [] (inside t)) (begun_so (Err e) made runs)) in
          refused_so can (λ h. (tt, λ ne. absurd (ne (made h)))) all

      pub make_done : {h k : FilesView} {y : Unit {0}} → h ≡ f → (told → IsMade g mid new) → Runs told mid new (IsEitherTree g mid ask.Make) (Ok y) → k ≡ into → AfterMake told f g h k old new
      make_done {y = y} from_same made runs into_mounted = record {
        start = start;
        holds = can;
        from_same = from_same;
        into_mounted = into_mounted;
        begun = begun_so (Ok y) made runs;
        tidy = λ h. (made h).tidy;
      }

-- ---- the other steps

module _ {told : Type 0} {f g h k : FilesView} {old mid : DiskView} (after : AfterMake told f g h k old mid) where
  abbrev z : Tree
  z = tree_under f old

  stays : told → StaysApart f.kind f.root g.root old.world mid.world
  stays t = (source_stays after.start.sound after.start.source after.start.apart after.begun t).0

  tree_begun : told → tree_under h mid ≡ z
  tree_begun t = ap (λ w. tree_under w mid) after.from_same ∙ (stays t).same.tree

  -- both may go on
  pub entries_set : AreSet told h k mid
  entries_set = subst (λ w. AreSet told w k mid) (sym after.from_same) (subst (λ w. AreSet told f w mid) (sym after.into_mounted) (record {
    from_ready = ready_still f old mid after.begun.runs.stays.0 after.begun.runs.counts after.begun.runs.unspent.0 after.start.source.ready;
    into_ready = mounted_ready (ready_still g old mid after.begun.runs.stays.0 after.begun.runs.counts after.begun.runs.unspent.0 after.start.into_ready);
    from_mounted = after.start.source.mounted;
    into_mounted = refl;
    valid = λ t. (after.begun.runs.valid t).0;
    from_there = λ t. ap is_there (stays t).same.tree ∙ after.start.source.there t;
    into_there = λ t. ap is_there (after.begun.done t);
    apart = λ t. (stays t).apart;
  }))
    where
      mounted_ready : IsClientReady g mid → IsClientReady (mounted_now g) mid
      mounted_ready h = record { unspent = h.unspent; number = h.number; begun = h.begun; primary = h.primary; attains = h.attains }

  pub entries_hold : told → CanMake k.kind (entry_steps [] (inside (tree_under h mid)))
  entries_hold t =
      subst (λ w. CanMake w.kind (entry_steps [] (inside (tree_under h mid)))) (sym after.into_mounted)
      (subst (λ y. CanMake g.kind (entry_steps [] (inside y))) (sym (tree_begun t)) (can_entries g.kind z (source_dir told f old after.start.source t) (after.holds t)))

  module _ {new : DiskView} {result : Result Copied FsRefusal} (goes : MakesSteps told k mid new (entry_steps [] (inside (tree_under h mid))) result) where
    all_so : MakesSteps told (mounted_now g) old new (copy_steps z) result
    all_so =
        let steps = entry_steps [] (inside (tree_under h mid)) in
        goes_as (λ t. ap (λ y. ask.Make ∷ entry_steps [] (inside y)) (tree_begun t) ∙ sym (steps_are z (source_dir told f old after.start.source t)))
        (then_goes after.begun (subst (λ w. MakesSteps told w mid new steps result) after.into_mounted goes))

    -- the target is tidy then, since it was once the empty tree was made
    tidy_so : told → OnAnswer result (IsTidy g.kind new.world g.root)
    tidy_so t =
        let on : OnAnswer result (IsTidy g.kind mid.world g.root → IsTidy g.kind new.world g.root) = subst (λ w. OnAnswer result (IsTidy w.kind mid.world w.root → IsTidy w.kind new.world w.root)) after.into_mounted (goes.tidy t) in
        on_answer (IsTidy g.kind mid.world g.root → IsTidy g.kind new.world g.root) (IsTidy g.kind new.world g.root) result (λ go. go (after.tidy t)) on

  pub copy_done : {new : DiskView} {c : Copied} → MakesSteps told k mid new (entry_steps [] (inside (tree_under h mid))) (Ok c) → (told → IsCount (tree_under h mid) c) → IsCopy told f g old new (Ok c)
  copy_done {c = c} goes count = copied_so after.start (λ t. subst (λ y. IsCount y c) (tree_begun t) (count t)) after.holds (tidy_so goes) (all_so goes)

  pub copy_failed : {new : DiskView} {e : FsRefusal} {r : CopyRefusal} → MakesSteps {X = Copied} told k mid new (entry_steps [] (inside (tree_under h mid))) (Err e) → r ≡ copy_refusal e → IsCopy told f g old new (Err r)
  copy_failed goes is = refused_so after.start after.holds (tidy_so goes) (all_so goes) is
