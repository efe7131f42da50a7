-- What a copy does.
use Rattle.std.specs.Prelude.{◌≡◌, ◌≢◌, ◌≤◌, ◌⊎◌, ℕ, Some, Result, IfOk, IfErr, OnOk, false, slice_get}
use Rattle.image_device.specs.Counts.{Rose}
use Rattle.tsd_model.specs.World.{World}
use Rattle.fs_trees.specs.Answer as answer
use Rattle.fs_trees.specs.Copying.{copy_steps, partial}
use Rattle.fs_trees.specs.Layouts.{tree_at, IsTidy}
use Rattle.fs_trees.specs.Outside.{OthersStay}
use Rattle.fs_trees.specs.declared.ask.ShellAsk.{ShellAsk}
use Rattle.fs_trees.specs.declared.refusal.FsRefusal.{FsRefusal}
use Rattle.fs_trees.specs.declared.refusal.FsRefusal.TheVariants as fs
use Rattle.fs_laws.specs.Apart.{AreApart}
use Rattle.fs_port.specs.View.{DiskView}
use Rattle.fs_port.specs.Calls.{Counts, IsLedTo, IsValidNow, LeavesWorldsOnly, Stays}
use Rattle.fs_port.specs.Files.{FilesView, IsLeft, mounted_now, step_on}
use Rattle.fs_copy.specs.Counted.{IsCount}
use Rattle.fs_copy.specs.Going.{tree_under}
use Rattle.fs_copy.specs.Nesting.{CanHold, IsNested}
use Rattle.fs_copy.specs.declared.copied.Copied.{Copied}
use Rattle.fs_copy.specs.declared.refusal.CopyRefusal.{CopyRefusal}
use Rattle.fs_copy.specs.declared.refusal.CopyRefusal.TheVariants as no

-- what a refusal of a step is to a copy
abbrev pub copy_refusal : FsRefusal → CopyRefusal
copy_refusal fs.Device = no.Device
copy_refusal e = no.Into e

-- ---- where the disk tells its world

-- What a crash at any moment of a copy leaves: the source's tree as it is, and under the target's root what was there
-- before, or the tree after some of the steps. Where the target can't hold the tree, nothing has changed.
pub record IsPartOfCopy (f g : FilesView) (old : DiskView) (w : World) : Type 0 where
  pub source : tree_at f.kind w f.root ≡ tree_under f old
  pub target : (tree_at g.kind w g.root ≡ tree_under g old)
      ⊎ ((j : ℕ) × (1 ≤ j) × (tree_at g.kind w g.root ≡ partial (tree_under f old) j))
  pub held : CanHold g.kind (tree_under f old) ⊎ (w ≡ old.world)
  pub left : IsLeft g old w

-- The step that comes next is refused, in the world as it is now; the target has the tree after those before it, and no
-- block under its root is lost to it.
pub record IsRefusedHere (f g : FilesView) (old new : DiskView) (e : FsRefusal) : Type 0 where
  pub j : ℕ
  pub here : ShellAsk
  pub later : 1 ≤ j
  pub step : slice_get (copy_steps (tree_under f old)) j ≡ Some here
  pub target : tree_under g new ≡ partial (tree_under f old) j
  pub tidy : IsTidy g.kind new.world g.root
  pub answer : (step_on (mounted_now g) new here).answer ≡ answer.refused e

-- the source's tree is under the target's root, no block there is lost to it, and what was copied is counted
pub record IsWhole (f g : FilesView) (old new : DiskView) (c : Copied) : Type 0 where
  pub target : tree_under g new ≡ tree_under f old
  pub tidy : IsTidy g.kind new.world g.root
  pub count : IsCount (tree_under f old) c
  pub holds : CanHold g.kind (tree_under f old)

abbrev pub IsAnswered : FilesView → FilesView → DiskView → DiskView → CopyRefusal → Type 0
IsAnswered f g old new (no.Nested path) = IsNested g.kind (tree_under f old) path × (new.world ≡ old.world)
IsAnswered f g old new (no.Into e) = IsRefusedHere f g old new e × CanHold g.kind (tree_under f old)
IsAnswered f g old new no.Device = Unit {0}

-- after every answer but Device
abbrev pub OnCopyAnswer : {X : Type 0} → Result X CopyRefusal → Type 0 → Type 0
OnCopyAnswer result P = OnOk result P × IfErr result (λ e. e ≢ no.Device → P)

-- The source's tree is as it was, still none of its blocks is reached from the target's root, and what that didn't
-- reach is as it was.
pub record SourceStays (f g : FilesView) (old new : DiskView) : Type 0 where
  pub source : tree_under f new ≡ tree_under f old
  pub tidy : IsTidy f.kind old.world f.root → IsTidy f.kind new.world f.root
  pub apart : AreApart new.world f.root g.root
  pub others : OthersStay g.root old.world new.world

pub record CopiesTree (f g : FilesView) (old new : DiskView) (result : Result Copied CopyRefusal) : Type 0 where
  pub ok : IfOk result (λ c. IsWhole f g old new c)
  pub err : IfErr result (λ e. IsAnswered f g old new e)
  pub stays : OnCopyAnswer result (SourceStays f g old new)
  pub crash : LeavesWorldsOnly old new (IsPartOfCopy f g old)
  pub valid : OnCopyAnswer result (IsValidNow new)
  pub led : OnCopyAnswer result (IsLedTo old new)

-- ---- told or not

-- An answer other than Device leaves the count of faults as it was; Device comes only where that rose, and then the
-- disk is spent. The target's refusal is never a fault.
pub record CopyRuns {X : Type 0} (old new : DiskView) (result : Result X CopyRefusal) : Type 0 where
  pub stays : OnCopyAnswer result (Stays old new)
  pub counts : Counts old new
  pub unspent : OnCopyAnswer result (new.spent ≡ false)
  pub faultless : OnCopyAnswer result (new.faults ≡ old.faults)
  pub cause : IfErr result (λ e. e ≡ no.Device → Rose old.faults new.faults)
  pub no_fault : IfErr result (λ e. e ≢ no.Into fs.Device)
