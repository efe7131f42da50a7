-- What a call of a file system leaves, whatever it answers.
use Rattle.std.specs.Prelude.{◌≡◌, ◌⊎◌, true, false, Result, IfErr, OnOk, IsTrue}
use Rattle.image_device.specs.Counts.{Rose}
use Rattle.tsd_model.specs.World.{World}
use Rattle.fs_trees.specs.Layouts.{tree_at, IsTidy}
use Rattle.fs_trees.specs.Needs.{need}
use Rattle.fs_trees.specs.Step.{empty_tree}
use Rattle.fs_trees.specs.Tree.{is_there, nothing}
use Rattle.fs_trees.specs.declared.ask.ShellAsk.{ShellAsk}
use Rattle.fs_trees.specs.declared.refusal.FsRefusal.{FsRefusal}
use Rattle.fs_trees.specs.declared.refusal.FsRefusal.TheVariants as no
use Rattle.fs_port.specs.View.{DiskView}
use Rattle.fs_port.specs.Calls.{Counts, IsLedTo, IsValidNow, LeavesWorldsOnly, Stays}
use Rattle.fs_port.specs.Files.{FilesView, IsEitherTree, KeepsRoom, LeavesTidyWorld, OnAnswer, OnlyDeletes, need_on}

-- Asks one after the other, of a disk that may tell its world, where a stop leaves P. An answer other than Device
-- leaves the count of faults as it was; Device comes only where that count rose, and then the disk is spent.
pub record Runs {X : Type 0} (told : Type 0) (old new : DiskView) (P : World → Type 0)
    (result : Result X FsRefusal) : Type 0 where
  pub valid : told → OnAnswer result (IsValidNow new)
  pub crash : told → LeavesWorldsOnly old new P
  pub led : told → OnAnswer result (IsLedTo old new)
  pub stays : OnAnswer result (Stays old new)
  pub counts : Counts old new
  pub unspent : OnAnswer result (new.spent ≡ false)
  pub faultless : OnAnswer result (new.faults ≡ old.faults)
  pub cause : IfErr result (λ e. e ≡ no.Device → Rose old.faults new.faults)
  pub spent : IfErr result (λ e. e ≡ no.Device → new.spent ≡ true)

-- a call that only looks: the same, where the world is as it was, afterwards and after a stop
pub record Looks {X : Type 0} (told : Type 0) (old new : DiskView) (result : Result X FsRefusal) : Type 0 where
  pub world : told → OnAnswer result (new.world ≡ old.world)
  pub runs : Runs told old new (λ w. w ≡ old.world) result

-- a call that may change the tree, as this ask does
pub record Changes {X : Type 0} (told : Type 0) (f : FilesView) (old new : DiskView) (a : ShellAsk)
    (result : Result X FsRefusal) : Type 0 where
  pub world : told → OnAnswer result (LeavesTidyWorld f old new)
  -- no more blocks and pairs are held than before and the ask's need
  pub room : told → OnOk result (KeepsRoom (need_on f old a) old.world new.world)
  pub crash : told → LeavesWorldsOnly old new (IsEitherTree f old a)
  -- where nothing is mounted, a stop leaves the world as it was
  pub unmounted : told → f.mounted ≡ false → LeavesWorldsOnly old new (λ w. w ≡ old.world)
  pub valid : told → OnAnswer result (IsValidNow new)
  pub led : told → OnAnswer result (IsLedTo old new)
  pub stays : OnAnswer result (Stays old new)
  pub counts : Counts old new
  pub unspent : OnAnswer result (new.spent ≡ false)
  pub faultless : OnAnswer result (new.faults ≡ old.faults)
  pub cause : IfErr result (λ e. e ≡ no.Device → Rose old.faults new.faults)
  pub spent : IfErr result (λ e. e ≡ no.Device → new.spent ≡ true)

-- ---- making and mounting

-- the tree is empty and the world tidy, what the root didn't reach is as it was, and nothing is taken
pub record IsMade (f : FilesView) (old new : DiskView) : Type 0 where
  pub tree : tree_at f.kind new.world f.root ≡ empty_tree
  pub tidy : IsTidy f.kind new.world f.root
  pub left : LeavesTidyWorld f old new
  pub room : KeepsRoom (need 0 0) old.world new.world

-- The tree that is there is mounted, as it was, and the world is tidy: pairs are deleted alone, with what they held. Or
-- none is there, and nothing has changed.
pub record FindsTree {X : Type 0} (f : FilesView) (old new : DiskView) (result : Result X FsRefusal) : Type 0 where
  pub tree : OnOk result (tree_at f.kind new.world f.root ≡ tree_at f.kind old.world f.root)
  pub tidy : OnOk result (IsTidy f.kind new.world f.root)
  pub deletes : OnOk result (OnlyDeletes f old.world new.world)
  pub there : OnOk result (IsTrue (is_there (tree_at f.kind old.world f.root)))
  pub only : IfErr result (λ e. (e ≡ no.NotThisFs) ⊎ (e ≡ no.Device))
  pub not_there : IfErr result (λ e. e ≡ no.NotThisFs
      → (tree_at f.kind old.world f.root ≡ nothing) × (new.world ≡ old.world))
  pub world : OnAnswer result (LeavesTidyWorld f old new)
