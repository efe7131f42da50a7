-- How a copy between two roots of a world ends, and the world then.
use Rattle.std.specs.Prelude.{◌≡◌, ◌≤◌, ◌⊎◌, ℕ, Some, IsTrue, slice_get}
use Rattle.tsd_model.specs.World.{World}
use Rattle.tsd_model.specs.Valid.{IsValid}
use Rattle.fs_trees.specs.Answer as answer
use Rattle.fs_trees.specs.Copying.{copy_steps, partial}
use Rattle.fs_trees.specs.Layouts.{IsTidy, step_at}
use Rattle.fs_trees.specs.Outside.{OthersStay, is_under}
use Rattle.fs_trees.specs.Tree.{is_there, nothing}
use Rattle.fs_trees.specs.declared.ask.ShellAsk.{ShellAsk}
use Rattle.fs_trees.specs.declared.refusal.FsRefusal.{FsRefusal}
use Rattle.fs_laws.specs.Apart.{AreApart}
use Rattle.fs_port.specs.Files.{FilesView, OnlyDeletes}
use Rattle.fs_copy.specs.Counted.{IsCount}
use Rattle.fs_copy.specs.Nesting.{CanHold, IsNested}
use Rattle.fs_copy.specs.declared.copied.Copied.{Copied}
use Rattle.shell_server.specs.Shell.{tree_under}
use Rattle.image_copy.specs.declared.ending.CopyEnd.{CopyEnd}
use Rattle.image_copy.specs.declared.ending.CopyEnd.TheVariants as end

-- ---- blocks that both roots reach

abbrev pub IsUnderBoth : World → ℕ → ℕ → ℕ → Type 0
IsUnderBoth w root other b = IsTrue (is_under w root b) × IsTrue (is_under w other b)

-- the least of them
pub record IsFirstShared (w : World) (root other b : ℕ) : Type 0 where
  pub shared : IsUnderBoth w root other b
  pub least : (c : ℕ) → IsUnderBoth w root other c → b ≤ c

-- ---- the source mounted

-- What mounting the source may leave of a world in which no block is reached from both roots: both trees are as they
-- were. Only pairs are deleted, with what they held, and what the source's root doesn't reach stays.
pub record IsTrimmed (f g : FilesView) (start w : World) : Type 0 where
  pub were_apart : AreApart start f.root g.root
  pub valid : IsValid w
  pub geometry : w.geometry ≡ start.geometry
  pub source : tree_under f w ≡ tree_under f start
  pub target : tree_under g w ≡ tree_under g start
  pub deletes : OnlyDeletes f start w
  pub others : OthersStay f.root start w

-- The source's tree is there, and mounted: its world is tidy, and still no block is reached from both roots.
pub record IsSourceMounted (f g : FilesView) (start w : World) : Type 0 where
  pub trimmed : IsTrimmed f g start w
  pub there : IsTrue (is_there (tree_under f start))
  pub tidy : IsTidy f.kind w f.root
  pub apart : AreApart w f.root g.root

-- ---- the copy

-- What a crash leaves of it: the source's tree as it is, and under the target's root what was there before, or the tree
-- after some of the steps. Where the target can't hold the tree, all is as it was once the source was mounted; and what
-- the target's root didn't reach is so anyway.
pub record IsPartlyCopied (f g : FilesView) (start w : World) : Type 0 where
  pub mounted : World
  pub is_mounted : IsSourceMounted f g start mounted
  pub valid : IsValid w
  pub geometry : w.geometry ≡ start.geometry
  pub source : tree_under f w ≡ tree_under f start
  pub target : (tree_under g w ≡ tree_under g start)
      ⊎ ((j : ℕ) × (1 ≤ j) × (tree_under g w ≡ partial (tree_under f start) j))
  pub held : CanHold g.kind (tree_under f start) ⊎ (w ≡ mounted)
  pub others : OthersStay g.root mounted w

-- what a crash leaves of mounting and copying
abbrev pub IsUnderWay : FilesView → FilesView → World → World → Type 0
IsUnderWay f g start w = IsTrimmed f g start w ⊎ IsPartlyCopied f g start w

-- What an answer of the copy leaves: the source's tree as it is, in a tidy world, and still no block that both roots
-- reach. What the target's root didn't reach once the source was mounted is as it was then.
pub record SourceStays (f g : FilesView) (start w : World) : Type 0 where
  pub mounted : World
  pub is_mounted : IsSourceMounted f g start mounted
  pub valid : IsValid w
  pub geometry : w.geometry ≡ start.geometry
  pub source : tree_under f w ≡ tree_under f start
  pub tidy : IsTidy f.kind w f.root
  pub apart : AreApart w f.root g.root
  pub others : OthersStay g.root mounted w

-- The source's tree is under the target's root, in a tidy world. Its files and their bytes are counted.
pub record IsWholeTree (f g : FilesView) (start w : World) (c : Copied) : Type 0 where
  pub stays : SourceStays f g start w
  pub holds : CanHold g.kind (tree_under f start)
  pub target : tree_under g w ≡ tree_under f start
  pub tidy : IsTidy g.kind w g.root
  pub count : IsCount (tree_under f start) c

-- The step that comes next is refused, in the world as it is now; the target has the tree after those before it, in a
-- tidy world.
pub record IsRefusedStep (f g : FilesView) (start w : World) (e : FsRefusal) : Type 0 where
  pub stays : SourceStays f g start w
  pub holds : CanHold g.kind (tree_under f start)
  pub j : ℕ
  pub here : ShellAsk
  pub later : 1 ≤ j
  pub step : slice_get (copy_steps (tree_under f start)) j ≡ Some here
  pub answer : (step_at g.kind w g.root here).answer ≡ answer.refused e
  pub target : tree_under g w ≡ partial (tree_under f start) j
  pub tidy : IsTidy g.kind w g.root

-- ---- ends

-- The source's tree isn't there, and nothing has changed.
pub record IsNoTree (f g : FilesView) (start w : World) : Type 0 where
  pub were_apart : AreApart start f.root g.root
  pub none : tree_under f start ≡ nothing
  pub same : w ≡ start

-- The first of these that applies. A block is reached from both roots, this is the least, and nothing has changed. The
-- source's tree isn't there. The source is mounted, its tree has a directory that the target's layout can't hold, this
-- is the first, and no step was made. A step was refused. Or all were made.
abbrev pub EndsAs : FilesView → FilesView → World → CopyEnd → World → Type 0
EndsAs f g start (end.Shared b) w = IsFirstShared start f.root g.root b × (w ≡ start)
EndsAs f g start end.NotThisFs w = IsNoTree f g start w
EndsAs f g start (end.Nested path) w = IsSourceMounted f g start w × IsNested g.kind (tree_under f start) path
EndsAs f g start (end.Refused e) w = IsRefusedStep f g start w e
EndsAs f g start (end.Whole c) w = IsWholeTree f g start w c
