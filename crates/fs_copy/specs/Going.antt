-- Some of the asks of a copy, made one after the other.
use Rattle.std.specs.Prelude.{◌≡◌, ◌≢◌, ℕ, List, [], ◌∷◌, ◌++◌, Result, OnOk, IfErr, IsTrue, true, Option, Some, None}
use Rattle.std.specs.Prelude.{length}
use Rattle.tsd_model.specs.World.{World}
use Rattle.fs_trees.specs.Answer.{refused}
use Rattle.fs_trees.specs.Copying.{after_asks, file_steps}
use Rattle.fs_trees.specs.Layouts.{tree_at, IsTidy}
use Rattle.fs_trees.specs.Names.{Path}
use Rattle.fs_trees.specs.Outside.{OthersStay}
use Rattle.fs_trees.specs.Tree.{Tree, nothing, a_file, a_dir, at, is_there}
use Rattle.fs_trees.specs.declared.ask.ShellAsk.{ShellAsk}
use Rattle.fs_trees.specs.declared.ask.ShellAsk.TheVariants as ask
use Rattle.fs_trees.specs.declared.refusal.FsRefusal.{FsRefusal}
use Rattle.fs_trees.specs.declared.refusal.FsRefusal.TheVariants as no
use Rattle.fs_laws.specs.Apart.{AreApart}
use Rattle.fs_port.specs.View.{DiskView}
use Rattle.fs_port.specs.Calls.{IsValidNow}
use Rattle.fs_port.specs.Files.{FilesView, IsClientReady, IsLeft, OnAnswer, step_on}
use Rattle.fs_port.specs.Runs.{Runs}

abbrev pub tree_under : FilesView → DiskView → Tree
tree_under f v = tree_at f.kind v.world f.root

-- Both file systems may ask, each has its tree, and no block is reached from both roots.
pub record AreSet (told : Type 0) (f g : FilesView) (v : DiskView) : Type 0 where
  pub from_ready : IsClientReady f v
  pub into_ready : IsClientReady g v
  pub from_mounted : f.mounted ≡ true
  pub into_mounted : g.mounted ≡ true
  pub valid : told → IsValidNow v
  pub from_there : told → IsTrue (is_there (tree_under f v))
  pub into_there : told → IsTrue (is_there (tree_under g v))
  pub apart : told → AreApart v.world f.root g.root

-- the source may ask, and has its tree
pub record IsSource (told : Type 0) (f : FilesView) (v : DiskView) : Type 0 where
  pub ready : IsClientReady f v
  pub mounted : f.mounted ≡ true
  pub valid : told → IsValidNow v
  pub there : told → IsTrue (is_there (tree_under f v))

-- what a crash leaves: the tree after some of the asks, the first ones
pub record IsPartly (g : FilesView) (old : DiskView) (qs : List ShellAsk) (w : World) : Type 0 where
  pub front : List ShellAsk
  pub back : List ShellAsk
  pub parts : qs ≡ front ++ back
  pub tree : tree_at g.kind w g.root ≡ after_asks (tree_under g old) front
  pub left : IsLeft g old w

-- One of the asks is refused; the tree is that after those before it.
pub record IsRefusedAmong (g : FilesView) (old new : DiskView) (qs : List ShellAsk) (e : FsRefusal) : Type 0 where
  pub front : List ShellAsk
  pub here : ShellAsk
  pub back : List ShellAsk
  pub parts : qs ≡ front ++ here ∷ back
  pub tree : tree_under g new ≡ after_asks (tree_under g old) front
  pub answer : (step_on g new here).answer ≡ refused e

-- These asks were made of a file system in which a tree is mounted, one after the other. If there was one, there is
-- one, and the world is tidy if it was.
pub record MakesSteps {X : Type 0} (told : Type 0) (g : FilesView) (old new : DiskView) (qs : List ShellAsk)
    (result : Result X FsRefusal) : Type 0 where
  pub done : told → OnOk result (tree_under g new ≡ after_asks (tree_under g old) qs)
  pub refused : told → IfErr result (λ e. e ≢ no.Device → IsRefusedAmong g old new qs e)
  pub there : told → OnAnswer result (IsTrue (is_there (tree_under g old)) → IsTrue (is_there (tree_under g new)))
  pub tidy : told → OnAnswer result (IsTidy g.kind old.world g.root → IsTidy g.kind new.world g.root)
  pub size : told → OnAnswer result (new.world.geometry ≡ old.world.geometry)
  pub others : told → OnAnswer result (OthersStay g.root old.world new.world)
  pub runs : Runs told old new (IsPartly g old qs) result

-- ---- of one entry

-- the asks that make what stands at a path, without what is inside
abbrev pub own_steps : Path → Tree → List ShellAsk
own_steps path nothing = []
own_steps path (a_file x) = file_steps path x
own_steps path (a_dir d es) = ask.MakeDir path ∷ []

abbrev pub IsFileAt : Tree → Path → Type 0
IsFileAt t path = (x : List ℕ) × (at t path ≡ a_file x)

-- how many bytes a file has
abbrev pub file_size : Tree → Option ℕ
file_size nothing = None
file_size (a_file x) = Some (length x)
file_size (a_dir d es) = None
