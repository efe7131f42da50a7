-- What the shell serves, said apart from any code.
use Rattle.std.specs.Prelude.{◌≡◌, ◌≢◌, ℕ, Bool, true, false, cond, ◌&&◌, List, [], ◌∷◌, ◌++◌, IsTrue}
use Rattle.std.specs.Prelude.{Option, Some, None}
use Rattle.tsd_model.specs.World.{World, has_number, is_free, is_live}
use Rattle.tsd_model.specs.Valid.{IsValid}
use Rattle.tsd_model.specs.declared.caps.Cap.{Cap}
use Rattle.image_layout.specs.Image.{Image}
use Rattle.image_world.specs.Stands.{Stands}
use Rattle.script_text.specs.Pieces.{line_feeds}
use Rattle.fs_trees.specs.Names.{Name, is_path}
use Rattle.fs_trees.specs.Tree.{Tree, nothing}
use Rattle.fs_trees.specs.Answer.{bytes, done, listed}
use Rattle.fs_trees.specs.Step.{AskOutcome}
use Rattle.fs_trees.specs.Outside.{OthersStay}
use Rattle.fs_trees.specs.Layouts.{tree_at, named_at, step_in, IsTidy}
use Rattle.fs_trees.specs.declared.ask.ShellAsk.{ShellAsk}
use Rattle.fs_trees.specs.declared.ask.ShellAsk.TheVariants as ask
use Rattle.fs_trees.specs.declared.ask.ShellKind.{ShellKind}
use Rattle.fs_port.specs.Files.{FilesView, has_dirs, mounted_now}
use Rattle.shell_text.specs.Looked.{Looked, looked_text}
use Rattle.shell_text.specs.Texts.{answer_text}
use Rattle.shell_text.specs.declared.file_ask.FileAsk.{FileAsk}
use Rattle.shell_text.specs.declared.file_ask.FileAsk.TheVariants as file
use Rattle.serving.specs.Service.{Service}
use Rattle.serving.specs.Work.{WorkCount}
use Rattle.image_world.specs.Debt.{debt}
use Rattle.shell_server.specs.Looks.{looked_by}

-- ---- asks

-- its paths are paths, and the layout has it
abbrev pub is_heard : ShellKind → ShellAsk → Bool
is_heard kind (ask.Put path x) = is_path path
is_heard kind (ask.Append path x) = is_path path
is_heard kind (ask.Cat path) = is_path path
is_heard kind (ask.Ls path) = is_path path
is_heard kind (ask.Rm path) = is_path path
is_heard kind (ask.MakeDir path) = has_dirs kind && is_path path
is_heard kind (ask.Copy path new) = has_dirs kind && (is_path path && is_path new)
is_heard kind q = true

-- What isn't heard counts as Bad. No line spells it.
abbrev pub heard : ShellKind → ShellAsk → ShellAsk
heard kind q = cond (is_heard kind q) q ask.Bad

-- ---- states

-- what a file system is before it mounts: it asks as session 1
abbrev pub unmounted : ShellKind → ℕ → Cap → FilesView
unmounted kind root cap = record { kind = kind; root = root; cap = cap; session = 1; mounted = false }

-- A file system, the world in which it keeps its tree, and the ask that is under way there, if one is.
pub record ShellState : Type 0 where
  pub files : FilesView
  pub world : World
  pub under_way : Option ShellAsk

-- between two asks
abbrev pub resting : FilesView → World → ShellState
resting f w = record { files = f; world = w; under_way = None }

-- the tree under the root
abbrev pub tree_under : FilesView → World → Tree
tree_under f w = tree_at f.kind w f.root

-- the step of an ask of the tree that is mounted, or of nothing where none is, with the room that the world has
abbrev pub step_from : FilesView → World → ShellAsk → AskOutcome
step_from f w q = step_in f.kind w f.root (cond f.mounted (tree_under f w) nothing) (heard f.kind q)

abbrev pub tree_by : FilesView → World → Option ShellAsk → Tree
tree_by f w None = tree_under f w
tree_by f w (Some q) = (step_from f w q).tree

-- the tree under the root, or while an ask is under way, that of its step
abbrev pub tree_of : ShellState → Tree
tree_of s = tree_by s.files s.world s.under_way

-- the tree that is mounted; nothing where none is
abbrev pub tree_in : ShellState → Tree
tree_in s = cond s.files.mounted (tree_of s) nothing

-- between two asks, the world is tidy under the root where a tree is mounted
abbrev pub IsTidyIn : ShellState → Type 0
IsTidyIn s = s.under_way ≡ None → s.files.mounted ≡ true → IsTidy s.files.kind s.world s.files.root

-- The world is valid and of the size at the start, and what the root doesn't reach is as it was then. Between two asks
-- it is tidy.
pub record IsKeptSince (start : World) (s : ShellState) : Type 0 where
  pub valid : IsValid s.world
  pub geometry : s.world.geometry ≡ start.geometry
  pub others : OthersStay s.files.root start s.world
  pub tidy : IsTidyIn s

-- what was free and is live now is named by the tree under the root
abbrev pub IsTakenForTree : FilesView → World → World → Type 0
IsTakenForTree f w next = (b : ℕ) → IsTrue (is_free w b) → IsTrue (is_live next b)
    → IsTrue (has_number (named_at f.kind next f.root).blocks b)

-- Between two asks, the image stands for this very world, which is kept.
pub record RestsIn (start : World) (s : ShellState) (x : Image) : Type 0 where
  pub at_rest : s.under_way ≡ None
  pub stands : Stands x s.world
  pub kept : IsKeptSince start s

-- ---- answers

-- the step of an ask, with the room that the world has
abbrev pub shell_step : ShellState → ShellAsk → AskOutcome
shell_step s q = step_in s.files.kind s.world s.files.root (tree_in s) (heard s.files.kind q)

-- an empty tree that was made is mounted
abbrev pub files_after : FilesView → ShellAsk → FilesView
files_after f ask.Make = mounted_now f
files_after f q = f

-- From a state at rest, the ask is answered by the line of its step, and the tree then is that of the step. Only an ask
-- that is done changes the world: what is refused or only read leaves all of it, also where no tree is mounted. What it
-- takes is the tree's.
pub record AnswersByLine (start : World) (s : ShellState) (q : ShellAsk) (line : List ℕ) (t : ShellState) : Type 0 where
  pub from : Image
  pub at_rest : RestsIn start s from
  pub text : line ≡ answer_text (shell_step s q).answer ++ 10 ∷ []
  pub one_line : line_feeds (answer_text (shell_step s q).answer) ≡ 0
  pub tree : tree_in t ≡ (shell_step s q).tree
  pub same : (shell_step s q).answer ≢ done → t.world ≡ s.world
  pub files : t.files ≡ files_after s.files (heard s.files.kind q)
  pub kept : IsKeptSince start t
  pub taken : IsTakenForTree s.files s.world t.world

-- what an ask that only looks sees in a state
abbrev pub look_of : ShellState → FileAsk → Looked
look_of s q = looked_by (λ a. (shell_step s a).answer) q

-- From a state at rest, an ask that only looks is answered by one line, of what it sees there. The state stays.
pub record LooksByLine (start : World) (s : ShellState) (q : FileAsk) (line : List ℕ) (t : ShellState) : Type 0 where
  pub from : Image
  pub at_rest : RestsIn start s from
  pub text : line ≡ looked_text (look_of s q) ++ 10 ∷ []
  pub one_line : line_feeds (looked_text (look_of s q)) ≡ 0
  pub same : t ≡ s

-- An ask of the shell is answered by its step, and any other by what it sees.
abbrev pub Answers : World → ShellState → FileAsk → List ℕ → ShellState → Type 0
Answers start s (file.Shell q) line t = AnswersByLine start s q line t
Answers start s q line t = LooksByLine start s q line t

-- ---- images

-- What a crash may leave of a state: a valid world of the size at the start, with the tree of the state under the root,
-- and with what the root doesn't reach as it was at the start. It needn't be tidy. Where no tree is there, all of it is
-- as it is in the state: a tree of another layout stays.
pub record IsLeftOf (start : World) (s : ShellState) (x : Image) : Type 0 where
  pub world : World
  pub stands : Stands x world
  pub valid : IsValid world
  pub geometry : world.geometry ≡ start.geometry
  pub tree : tree_under s.files world ≡ tree_of s
  pub others : OthersStay s.files.root start world
  pub still : tree_of s ≡ nothing → world ≡ s.world

-- While an empty tree is made where none is there, what stands in its place goes: a crash may leave any world that a
-- crash leaves of a state without a tree.
pub record IsMaking (start : World) (s : ShellState) (q : ShellAsk) (x : Image) : Type 0 where
  pub make : heard s.files.kind q ≡ ask.Make
  pub none : tree_of s ≡ nothing
  pub world : World
  pub none_yet : tree_under s.files world ≡ nothing
  pub left : IsLeftOf start (resting s.files world) x

-- ---- the service

-- a world for a start that isn't picked
abbrev pub no_world : World
no_world = record {
  geometry = record { sectors = 1; blocks = 8; primaries = 1; slots = 1 };
  version = 1;
  blocks = [];
  pairs = [];
  records = [];
}

-- The bytes of a file and the names in a directory are sent in parts, and the disk is read between them.
abbrev pub IsInParts : ShellAsk → List ℕ → Type 0
IsInParts (ask.Cat path) line = (x : List ℕ) × (line ≡ answer_text (bytes x) ++ 10 ∷ [])
IsInParts (ask.Ls path) line = (ns : List Name) × (line ≡ answer_text (listed ns) ++ 10 ∷ [])
IsInParts q line = ⊥

-- it is an ask of the shell of which that holds
abbrev pub IsOfShell : (ShellAsk → Type 0) → FileAsk → Type 0
IsOfShell P (file.Shell q) = P q
IsOfShell P q = ⊥

-- the shell over a disk that began as this world
abbrev pub shell_service : World → Service FileAsk
shell_service start = record {
  States = ShellState;
  gives = Answers start;
  stands = IsLeftOf start;
  rests = RestsIn start;
  acked = line_feeds;
  in_parts = λ q line. IsOfShell (λ a. IsInParts a line) q;
  between = λ s q x. IsOfShell (λ a. IsMaking start s a x) q;
}

-- how its work is counted: no ask has a bound
abbrev pub shell_work : WorkCount FileAsk ShellState
shell_work = record {
  bounded = λ q. ⊥;
  cost = λ s q. 0;
  made = λ s q. 0;
  debt = debt;
  before_answer = λ s owed q. 0;
  behind_answer = 0;
}
