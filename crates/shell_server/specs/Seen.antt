-- What asks that only look see, in the words of trees, and what the answers of a run tell.
use Rattle.std.specs.Prelude.{◌≡◌, ℕ, ◌⊎◌, true, min, List, [], ◌∷◌, ◌++◌, length, take, drop, IsTrue}
use Rattle.std.specs.Prelude.{Option, Some, None}
use Rattle.tsd_model.specs.World.{World}
use Rattle.image_layout.specs.Image.{Image}
use Rattle.fs_trees.specs.Names.{Name, Path, is_path}
use Rattle.fs_trees.specs.Tree.{Tree, a_file, at, is_dir, names_in}
use Rattle.fs_port.specs.Files.{above}
use Rattle.shell_text.specs.FileBodies.{is_after}
use Rattle.shell_text.specs.Looked.{Looked, file_of, dir_here, part_of, next_file, next_dir, none_left}
use Rattle.shell_text.specs.declared.file_ask.FileAsk.{FileAsk}
use Rattle.shell_text.specs.declared.file_ask.FileAsk.TheVariants as file
use Rattle.serving.specs.Runs.{Run}
use Rattle.shell_server.specs.Shell.{ShellState, RestsIn, look_of, shell_service, tree_in}

-- none of the names in a directory is left; or one is, and what stands there is a file, with how many bytes it has, or
-- a directory
abbrev pub IsNextIn : Tree → Path → Option Name → Looked → Type 0
IsNextIn t path None seen = seen ≡ none_left
IsNextIn t path (Some n) seen =
    ((x : List ℕ) × (at t (path ++ n ∷ []) ≡ a_file x) × (seen ≡ next_file n (length x)))
    ⊎ ((is_dir (at t (path ++ n ∷ [])) ≡ true) × (seen ≡ next_dir n))

-- Of what stands at a path in the tree: of a file its size and its bytes, that a directory is there, and its names.
pub record SeesTree (s : ShellState) (path : Path) : Type 0 where
  pub size : (x : List ℕ) → at (tree_in s) path ≡ a_file x → look_of s (file.Size path) ≡ file_of (length x)
  pub part : (x : List ℕ) (start count : ℕ) → at (tree_in s) path ≡ a_file x
      → look_of s (file.Read path start count) ≡ part_of (take (min count 4096) (drop start x))
  pub dir : is_dir (at (tree_in s) path) ≡ true → look_of s (file.Size path) ≡ dir_here
  pub next : (after : Name) → IsTrue (is_after after) → is_dir (at (tree_in s) path) ≡ true
      → IsNextIn (tree_in s) path (above after (names_in (at (tree_in s) path))) (look_of s (file.Next path after))

-- So it is in each state at rest.
abbrev pub LooksSeeTheTree : Type 0
LooksSeeTheTree = (start : World) (s : ShellState) (x : Image) (path : Path) → RestsIn start s x → IsTrue (is_path path)
    → SeesTree s path

-- Two runs from the same tree with the same asks and the same answers come to the same tree, however full their worlds
-- are. So the tree after each whole answer is determined by the asks and the bytes sent.
abbrev pub AnswersTellTheTree : Type 0
AnswersTellTheTree =
    (start : World) (s t u w : ShellState) (qs : List FileAsk) (answers : List (List ℕ)) → s.files ≡ u.files
    → tree_in s ≡ tree_in u
    → Run (shell_service start) s qs answers t → Run (shell_service start) u qs answers w
    → (t.files ≡ w.files) × (tree_in t ≡ tree_in w)
