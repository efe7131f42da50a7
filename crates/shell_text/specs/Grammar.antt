-- The lines that spell asks of a file system, said apart from any reading.
use Rattle.std.specs.Prelude.{◌≡◌, ℕ, ◌≤◌, true, List, [], ◌∷◌, length, codes}
use Rattle.std.specs.List.{join_with_byte}
use Rattle.script_text.specs.Grammar.{line_max, IsData}
use Rattle.fs_trees.specs.Names.{Path, is_path}
use Rattle.fs_trees.specs.declared.ask.ShellAsk.{ShellAsk}
use Rattle.fs_trees.specs.declared.ask.ShellAsk.TheVariants as ask
use Rattle.fs_trees.specs.declared.ask.ShellKind.{ShellKind}
use Rattle.fs_trees.specs.declared.ask.ShellKind.TheVariants.{Inode, Chain}

-- what one word of a line says
pub data Field : Type 0 where
  Verb : List ℕ → Field
  PathWord : Path → Field
  Bytes : List ℕ → Field

-- a chain's tree has no directories to make, and no copies
abbrev pub inodes_alone : ShellKind → List Field → List Field
inodes_alone Inode fs = fs
inodes_alone Chain fs = []

-- the line of each ask, word by word, and no line for Bad
abbrev pub fields : ShellKind → ShellAsk → List Field
fields kind ask.Bad = []
fields kind ask.Make = Verb (codes "mkfs") ∷ []
fields kind (ask.Put path bytes) = Verb (codes "put") ∷ PathWord path ∷ Bytes bytes ∷ []
fields kind (ask.Append path bytes) = Verb (codes "append") ∷ PathWord path ∷ Bytes bytes ∷ []
fields kind (ask.Cat path) = Verb (codes "cat") ∷ PathWord path ∷ []
fields kind (ask.Ls path) = Verb (codes "ls") ∷ PathWord path ∷ []
fields kind (ask.MakeDir path) = inodes_alone kind (Verb (codes "mkdir") ∷ PathWord path ∷ [])
fields kind (ask.Rm path) = Verb (codes "rm") ∷ PathWord path ∷ []
fields kind (ask.Copy path new) = inodes_alone kind (Verb (codes "cp") ∷ PathWord path ∷ PathWord new ∷ [])
fields kind ask.Df = Verb (codes "df") ∷ []

-- a slash, and the names with a slash between each two
abbrev pub path_text : Path → List ℕ
path_text path = 47 ∷ join_with_byte 47 path

-- at most 16 names, each of them one
abbrev pub IsPathWord : List ℕ → Path → Type 0
IsPathWord w path = (is_path path ≡ true) × (w ≡ path_text path)

-- the word spells this
abbrev pub IsField : Field → List ℕ → Type 0
IsField (Verb name) w = w ≡ name
IsField (PathWord path) w = IsPathWord w path
IsField (Bytes bytes) w = IsData w bytes

-- the words spell these, one each
abbrev pub AreFields : List Field → List (List ℕ) → Type 0
AreFields [] [] = Unit {0}
AreFields [] (w ∷ ws) = ⊥
AreFields (f ∷ fs) [] = ⊥
AreFields (f ∷ fs) (w ∷ ws) = IsField f w × AreFields fs ws

-- The line spells the ask: its words are parted by one space each, and there is at least one.
pub record IsShellLine (kind : ShellKind) (line : List ℕ) (a : ShellAsk) : Type 0 where
  pub short : length line ≤ line_max
  pub words : List (List ℕ)
  pub some : 1 ≤ length words
  pub spelled : AreFields (fields kind a) words
  pub parted : line ≡ join_with_byte 32 words
