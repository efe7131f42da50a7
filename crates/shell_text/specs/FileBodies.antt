-- The bodies of frames that spell asks of a tree, said apart from any reading.
use Rattle.std.specs.Prelude.{◌≡◌, ◌≢◌, ℕ, ◌^◌, ◌<◌, ◌≤◌, ◌==◌, ◌||◌, Bool, true, List, [], ◌∷◌, ◌++◌, length}
use Rattle.byteorder.specs.Endian.{little_bytes}
use Rattle.fs_trees.specs.Names.{Name, Path, is_name, is_path}
use Rattle.fs_trees.specs.declared.ask.ShellAsk.{ShellAsk}
use Rattle.fs_trees.specs.declared.ask.ShellAsk.TheVariants as ask
use Rattle.fs_trees.specs.declared.ask.ShellKind.{ShellKind}
use Rattle.fs_trees.specs.declared.ask.ShellKind.TheVariants.{Inode, Chain}
use Rattle.shell_text.specs.declared.file_ask.FileAsk.{FileAsk}
use Rattle.shell_text.specs.declared.file_ask.FileAsk.TheVariants as file

-- what stands next to one another in a body
pub data BodyField : Type 0 where
  Code : ℕ → BodyField
  PathPart : Path → BodyField
  NamePart : Name → BodyField
  Start : ℕ → BodyField
  Count : ℕ → BodyField
  Rest : List ℕ → BodyField

-- how many bytes a name has, and these
abbrev pub name_bytes : Name → List ℕ
name_bytes n = length n ∷ n

-- each of them, one after another
abbrev pub names_bytes : List Name → List ℕ
names_bytes [] = []
names_bytes (n ∷ ns) = name_bytes n ++ names_bytes ns

-- how many names a path has, and these
abbrev pub path_bytes : Path → List ℕ
path_bytes path = length path ∷ names_bytes path

-- A code has one byte; the offset of a first byte eight, a count of bytes four, the lowest first.
abbrev pub field_bytes : BodyField → List ℕ
field_bytes (Code c) = c ∷ []
field_bytes (PathPart path) = path_bytes path
field_bytes (NamePart n) = name_bytes n
field_bytes (Start n) = little_bytes 8 n
field_bytes (Count n) = little_bytes 4 n
field_bytes (Rest bytes) = bytes

-- what a name may stand above: nothing, or a name
abbrev pub is_after : Name → Bool
is_after n = (length n == 0) || is_name n

-- names are names, and the bytes have room for the value
abbrev pub HasRoomFor : BodyField → Type 0
HasRoomFor (Code c) = Unit {0}
HasRoomFor (PathPart path) = is_path path ≡ true
HasRoomFor (NamePart n) = is_after n ≡ true
HasRoomFor (Start n) = n < 2 ^ 64
HasRoomFor (Count n) = n < 2 ^ 32
HasRoomFor (Rest bytes) = length bytes ≤ 4096

-- each fits
abbrev pub AllFit : List BodyField → Type 0
AllFit [] = Unit {0}
AllFit (f ∷ fs) = HasRoomFor f × AllFit fs

-- the bytes of each, one after another
abbrev pub bytes_of : List BodyField → List ℕ
bytes_of [] = []
bytes_of (f ∷ fs) = field_bytes f ++ bytes_of fs

-- a chain's tree has no directories to make, and no copies
abbrev pub of_inodes_alone : ShellKind → List BodyField → List BodyField
of_inodes_alone Inode fs = fs
of_inodes_alone Chain fs = []

-- the fields of each ask of the shell, a code first, and none for Bad
abbrev pub shell_fields : ShellKind → ShellAsk → List BodyField
shell_fields kind ask.Bad = []
shell_fields kind ask.Make = Code 1 ∷ []
shell_fields kind (ask.Put path bytes) = Code 2 ∷ PathPart path ∷ Rest bytes ∷ []
shell_fields kind (ask.Append path bytes) = Code 3 ∷ PathPart path ∷ Rest bytes ∷ []
shell_fields kind (ask.Cat path) = Code 4 ∷ PathPart path ∷ []
shell_fields kind (ask.Ls path) = Code 5 ∷ PathPart path ∷ []
shell_fields kind (ask.MakeDir path) = of_inodes_alone kind (Code 6 ∷ PathPart path ∷ [])
shell_fields kind (ask.Rm path) = Code 7 ∷ PathPart path ∷ []
shell_fields kind (ask.Copy path new) = of_inodes_alone kind (Code 8 ∷ PathPart path ∷ PathPart new ∷ [])
shell_fields kind ask.Df = Code 9 ∷ []

-- the fields of each ask
abbrev pub body_fields : ShellKind → FileAsk → List BodyField
body_fields kind (file.Shell a) = shell_fields kind a
body_fields kind (file.Size path) = Code 16 ∷ PathPart path ∷ []
body_fields kind (file.Read path start count) = Code 17 ∷ PathPart path ∷ Start start ∷ Count count ∷ []
body_fields kind (file.Next path after) = Code 18 ∷ PathPart path ∷ NamePart after ∷ []

-- the one body of an ask
abbrev pub ask_body : ShellKind → FileAsk → List ℕ
ask_body kind a = bytes_of (body_fields kind a)

-- The body spells the ask for the layout, from its first byte to its last. No body spells Bad.
pub record IsAskBody (kind : ShellKind) (body : List ℕ) (a : FileAsk) : Type 0 where
  pub some : body_fields kind a ≢ []
  pub fits : AllFit (body_fields kind a)
  pub spelled : body ≡ ask_body kind a
