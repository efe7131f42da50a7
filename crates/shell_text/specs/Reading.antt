-- The ask of a line as a function that computes.
use Rattle.std.specs.Prelude.{ℕ, cond, ◌==◌, nat_lt, List, [], ◌∷◌, length, codes, bytes_eq, Option, Some, None}
use Rattle.std.specs.Prelude.{unwrap_or}
use Rattle.std.specs.Borrow.{Bor}
use Rattle.script_text.specs.Grammar.{line_max}
use Rattle.script_text.specs.Pieces.{pieces}
use Rattle.script_text.specs.Reading.{data_of, reads, ends, ◌>>=◌, Words}
use Rattle.fs_trees.specs.Names.{Name, Path, is_name, is_path}
use Rattle.fs_trees.specs.declared.ask.ShellAsk.{ShellAsk}
use Rattle.fs_trees.specs.declared.ask.ShellAsk.TheVariants as ask
use Rattle.fs_trees.specs.declared.ask.ShellKind.{ShellKind}
use Rattle.fs_trees.specs.declared.ask.ShellKind.TheVariants.{Inode, Chain}

-- the pieces of what is left of a text after a cut, if something is
abbrev pub left : ℕ → Option (Bor (List ℕ)) → List (List ℕ)
left at None = []
left at (Some rest) = pieces at rest.now

-- ---- what one word says

abbrev pub name_of : List ℕ → Option Name
name_of w = cond (is_name w) (Some w) None

abbrev pub path_if : Path → Option Path
path_if path = cond (is_path path) (Some path) None

-- what stands after the first slash
abbrev pub names_of : List ℕ → Option Path
names_of [] = Some []
names_of (b ∷ bs) = path_if (pieces 47 (b ∷ bs))

abbrev pub path_of : List ℕ → Option Path
path_of [] = None
path_of (b ∷ bs) = cond (b == 47) (names_of bs) None

-- ---- the words after each command

abbrev pub make_of : Words → Option ShellAsk
make_of ws = ends ws ask.Make

unfoldable pub put_of : Words → Option ShellAsk
put_of ws = do
  p ← reads path_of ws
  x ← reads data_of p.1
  ends x.1 (ask.Put p.0 x.0)

unfoldable pub append_of : Words → Option ShellAsk
append_of ws = do
  p ← reads path_of ws
  x ← reads data_of p.1
  ends x.1 (ask.Append p.0 x.0)

unfoldable pub cat_of : Words → Option ShellAsk
cat_of ws = reads path_of ws >>= λ p. ends p.1 (ask.Cat p.0)

unfoldable pub ls_of : Words → Option ShellAsk
ls_of ws = reads path_of ws >>= λ p. ends p.1 (ask.Ls p.0)

unfoldable pub rm_of : Words → Option ShellAsk
rm_of ws = reads path_of ws >>= λ p. ends p.1 (ask.Rm p.0)

unfoldable pub make_dir_of : Words → Option ShellAsk
make_dir_of ws = reads path_of ws >>= λ p. ends p.1 (ask.MakeDir p.0)

unfoldable pub copy_of : Words → Option ShellAsk
copy_of ws = do
  p ← reads path_of ws
  q ← reads path_of p.1
  ends q.1 (ask.Copy p.0 q.0)

abbrev pub df_of : Words → Option ShellAsk
df_of ws = ends ws ask.Df

-- inodes alone
abbrev pub of_inodes : ShellKind → (Words → Option ShellAsk) → Words → Option ShellAsk
of_inodes Inode form ws = form ws
of_inodes Chain form ws = None

-- ---- lines

-- the first of these names that the word is says how the words after it are read
abbrev pub dispatch : List (List ℕ × (Words → Option ShellAsk)) → List ℕ → Words → Option ShellAsk
dispatch [] name ws = None
dispatch (form ∷ forms) name ws = cond (bytes_eq name form.0) (form.1 ws) (dispatch forms name ws)

abbrev pub forms : ShellKind → List (List ℕ × (Words → Option ShellAsk))
forms kind = (codes "mkfs", make_of) ∷ (codes "put", put_of) ∷ (codes "append", append_of) ∷ (codes "cat", cat_of)
    ∷ (codes "ls", ls_of) ∷ (codes "mkdir", of_inodes kind make_dir_of) ∷ (codes "rm", rm_of)
    ∷ (codes "cp", of_inodes kind copy_of) ∷ (codes "df", df_of) ∷ []

unfoldable pub named : ShellKind → List ℕ → Words → Option ShellAsk
named kind name ws = dispatch (forms kind) name ws

unfoldable pub asked : ShellKind → Words → Option ShellAsk
asked kind [] = None
asked kind (w ∷ ws) = named kind w ws

-- the ask of a line, Bad where it isn't one
unfoldable pub ask_of : ShellKind → List ℕ → ShellAsk
ask_of kind line = cond (nat_lt line_max (length line)) ask.Bad (unwrap_or (asked kind (pieces 32 line)) ask.Bad)
