-- The ask of a frame's body as a function that computes.
use Rattle.std.specs.Prelude.{ℕ, zero, suc, cond, nat_le, Bool, List, [], ◌∷◌, length, drop, Option, Some, None}
use Rattle.std.specs.Prelude.{option_map, unwrap_or}
use Rattle.byteorder.specs.Endian.{little_number}
use Rattle.request_frames.specs.Reading.{◌>>=◌, taken, num_of, data_of, ends, dispatch}
use Rattle.fs_trees.specs.Names.{Name, Path, is_name, path_max}
use Rattle.fs_trees.specs.declared.ask.ShellAsk.TheVariants as ask
use Rattle.fs_trees.specs.declared.ask.ShellKind.{ShellKind}
use Rattle.fs_trees.specs.declared.ask.ShellKind.TheVariants.{Inode, Chain}
use Rattle.shell_text.specs.declared.file_ask.FileAsk.{FileAsk}
use Rattle.shell_text.specs.declared.file_ask.FileAsk.TheVariants as file
use Rattle.shell_text.specs.FileBodies.{is_after}

-- ---- what the next bytes say, and the bytes after them

-- eight bytes as a number, the lowest first
unfoldable pub start_of : List ℕ → Option (ℕ × List ℕ)
start_of bs = cond (nat_le 8 (length bs)) (Some (little_number 8 bs, drop 8 bs)) None

-- as many bytes as the first of them says
abbrev pub word_of : List ℕ → Option (List ℕ × List ℕ)
word_of [] = None
word_of (k ∷ bs) = taken k bs

-- such bytes, where they are good
abbrev pub kept : (List ℕ → Bool) → List ℕ × List ℕ → Option (List ℕ × List ℕ)
kept good w = cond (good w.0) (Some w) None

unfoldable pub name_at : List ℕ → Option (Name × List ℕ)
name_at bs = word_of bs >>= λ w. kept is_name w

unfoldable pub after_at : List ℕ → Option (Name × List ℕ)
after_at bs = word_of bs >>= λ w. kept is_after w

-- a name before those that stand after it
abbrev pub onto : Name → Path × List ℕ → Path × List ℕ
onto n p = (n ∷ p.0, p.1)

-- so many names
abbrev pub names_at : ℕ → List ℕ → Option (Path × List ℕ)
names_at zero bs = Some ([], bs)
names_at (suc k) bs = name_at bs >>= λ n. option_map (onto n.0) (names_at k n.1)

-- as many names as the first byte says
abbrev pub path_at : List ℕ → Option (Path × List ℕ)
path_at [] = None
path_at (k ∷ bs) = cond (nat_le k path_max) (names_at k bs) None

-- ---- the bytes after each code

abbrev pub make_of : List ℕ → Option FileAsk
make_of bs = ends bs (file.Shell ask.Make)

unfoldable pub put_of : List ℕ → Option FileAsk
put_of bs = do
  p ← path_at bs
  x ← data_of p.1
  ends x.1 (file.Shell (ask.Put p.0 x.0))

unfoldable pub append_of : List ℕ → Option FileAsk
append_of bs = do
  p ← path_at bs
  x ← data_of p.1
  ends x.1 (file.Shell (ask.Append p.0 x.0))

unfoldable pub cat_of : List ℕ → Option FileAsk
cat_of bs = path_at bs >>= λ p. ends p.1 (file.Shell (ask.Cat p.0))

unfoldable pub ls_of : List ℕ → Option FileAsk
ls_of bs = path_at bs >>= λ p. ends p.1 (file.Shell (ask.Ls p.0))

unfoldable pub make_dir_of : List ℕ → Option FileAsk
make_dir_of bs = path_at bs >>= λ p. ends p.1 (file.Shell (ask.MakeDir p.0))

unfoldable pub rm_of : List ℕ → Option FileAsk
rm_of bs = path_at bs >>= λ p. ends p.1 (file.Shell (ask.Rm p.0))

unfoldable pub copy_of : List ℕ → Option FileAsk
copy_of bs = do
  p ← path_at bs
  q ← path_at p.1
  ends q.1 (file.Shell (ask.Copy p.0 q.0))

abbrev pub df_of : List ℕ → Option FileAsk
df_of bs = ends bs (file.Shell ask.Df)

unfoldable pub size_of : List ℕ → Option FileAsk
size_of bs = path_at bs >>= λ p. ends p.1 (file.Size p.0)

unfoldable pub read_of : List ℕ → Option FileAsk
read_of bs = do
  p ← path_at bs
  s ← start_of p.1
  n ← num_of s.1
  ends n.1 (file.Read p.0 s.0 n.0)

unfoldable pub next_of : List ℕ → Option FileAsk
next_of bs = do
  p ← path_at bs
  a ← after_at p.1
  ends a.1 (file.Next p.0 a.0)

-- inodes alone
abbrev pub of_inodes : ShellKind → (List ℕ → Option FileAsk) → List ℕ → Option FileAsk
of_inodes Inode form bs = form bs
of_inodes Chain form bs = None

-- ---- bodies

-- how the bytes after each code are read
abbrev pub forms : ShellKind → List (ℕ × (List ℕ → Option FileAsk))
forms kind = (1, make_of) ∷ (2, put_of) ∷ (3, append_of) ∷ (4, cat_of) ∷ (5, ls_of)
    ∷ (6, of_inodes kind make_dir_of) ∷ (7, rm_of) ∷ (8, of_inodes kind copy_of) ∷ (9, df_of)
    ∷ (16, size_of) ∷ (17, read_of) ∷ (18, next_of) ∷ []

unfoldable pub coded : ShellKind → ℕ → List ℕ → Option FileAsk
coded kind code bs = dispatch (forms kind) code bs

unfoldable pub asked : ShellKind → List ℕ → Option FileAsk
asked kind [] = None
asked kind (b ∷ bs) = coded kind b bs

-- the ask of a body, Bad where it isn't one
unfoldable pub file_ask_of : ShellKind → List ℕ → FileAsk
file_ask_of kind body = unwrap_or (asked kind body) (file.Shell ask.Bad)
