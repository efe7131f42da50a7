-- A worked session from line to line: how a line is read, what it does to a tree, and the text of the answer, by computing.
use Rattle.std.specs.Prelude.{◌≡◌, ℕ, ◌-◌, List, [], ◌∷◌, ◌++◌, length, refl, replicate, map, codes, Some, None}
use Rattle.std.specs.Fmt.{digits}
use Rattle.hex.specs.Hex.{encode_with, decode_pairs}
use Rattle.tsd_model.specs.World.{World}
use Rattle.tsd_model.specs.Step.{filled}
use Rattle.tsd_model.specs.Run.{fresh_world}
use Rattle.fs_trees.specs.Names.{Name}
use Rattle.fs_trees.specs.Inode.{directory, regular, inode_bytes}
use Rattle.fs_trees.specs.Cluster.{directory_bytes}
use Rattle.fs_trees.specs.Layouts.{step_at}
use Rattle.fs_trees.specs.declared.ask.ShellKind.{ShellKind}
use Rattle.fs_trees.specs.declared.ask.ShellKind.TheVariants.{Inode, Chain}
use Rattle.shell_text.specs.Reading.{put_of, append_of, cat_of, ls_of, rm_of, make_dir_of, copy_of, named, asked, ask_of}
use Rattle.shell_text.specs.Texts.{answer_text}

-- eight blocks of 512 bytes, of which one is primary: these are live, from the first on, and these pairs
abbrev laid : List (List ℕ) → List (ℕ × ℕ) → World
laid xs es = record (fresh_world (record { sectors = 1; blocks = 8; primaries = 1; slots = 32 }) []) { blocks = map (λ x. Some (filled 512 x)) xs ++ replicate (8 - length xs) None; pairs = es }

abbrev names_of : List (ℕ × Name) → List ℕ
names_of es = inode_bytes (directory (map (λ e. record { block = e.0; name = e.1 }) es))

abbrev of_two_bytes : List ℕ
of_two_bytes = inode_bytes (regular 2 (2 ∷ []))

-- the world after `mkfs`, and after each further line that changes it
abbrev fresh : World
fresh = laid ([] ∷ []) []

abbrev made : World
made = laid (names_of [] ∷ []) []

abbrev put : World
put = laid (names_of ((1, codes "a") ∷ []) ∷ of_two_bytes ∷ codes "hi" ∷ []) ((0, 1) ∷ (1, 2) ∷ [])

abbrev with_docs : World
with_docs = laid (names_of ((1, codes "a") ∷ (3, codes "docs") ∷ []) ∷ of_two_bytes ∷ codes "hi" ∷ names_of [] ∷ []) ((0, 1) ∷ (0, 3) ∷ (1, 2) ∷ [])

abbrev copied : World
copied = laid (names_of ((1, codes "a") ∷ (3, codes "docs") ∷ []) ∷ of_two_bytes ∷ codes "hi" ∷ names_of ((4, codes "b") ∷ []) ∷ of_two_bytes ∷ []) ((0, 1) ∷ (0, 3) ∷ (1, 2) ∷ (3, 4) ∷ (4, 2) ∷ [])

-- the line that answers a line
abbrev answer_to : ShellKind → World → List ℕ → List ℕ
answer_to kind w line = answer_text (step_at kind w 0 (ask_of kind line)).answer

pub a_session_over_inodes :
    answer_to Inode fresh (codes "cat /a")
    ∷ answer_to Inode fresh (codes "mkfs")
    ∷ answer_to Inode made (codes "put /a 6869")
    ∷ answer_to Inode put (codes "cat /a")
    ∷ answer_to Inode put (codes "mkdir /docs")
    ∷ answer_to Inode with_docs (codes "cp /a /docs/b")
    ∷ answer_to Inode copied (codes "ls /")
    ∷ answer_to Inode copied (codes "rm /docs")
    ∷ answer_to Inode copied (codes "cat /docs")
    ∷ answer_to Inode copied (codes "put /a/b -")
    ∷ answer_to Inode copied (codes "df")
    ∷ []
    ≡ codes "no not-this-fs"
    ∷ codes "ok"
    ∷ codes "ok"
    ∷ codes "data 6869"
    ∷ codes "ok"
    ∷ codes "ok"
    ∷ codes "names a docs"
    ∷ codes "no not-empty"
    ∷ codes "no is-dir"
    ∷ codes "no not-dir"
    ∷ codes "free 3"
    ∷ []
unfolding ask_of asked named put_of append_of cat_of ls_of rm_of make_dir_of copy_of digits encode_with decode_pairs
a_session_over_inodes = refl

-- what is an ask of inodes alone is a bad line over chains
pub lines_over_chains : answer_to Chain (laid (directory_bytes None [] ∷ []) []) (codes "mkdir /b") ∷ answer_to Chain (laid (directory_bytes None [] ∷ []) []) (codes "ls /") ∷ answer_to Inode fresh (codes "mkdir  /b") ∷ []
    ≡ codes "no bad-request" ∷ codes "names -" ∷ codes "no bad-request" ∷ []
unfolding ask_of asked named put_of append_of cat_of ls_of rm_of make_dir_of copy_of
lines_over_chains = refl
