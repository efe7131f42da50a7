-- Bodies of frames and what they ask, by computing.
use Rattle.std.specs.Prelude.{◌≡◌, ℕ, List, [], ◌∷◌, ◌++◌, refl, map, codes}
use Rattle.request_frames.specs.Reading.{num_of}
use Rattle.fs_trees.specs.declared.ask.ShellAsk.TheVariants as ask
use Rattle.fs_trees.specs.declared.ask.ShellKind.TheVariants.{Inode, Chain}
use Rattle.shell_text.specs.declared.file_ask.FileAsk.TheVariants as file
use Rattle.shell_text.specs.FileReading.{start_of, name_at, after_at, put_of, cat_of, make_dir_of, size_of, read_of, next_of, coded, asked, file_ask_of}

-- `/a/b`, as a path stands in a body
abbrev a_b : List ℕ
a_b = 2 ∷ 1 ∷ 97 ∷ 1 ∷ 98 ∷ []

pub bodies_over_inodes : map (file_ask_of Inode) (
    (1 ∷ [])
    ∷ (2 ∷ a_b ++ codes "hi")
    ∷ (16 ∷ 0 ∷ [])
    ∷ (17 ∷ a_b ++ 1 ∷ 2 ∷ 0 ∷ 0 ∷ 0 ∷ 0 ∷ 0 ∷ 0 ∷ 3 ∷ 0 ∷ 0 ∷ 0 ∷ [])
    ∷ (18 ∷ 0 ∷ 0 ∷ [])
    ∷ (18 ∷ 0 ∷ 1 ∷ 97 ∷ [])
    ∷ [])
    ≡ file.Shell ask.Make
    ∷ file.Shell (ask.Put (codes "a" ∷ codes "b" ∷ []) (codes "hi"))
    ∷ file.Size []
    ∷ file.Read (codes "a" ∷ codes "b" ∷ []) 513 3
    ∷ file.Next [] []
    ∷ file.Next [] (codes "a")
    ∷ []
unfolding file_ask_of asked coded put_of size_of read_of next_of name_at after_at start_of num_of
bodies_over_inodes = refl

-- a byte behind the last field, a name that is none, too few bytes, no code, and what chains have not ask nothing
pub bodies_that_ask_nothing : map (file_ask_of Chain) ((9 ∷ 0 ∷ []) ∷ (4 ∷ 1 ∷ 1 ∷ 47 ∷ []) ∷ (4 ∷ 1 ∷ 2 ∷ 97 ∷ []) ∷ (10 ∷ []) ∷ [] ∷ (6 ∷ a_b) ∷ [])
    ≡ file.Shell ask.Bad ∷ file.Shell ask.Bad ∷ file.Shell ask.Bad ∷ file.Shell ask.Bad ∷ file.Shell ask.Bad ∷ file.Shell ask.Bad ∷ []
unfolding file_ask_of asked coded cat_of make_dir_of name_at
bodies_that_ask_nothing = refl
