-- Worked refusals: of two that apply the earlier is answered, by computing.
use Rattle.std.specs.Prelude.{◌≡◌, ℕ, zero, suc, ⊤, true, false, List, [], ◌∷◌, refl, codes}
use Rattle.tsd_model.specs.declared.geometry.Geometry.{Geometry}
use Rattle.fs_trees.specs.Names.{Name, Path, is_name, is_path, name_lt}
use Rattle.fs_trees.specs.Tree.{Entries, none, file, dir, nothing, a_dir, Tree}
use Rattle.fs_trees.specs.Answer.{Answer, done, bad, available, refused}
use Rattle.fs_trees.specs.Needs.{inode_need}
use Rattle.fs_trees.specs.Step.{tree_step}
use Rattle.fs_trees.specs.declared.ask.ShellAsk.{ShellAsk}
use Rattle.fs_trees.specs.declared.ask.ShellAsk.TheVariants as ask
use Rattle.fs_trees.specs.declared.ask.ShellKind.TheVariants.{Inode}
use Rattle.fs_trees.specs.declared.refusal.FsRefusal.TheVariants as no

abbrev small : Geometry
small = record { sectors = 1; blocks = 8; primaries = 1; slots = 32 }

abbrev a : Name
a = codes "a"

abbrev d : Name
d = codes "d"

abbrev e : Name
e = codes "e"

abbrev z : Name
z = codes "z"

-- fifteen files from the letter a on fill a directory
abbrev letters : ℕ → ℕ → Entries ⊤ (List ℕ)
letters letter zero = none
letters letter (suc n) = file (letter ∷ []) [] (letters (suc letter) n)

abbrev full : Tree
full = a_dir tt (letters 97 15)

-- a file /a, a directory /d with a file /d/a, and a directory /e without entries
abbrev tree : Tree
tree = a_dir tt (file a (1 ∷ []) (dir d tt (file a [] none) (dir e tt none none)))

-- what is answered over inodes, at so many free blocks and pairs
abbrev answer_of : Tree → ShellAsk → ℕ → ℕ → Answer
answer_of t what free held = (tree_step Inode small t what free held (inode_need small t what)).answer

-- with room for everything
abbrev answer : ShellAsk → Answer
answer what = answer_of tree what 7 0

-- where nothing is mounted, that is said of all but a new tree, the count and a bad line
pub nothing_is_mounted :
    answer_of nothing (ask.Put (a ∷ z ∷ []) (1 ∷ [])) 0 32
    ∷ answer_of nothing (ask.Append (a ∷ []) []) 0 32
    ∷ answer_of nothing (ask.Cat []) 0 32
    ∷ answer_of nothing (ask.Ls []) 0 32
    ∷ answer_of nothing (ask.MakeDir []) 0 32
    ∷ answer_of nothing (ask.Rm []) 0 32
    ∷ answer_of nothing (ask.Copy [] []) 0 32
    ∷ answer_of nothing ask.Make 0 32
    ∷ answer_of nothing ask.Df 3 32
    ∷ answer_of nothing ask.Bad 0 32
    ∷ []
    ≡ refused no.NotThisFs
    ∷ refused no.NotThisFs
    ∷ refused no.NotThisFs
    ∷ refused no.NotThisFs
    ∷ refused no.NotThisFs
    ∷ refused no.NotThisFs
    ∷ refused no.NotThisFs
    ∷ done
    ∷ available 3
    ∷ bad
    ∷ []
nothing_is_mounted = refl

-- the first name on the way that is no directory decides
pub a_way_is_walked_from_its_first_name :
    answer (ask.Put (a ∷ z ∷ []) [])
    ∷ answer (ask.Put (a ∷ z ∷ z ∷ []) [])
    ∷ answer (ask.Put (z ∷ a ∷ []) [])
    ∷ answer (ask.Put (d ∷ a ∷ z ∷ []) [])
    ∷ answer (ask.Put (d ∷ z ∷ a ∷ []) [])
    ∷ answer (ask.Ls (a ∷ []))
    ∷ answer (ask.Ls (z ∷ []))
    ∷ answer (ask.Cat (z ∷ []))
    ∷ answer (ask.Append (z ∷ []) [])
    ∷ answer (ask.Rm (z ∷ []))
    ∷ answer (ask.Copy (z ∷ []) (z ∷ []))
    ∷ []
    ≡ refused no.NotDir
    ∷ refused no.NotDir
    ∷ refused no.NoEntry
    ∷ refused no.NotDir
    ∷ refused no.NoEntry
    ∷ refused no.NotDir
    ∷ refused no.NoEntry
    ∷ refused no.NoEntry
    ∷ refused no.NoEntry
    ∷ refused no.NoEntry
    ∷ refused no.NoEntry
    ∷ []
a_way_is_walked_from_its_first_name = refl

pub a_file_is_wanted :
    answer (ask.Put (d ∷ []) [])
    ∷ answer (ask.Put [] [])
    ∷ answer (ask.Append (d ∷ []) [])
    ∷ answer (ask.Cat (d ∷ []))
    ∷ answer (ask.Cat [])
    ∷ answer (ask.Copy (d ∷ []) (z ∷ []))
    ∷ answer (ask.Rm [])
    ∷ []
    ≡ refused no.IsDir
    ∷ refused no.IsDir
    ∷ refused no.IsDir
    ∷ refused no.IsDir
    ∷ refused no.IsDir
    ∷ refused no.IsDir
    ∷ refused no.IsDir
    ∷ []
a_file_is_wanted = refl

pub a_new_name_is_wanted :
    answer (ask.MakeDir (a ∷ []))
    ∷ answer (ask.MakeDir (d ∷ []))
    ∷ answer (ask.MakeDir [])
    ∷ answer (ask.Copy (a ∷ []) (d ∷ []))
    ∷ answer (ask.Copy (a ∷ []) (a ∷ []))
    ∷ answer (ask.Copy (a ∷ []) [])
    ∷ answer_of full (ask.MakeDir (a ∷ [])) 0 32
    ∷ []
    ≡ refused no.Exists
    ∷ refused no.Exists
    ∷ refused no.Exists
    ∷ refused no.Exists
    ∷ refused no.Exists
    ∷ refused no.Exists
    ∷ refused no.Exists
    ∷ []
a_new_name_is_wanted = refl

-- of a copy the first path is tried to its end, and then the second
pub a_copy_is_tried_from_its_first_path :
    answer (ask.Copy (z ∷ []) (a ∷ z ∷ []))
    ∷ answer (ask.Copy (d ∷ []) (a ∷ z ∷ []))
    ∷ answer (ask.Copy (d ∷ []) (a ∷ []))
    ∷ answer (ask.Copy (a ∷ []) (a ∷ z ∷ []))
    ∷ answer (ask.Copy (a ∷ []) (z ∷ z ∷ []))
    ∷ answer (ask.Copy (a ∷ []) (d ∷ z ∷ []))
    ∷ []
    ≡ refused no.NoEntry
    ∷ refused no.IsDir
    ∷ refused no.IsDir
    ∷ refused no.NotDir
    ∷ refused no.NoEntry
    ∷ done
    ∷ []
a_copy_is_tried_from_its_first_path = refl

pub what_has_entries_stays : answer (ask.Rm (d ∷ [])) ∷ answer (ask.Rm (e ∷ [])) ∷ answer (ask.Rm (d ∷ a ∷ [])) ∷ answer (ask.Rm (a ∷ [])) ∷ []
    ≡ refused no.NotEmpty ∷ done ∷ done ∷ done ∷ []
what_has_entries_stays = refl

-- a full directory is told before want of room, and want of blocks before want of pointers
pub room_comes_last :
    answer_of full (ask.Put (z ∷ []) (1 ∷ [])) 0 32
    ∷ answer_of full (ask.MakeDir (z ∷ [])) 0 32
    ∷ answer_of full (ask.Copy (a ∷ []) (z ∷ [])) 0 32
    ∷ answer_of tree (ask.Put (a ∷ []) (1 ∷ [])) 1 31
    ∷ answer_of tree (ask.Put (a ∷ []) (1 ∷ [])) 2 31
    ∷ answer_of tree (ask.Append (a ∷ []) []) 0 32
    ∷ answer_of tree (ask.Append (a ∷ []) (1 ∷ [])) 1 32
    ∷ answer_of tree (ask.Copy (a ∷ []) (z ∷ [])) 1 31
    ∷ []
    ≡ refused no.DirFull
    ∷ refused no.DirFull
    ∷ refused no.DirFull
    ∷ refused (no.Full 1 2)
    ∷ refused (no.PointersFull 31 32)
    ∷ done
    ∷ refused (no.Full 1 2)
    ∷ refused (no.PointersFull 31 32)
    ∷ []
room_comes_last = refl

-- ---- names

abbrev long : ℕ → Name
long zero = []
long (suc n) = 97 ∷ long n

pub names_and_others :
    is_name [] ∷ is_name (long 28) ∷ is_name (long 29) ∷ is_name (codes ".") ∷ is_name (codes "..") ∷ is_name (codes "-") ∷ is_name (codes "...") ∷ is_name (codes "--") ∷ is_name (codes "Az09._-") ∷ is_name (codes "a b") ∷ is_name (codes "a/b") ∷ []
    ≡ false ∷ true ∷ false ∷ false ∷ false ∷ false ∷ true ∷ true ∷ true ∷ false ∷ false ∷ []
names_and_others = refl

abbrev deep : ℕ → Path
deep zero = []
deep (suc n) = a ∷ deep n

pub paths_and_others : is_path [] ∷ is_path (deep 16) ∷ is_path (deep 17) ∷ is_path (a ∷ [] ∷ []) ∷ [] ≡ true ∷ true ∷ false ∷ false ∷ []
paths_and_others = refl

-- a name stands before those that it begins, and capitals before small letters
pub the_order_of_names : name_lt (codes "a") (codes "ab") ∷ name_lt (codes "ab") (codes "a") ∷ name_lt (codes "B") (codes "a") ∷ name_lt (codes "a") (codes "a") ∷ [] ≡ true ∷ false ∷ true ∷ false ∷ []
the_order_of_names = refl
