-- What an inode's block says, in two steps: its head and what that counts, and whether this is in order.
use Rattle.std.specs.Prelude.{◌≡◌, ℕ, ◌^◌, ◌<◌, ◌≤◌, ◌==◌, Bool, true, false, ◌&&◌, nat_lt, nat_le, List, [], ◌++◌}
use Rattle.std.specs.Prelude.{length, map, drop, find, Option, Some, None, IsTrue}
use Rattle.std.specs.List.{list_all}
use Rattle.std.specs.Int.{div_ceil}
use Rattle.std.specs.Option.{option_or, option_and_then}
use Rattle.byteorder.specs.Endian.{little_number, little_bytes}
use Rattle.fs_trees.specs.Names.{Name, name_lt, are_ascending}
use Rattle.fs_trees.specs.Fields.{only_if, begins_with, numbers, Entry, entries, entry_names, all_named}
use Rattle.tsd_model.specs.World.{are_apart}
use Rattle.fs_trees.specs.Inode.{Inode, directory, regular, magic, entries_room, data_room, block_named}
use Rattle.fs_trees.specs.Inode.{inode_in, inode_bytes}

-- kind 1, with room for so many entries
abbrev pub directory_said : ℕ → ℕ → ℕ → List ℕ → Option Inode
directory_said len kind amount body =
    only_if (kind == 1 && nat_le amount (entries_room len)) (λ _. Some (directory (entries amount body)))

-- kind 2, with room for the blocks of so many bytes
abbrev pub file_said : ℕ → ℕ → ℕ → List ℕ → Option Inode
file_said len kind amount body =
    only_if (kind == 2 && nat_le (div_ceil amount len) (data_room len))
    (λ _. Some (regular amount (numbers (div_ceil amount len) body)))

abbrev pub of_kind_said : ℕ → ℕ → ℕ → List ℕ → Option Inode
of_kind_said len kind amount body = option_or (directory_said len kind amount body) (file_said len kind amount body)

-- what the block says by its head, in whatever order its list is
abbrev pub said_in : ℕ → List ℕ → Option Inode
said_in len x =
    only_if (begins_with magic x) (λ _. of_kind_said len (little_number 4 (drop 8 x)) (little_number 4 (drop 12 x))
    (drop 16 x))

-- the names are names and ascend, and no block of a file stands twice
abbrev pub is_in_order : Inode → Bool
is_in_order (directory es) = all_named es && are_ascending (entry_names es)
is_in_order (regular size blocks) = are_apart blocks

abbrev pub in_order : Inode → Option Inode
in_order i = only_if (is_in_order i) (λ _. Some i)

-- ---- what it names

abbrev pub blocks_said : Inode → List ℕ
blocks_said (directory es) = map (λ e. e.block) es
blocks_said (regular size blocks) = blocks

abbrev pub is_directory : Inode → Bool
is_directory (directory es) = true
is_directory (regular size blocks) = false

-- how many bytes an item of its list has
abbrev pub item_size : Inode → ℕ
item_size (directory es) = 32
item_size (regular size blocks) = 4

-- the number of entries, or the size
abbrev pub amount_said : Inode → ℕ
amount_said (directory es) = length es
amount_said (regular size blocks) = size

-- the block that a directory names so
abbrev pub entry_said : Name → Inode → Option ℕ
entry_said n (directory es) = block_named n es
entry_said n (regular size blocks) = None

-- the first name of a directory above another
abbrev pub next_said : Name → Inode → Option Name
next_said n (directory es) = find (name_lt n) (entry_names es)
next_said n (regular size blocks) = None

-- the entries of a directory
abbrev pub entries_said : Inode → List Entry
entries_said (directory es) = es
entries_said (regular size blocks) = []

-- ---- written

-- the 16 bytes before the list
abbrev pub head_bytes : ℕ → ℕ → List ℕ
head_bytes kind amount = magic ++ (little_bytes 4 kind ++ little_bytes 4 amount)

-- numbers of four bytes
abbrev pub are_small : List ℕ → Bool
are_small ns = list_all (λ n. nat_lt n (2 ^ 32)) ns

-- What a block of this length can say: there is room for the list, and each number has four bytes.
abbrev pub FitsBlock : ℕ → Inode → Type 0
FitsBlock len (directory es) = (length es ≤ entries_room len) × (length es < 2 ^ 32)
    × IsTrue (are_small (map (λ e. e.block) es))
FitsBlock len (regular size blocks) = (length blocks ≡ div_ceil size len) × (length blocks ≤ data_room len)
    × (size < 2 ^ 32) × IsTrue (are_small blocks)

-- What is written as an inode that is in order is read as that inode, whatever stands behind it in the block.
abbrev pub ReadsBack : Type 0
ReadsBack = (len : ℕ) (i : Inode) (rest : List ℕ) → FitsBlock len i → is_in_order i ≡ true
    → inode_in len (inode_bytes i ++ rest) ≡ Some i

-- A block is an inode exactly where its head is one's and what that counts is in order.
abbrev pub IsReadInTwoSteps : Type 0
IsReadInTwoSteps = (len : ℕ) (x : List ℕ) → inode_in len x ≡ option_and_then in_order (said_in len x)
