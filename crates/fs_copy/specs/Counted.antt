-- How many files a tree has, and how many bytes are in them.
use Rattle.std.specs.Prelude.{◌≡◌, ℕ, suc, ◌+◌, ◌-◌, ◌^◌, min, List, length, ⊤}
use Rattle.fs_trees.specs.Tree.{Entries, none, file, dir, nothing, a_file, a_dir, Tree}
use Rattle.fs_copy.specs.declared.copied.Copied.{Copied}

abbrev pub file_count : Entries ⊤ (List ℕ) → ℕ
file_count none = 0
file_count (file n x rest) = suc (file_count rest)
file_count (dir n d inside rest) = file_count inside + file_count rest

abbrev pub byte_count : Entries ⊤ (List ℕ) → ℕ
byte_count none = 0
byte_count (file n x rest) = length x + byte_count rest
byte_count (dir n d inside rest) = byte_count inside + byte_count rest

abbrev pub total_files : Tree → ℕ
total_files nothing = 0
total_files (a_file x) = 1
total_files (a_dir d es) = file_count es

abbrev pub total_bytes : Tree → ℕ
total_bytes nothing = 0
total_bytes (a_file x) = length x
total_bytes (a_dir d es) = byte_count es

-- a count stands still at the greatest number of 64 bits
abbrev pub capped : ℕ → ℕ
capped n = min n (2 ^ 64 - 1)

-- the files, and the bytes in them
pub record IsCount (t : Tree) (c : Copied) : Type 0 where
  pub files : c.files ≡ capped (total_files t)
  pub bytes : c.bytes ≡ capped (total_bytes t)
