-- What is marked.
use Rattle.std.specs.Prelude.{◌≡◌, ℕ, ◌<◌, ◌==◌, ◌||◌, ◌&&◌, Bool}
use Rattle.fs_client.specs.Marked.{has_block, HasNone, Gains}
use Rattle.inode_fs.specs.declared.marks.Marks.{Marks}

abbrev pub is_inode : Marks → ℕ → Bool
is_inode m b = has_block m.inodes b

abbrev pub is_data_block : Marks → ℕ → Bool
is_data_block m b = has_block m.data_blocks b

abbrev pub has_leftovers : Marks → ℕ → Bool
has_leftovers m b = has_block m.with_leftovers b

pub record NoMarks (m : Marks) : Type 0 where
  pub inodes : HasNone m.inodes
  pub bytes : HasNone m.data_blocks
  pub leftovers : HasNone m.with_leftovers

-- a block of a disk is marked as an inode, and as one with leftovers where it has some
pub record MarksInode (old new : Marks) (b : ℕ) (others : Bool) : Type 0 where
  pub inodes : Gains old.inodes new.inodes b
  pub bytes : (a : ℕ) → is_data_block new a ≡ is_data_block old a
  pub leftovers : b < 1048576 → (a : ℕ) → has_leftovers new a ≡ (((b == a) && others) || has_leftovers old a)

-- the same of a block of bytes
pub record MarksData (old new : Marks) (b : ℕ) (others : Bool) : Type 0 where
  pub inodes : (a : ℕ) → is_inode new a ≡ is_inode old a
  pub bytes : Gains old.data_blocks new.data_blocks b
  pub leftovers : b < 1048576 → (a : ℕ) → has_leftovers new a ≡ (((b == a) && others) || has_leftovers old a)
