-- What a new file is made of, and when its blocks can be shared.
use Rattle.std.specs.Prelude.{◌≡◌, ℕ, ◌+◌, ◌*◌, ◌/◌, ◌<◌, ◌≤◌, List, ◌++◌, length, IsTrue}
use Rattle.std.specs.Int.{div_ceil}
use Rattle.tsd_model.specs.Geometry.{block_len}
use Rattle.tsd_model.specs.World.{World, has_number, are_apart}
use Rattle.fs_trees.specs.Fields.{numbers}
use Rattle.fs_trees.specs.Inode.{data_room}
use Rattle.fs_trees.specs.Outside.{is_under}
use Rattle.fs_port.specs.View.{DiskView}
use Rattle.fs_client.specs.declared.client.Client.{Client}
use Rattle.fs_client.specs.May.{MayWrite}
use Rattle.inode_changes.specs.declared.content.Content.{Content}

-- how many blocks it shares, and which: a number has four bytes
abbrev pub shared_count : Content → ℕ
shared_count content = length content.shared.now / 4

abbrev pub shared_of : Content → List ℕ
shared_of content = numbers (shared_count content) content.shared.now

-- the bytes of the new blocks, and how many these are
abbrev pub new_bytes : Content → List ℕ
new_bytes content = content.front.now ++ content.bytes.now

abbrev pub new_count : Content → ℕ
new_count content = div_ceil (length (new_bytes content)) content.block_len

-- shared and new ones
abbrev pub all_count : Content → ℕ
all_count content = shared_count content + new_count content

-- The numbers are whole, less than a block of bytes stands in front, and an inode has room for all.
pub record FitsInode (content : Content) : Type 0 where
  pub whole : length content.shared.now ≡ 4 * shared_count content
  pub front : length content.front.now < content.block_len
  pub few : length content.bytes.now ≤ 4096
  pub most : content.block_len ≤ 4096
  pub room : all_count content ≤ data_room content.block_len

-- a block may be pointed to: it may be written, and isn't primary
pub record MayShare (c : Client) (v : DiskView) (b : ℕ) : Type 0 where
  pub may : MayWrite c v b
  pub apart : v.world.geometry.primaries ≤ b

-- The content of a file on this disk: the size takes as many blocks and no more bytes, and the shared blocks may be
-- pointed to, none twice.
pub record IsFor (c : Client) (v : DiskView) (content : Content) : Type 0 where
  pub len : content.block_len ≡ block_len v.world.geometry
  pub count : all_count content ≡ div_ceil content.size content.block_len
  pub size : content.size ≤ content.block_len * shared_count content + length (new_bytes content)
  pub apart : IsTrue (are_apart (shared_of content))
  pub may : (b : ℕ) → IsTrue (has_number (shared_of content) b) → MayShare c v b

-- the root reaches each of these
abbrev pub RootReaches : ℕ → World → List ℕ → Type 0
RootReaches root w blocks = (b : ℕ) → IsTrue (has_number blocks b) → IsTrue (is_under w root b)
