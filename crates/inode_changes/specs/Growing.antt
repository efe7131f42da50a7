-- A file that bytes are to be added to, and the file that it becomes.
use Rattle.std.specs.Prelude.{◌≡◌, ℕ, ◌+◌, ◌*◌, ◌/◌, List, length, take, Option, Some, None}
use Rattle.fs_trees.specs.Names.{Path}
use Rattle.fs_trees.specs.declared.refusal.FsRefusal.{FsRefusal}
use Rattle.fs_trees.specs.declared.refusal.FsRefusal.TheVariants as no
use Rattle.fs_port.specs.View.{DiskView}
use Rattle.fs_client.specs.declared.client.Client.{Client}
use Rattle.fs_client.specs.May.{MayWrite}
use Rattle.inode_layout.specs.declared.inode.Inode.{Inode}
use Rattle.inode_layout.specs.Block.{inode_of, block_len_of, body_of}
use Rattle.inode_layout.specs.Said.{amount_said}
use Rattle.inode_walks.specs.declared.finding.Found.{Found}
use Rattle.inode_walks.specs.declared.finding.Lookup.{Lookup}
use Rattle.inode_walks.specs.Asking.{tree_under}
use Rattle.inode_walks.specs.Finding.{StandsAtPath}
use Rattle.fs_client.specs.Changing.{lookup_refusal}
use Rattle.inode_changes.specs.declared.content.Content.{Content}
use Rattle.inode_changes.specs.Entering.{Grounds}

-- What stands at a path and the entry that names it, as they were read: nothing on the way refuses an ask there.
pub record Grows (c : Client) (v : DiskView) (path : Path) (lookup : Lookup) (file : Found) : Type 0 where
  pub grounds : Grounds c.root v.world path lookup
  pub may : MayWrite c v lookup.directory.block
  pub found : StandsAtPath c v path file
  pub old : lookup.old ≡ Some file.block
  pub way : ◌≡◌ {A = Option FsRefusal} (lookup_refusal (tree_under c v) path no.IsDir) None

-- The new file shares the blocks of the old one that are full: their numbers are the first of those behind the old
-- one's head. The bytes of the old one that are behind them stand in front of those that are added.
pub record IsGrownFile (inode : Inode) (front bytes : List ℕ) (content : Content) : Type 0 where
  pub len : content.block_len ≡ block_len_of inode
  pub size : content.size ≡ amount_said (inode_of inode) + length bytes
  pub shared : content.shared.now ≡ take (4 * (amount_said (inode_of inode) / block_len_of inode)) (body_of inode)
  pub before : content.front.now ≡ front
  pub added : content.bytes.now ≡ bytes
