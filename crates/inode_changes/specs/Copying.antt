-- A file that is to be copied, the lookup for the copy, and what that is made of.
use Rattle.std.specs.Prelude.{◌≡◌, ◌*◌, ◌<◌, [], length, take, Option, None, IsTrue}
use Rattle.fs_trees.specs.Names.{Path, is_path}
use Rattle.fs_trees.specs.Tree.{is_there}
use Rattle.fs_trees.specs.declared.refusal.FsRefusal.{FsRefusal}
use Rattle.fs_trees.specs.declared.refusal.FsRefusal.TheVariants as no
use Rattle.fs_port.specs.View.{DiskView}
use Rattle.fs_client.specs.declared.client.Client.{Client}
use Rattle.inode_layout.specs.declared.inode.Inode.{Inode}
use Rattle.inode_layout.specs.Block.{inode_of, block_len_of, body_of}
use Rattle.inode_layout.specs.Said.{amount_said, blocks_said}
use Rattle.inode_walks.specs.declared.finding.Found.{Found}
use Rattle.inode_walks.specs.declared.finding.Lookup.{Lookup}
use Rattle.inode_walks.specs.Asking.{tree_under}
use Rattle.inode_walks.specs.Finding.{StandsAtPath, IsLookup, no_file_found}
use Rattle.fs_client.specs.Changing.{lookup_refusal}
use Rattle.inode_changes.specs.declared.content.Content.{Content}

-- What stands at a path, and a lookup that found nothing, as they were read: nothing on either way refuses an ask
-- there.
pub record Copies (c : Client) (v : DiskView) (path : Path) (file : Found) (new : Path) (lookup : Lookup) : Type 0 where
  pub there : IsTrue (is_there (tree_under c v))
  pub primary : c.root < v.world.geometry.primaries
  pub found : StandsAtPath c v path file
  pub way : ◌≡◌ {A = Option FsRefusal} (no_file_found (tree_under c v) path) None
  pub new_is : IsTrue (is_path new)
  pub new_place : IsLookup c v new lookup
  pub vacant : lookup.old ≡ None
  pub new_way : ◌≡◌ {A = Option FsRefusal} (lookup_refusal (tree_under c v) new no.Exists) None

-- The new file shares all blocks of the old one: their numbers are those behind its head.
pub record IsCopied (inode : Inode) (content : Content) : Type 0 where
  pub len : content.block_len ≡ block_len_of inode
  pub size : content.size ≡ amount_said (inode_of inode)
  pub shared : content.shared.now ≡ take (4 * length (blocks_said (inode_of inode))) (body_of inode)
  pub before : content.front.now ≡ []
  pub added : content.bytes.now ≡ []
