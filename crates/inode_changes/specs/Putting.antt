-- A file that is put at a path.
use Rattle.std.specs.Prelude.{◌≡◌, ℕ, ◌<◌, false, List, [], length, Option, None, IsTrue}
use Rattle.fs_trees.specs.Names.{Path, is_path}
use Rattle.fs_trees.specs.Tree.{at, is_there, is_dir}
use Rattle.fs_trees.specs.declared.refusal.FsRefusal.{FsRefusal}
use Rattle.fs_trees.specs.declared.refusal.FsRefusal.TheVariants as no
use Rattle.fs_port.specs.View.{DiskView}
use Rattle.fs_client.specs.declared.client.Client.{Client}
use Rattle.inode_walks.specs.declared.finding.Lookup.{Lookup}
use Rattle.inode_walks.specs.Asking.{tree_under}
use Rattle.inode_walks.specs.Finding.{IsLookup}
use Rattle.fs_client.specs.Changing.{lookup_refusal}
use Rattle.inode_changes.specs.declared.content.Content.{Content}

-- The entry of a path as it was found: nothing on the way refuses an ask there, and no directory stands there.
pub record PutsFile (c : Client) (v : DiskView) (path : Path) (lookup : Lookup) : Type 0 where
  pub primary : c.root < v.world.geometry.primaries
  pub there : IsTrue (is_there (tree_under c v))
  pub path_is : IsTrue (is_path path)
  pub found : IsLookup c v path lookup
  pub way : ◌≡◌ {A = Option FsRefusal} (lookup_refusal (tree_under c v) path no.IsDir) None
  pub no_dir : is_dir (at (tree_under c v) path) ≡ false

-- a content of these bytes alone, in blocks of this length
pub record IsOf (x : List ℕ) (block_len : ℕ) (content : Content) : Type 0 where
  pub len : content.block_len ≡ block_len
  pub size : content.size ≡ length x
  pub shared : content.shared.now ≡ []
  pub front : content.front.now ≡ []
  pub bytes : content.bytes.now ≡ x
