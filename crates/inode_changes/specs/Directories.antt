-- A directory that is made at a path.
use Rattle.std.specs.Prelude.{◌≡◌, ◌<◌, Option, None, IsTrue}
use Rattle.fs_trees.specs.Names.{Path, is_path}
use Rattle.fs_trees.specs.Tree.{is_there}
use Rattle.fs_trees.specs.declared.refusal.FsRefusal.{FsRefusal}
use Rattle.fs_trees.specs.declared.refusal.FsRefusal.TheVariants as no
use Rattle.fs_port.specs.View.{DiskView}
use Rattle.fs_client.specs.declared.client.Client.{Client}
use Rattle.inode_walks.specs.declared.finding.Lookup.{Lookup}
use Rattle.inode_walks.specs.Asking.{tree_under}
use Rattle.inode_walks.specs.Finding.{IsLookup}
use Rattle.fs_client.specs.Changing.{lookup_refusal}

-- The lookup of a path as it was found: nothing stands there, and nothing on the way refuses a directory there.
pub record IsVacant (c : Client) (v : DiskView) (path : Path) (lookup : Lookup) : Type 0 where
  pub primary : c.root < v.world.geometry.primaries
  pub there : IsTrue (is_there (tree_under c v))
  pub path_is : IsTrue (is_path path)
  pub found : IsLookup c v path lookup
  pub vacant : lookup.old ≡ None
  pub way : ◌≡◌ {A = Option FsRefusal} (lookup_refusal (tree_under c v) path no.Exists) None
