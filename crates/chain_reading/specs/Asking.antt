-- A client of the file system of chains, and what holds before each of its calls.
use Rattle.std.specs.Prelude.{true, IsTrue}
use Rattle.fs_trees.specs.Tree.{Tree, is_there}
use Rattle.fs_trees.specs.ChainTree.{chain_tree}
use Rattle.fs_trees.specs.declared.ask.ShellKind.TheVariants.{Chain}
use Rattle.fs_port.specs.View.{DiskView}
use Rattle.fs_port.specs.Calls.{IsValidNow}
use Rattle.fs_port.specs.Files.{FilesView, IsClientReady}
use Rattle.fs_client.specs.declared.client.Client.{Client}

-- the file system of a client, where a tree is mounted
abbrev pub mounted_by : Client → FilesView
mounted_by c = record { kind = Chain; root = c.root; cap = c.cap; session = c.session; mounted = true }

-- the tree under its root
abbrev pub tree_under : Client → DiskView → Tree
tree_under c v = chain_tree v.world c.root

-- before each call: the disk isn't spent and the client may write its root; where the disk tells, its world is valid,
-- and a tree is under the root
pub record MayAsk (told : Type 0) (c : Client) (v : DiskView) : Type 0 where
  pub ready : IsClientReady (mounted_by c) v
  pub valid : told → IsValidNow v
  pub tree : told → IsTrue (is_there (tree_under c v))
