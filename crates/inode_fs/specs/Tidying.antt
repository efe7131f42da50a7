-- A tree whose marked blocks let go of what they don't name.
use Rattle.std.specs.Prelude.{◌≡◌}
use Rattle.fs_trees.specs.Layouts.{Named, named_at}
use Rattle.fs_trees.specs.declared.ask.ShellKind.TheVariants as kind
use Rattle.fs_port.specs.View.{DiskView}
use Rattle.fs_port.specs.Calls.{IsValidNow}
use Rattle.fs_port.specs.Files.{IsClientReady}
use Rattle.fs_client.specs.declared.client.Client.{Client}
use Rattle.inode_walks.specs.Asking.{mounted_by}
use Rattle.inode_fs.specs.declared.marks.Marks.{Marks}
use Rattle.inode_fs.specs.Looking.{Noted, MarksTree}

-- before blocks are tidied: exactly what the tree names is marked, and that is to be kept
pub record MayTidy (told : Type 0) (c : Client) (n : Named) (v : DiskView) (m : Marks) : Type 0 where
  pub ready : IsClientReady (mounted_by c) v
  pub valid : told → IsValidNow v
  pub named : told → n ≡ named_at kind.Inode v.world c.root
  pub marked : told → MarksTree v.world c.root m
  pub noted : told → Noted c v m
