-- The file system of inodes, as contracts see it.
use Rattle.std.specs.Prelude.{ℕ, false}
use Rattle.tsd_model.specs.declared.caps.Cap.{Cap}
use Rattle.fs_trees.specs.declared.ask.ShellKind.TheVariants.{Inode}
use Rattle.tsd_model.specs.Step.{State}
use Rattle.fs_trees.specs.Names.{Path}
use Rattle.fs_port.specs.Files.{FilesView}
use Rattle.fs_walks.specs.declared.place.Place.{Place}
use Rattle.inode_fs.specs.declared.file_system.InodeFs.{InodeFs}

abbrev pub inode_view : InodeFs → FilesView
inode_view f = record {
  kind = Inode;
  root = f.client.root;
  cap = f.client.cap;
  session = f.client.session;
  mounted = f.mounted;
}

-- at first nothing is mounted
abbrev pub new_view : ℕ → Cap → ℕ → FilesView
new_view root cap session = record { kind = Inode; root = root; cap = cap; session = session; mounted = false }

-- any place will do, since none is needed
abbrev pub leads_at : FilesView → State → Path → ℕ → Place → Type 0
leads_at f st path start p = Unit {0}
