-- The file system of chains, as contracts see it.
use Rattle.std.specs.Prelude.{ℕ, false}
use Rattle.tsd_model.specs.declared.caps.Cap.{Cap}
use Rattle.fs_trees.specs.declared.ask.ShellKind.TheVariants.{Chain}
use Rattle.tsd_model.specs.Step.{State}
use Rattle.fs_trees.specs.Names.{Path}
use Rattle.fs_port.specs.Files.{FilesView}
use Rattle.fs_walks.specs.declared.place.Place.{Place}
use Rattle.fs_client.specs.declared.client.Client.{Client}
use Rattle.chain_reading.specs.Places.{Leads}
use Rattle.chain_fs.specs.declared.file_system.ChainFs.{ChainFs}

abbrev pub chain_view : ChainFs → FilesView
chain_view f = record {
  kind = Chain;
  root = f.client.root;
  cap = f.client.cap;
  session = f.client.session;
  mounted = f.mounted;
}

-- at first nothing is mounted
abbrev pub new_view : ℕ → Cap → ℕ → FilesView
new_view root cap session = record { kind = Chain; root = root; cap = cap; session = session; mounted = false }

-- who asks, by the view of the file system
abbrev pub asks_as : FilesView → Client
asks_as f = record { root = f.root; cap = f.cap; session = f.session }

-- The place leads to the bytes of the file at a path from an offset on.
abbrev pub leads_at : FilesView → State → Path → ℕ → Place → Type 0
leads_at f st path start p = Leads (asks_as f) st path start p
