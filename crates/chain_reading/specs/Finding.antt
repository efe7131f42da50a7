-- What a name is looked up as.
use Rattle.std.specs.Prelude.{◌≡◌, ℕ, ◌<◌, Bool, false, cond, nat_lt, List, [], ◌∷◌, ◌++◌, length, map, Option, Some}
use Rattle.std.specs.Prelude.{None}
use Rattle.std.specs.List.{list_any}
use Rattle.tsd_model.specs.Geometry.{block_len}
use Rattle.fs_trees.specs.Names.{Name, Path}
use Rattle.fs_trees.specs.Tree.{Tree, a_file, at}
use Rattle.fs_trees.specs.Fields.{Entry, entry_names}
use Rattle.fs_trees.specs.Cluster.{entries_room}
use Rattle.fs_trees.specs.ChainTree.{Link, ChainFile, chain_bytes, Chains, chains_under}
use Rattle.fs_trees.specs.Refusals.{first_of, lost_on_the_way, missing, no_file, no_dir}
use Rattle.fs_trees.specs.declared.refusal.FsRefusal.{FsRefusal}
use Rattle.fs_trees.specs.declared.refusal.FsRefusal.TheVariants as no
use Rattle.fs_laws.specs.Ways.{HoldsWrite}
use Rattle.fs_port.specs.View.{DiskView, state_of}
use Rattle.fs_client.specs.declared.client.Client.{Client}
use Rattle.fs_client.specs.May.{MayWrite}
use Rattle.chain_layout.specs.Block.{cluster_of, block_len_of}
use Rattle.chain_layout.specs.Held.{dir_cluster, entries_in}
use Rattle.chain_reading.specs.Chained.{PlacedEntry, AreEntries, AreOthers}
use Rattle.chain_reading.specs.Standing.{IsPage}
use Rattle.chain_reading.specs.Ahead.{IsFileAhead}
use Rattle.chain_reading.specs.Asking.{tree_under}
use Rattle.chain_reading.specs.declared.walking.Page.{Page}
use Rattle.chain_reading.specs.declared.finding.Lookup.{Lookup}
use Rattle.chain_reading.specs.declared.finding.Lookup.TheVariants.{Taken, Free}

abbrev pub placed_names : List PlacedEntry → List Name
placed_names ps = map (λ p. p.1.name) ps

-- a cluster that was read, as one of its chain
abbrev pub page_link : Page → Link
page_link page = record { block = page.block; cluster = cluster_of (dir_cluster page.cluster) }

-- the first entry of a name stands at this position, and names this block
pub record IsEntry (n : Name) (es : List Entry) (position first : ℕ) : Type 0 where
  pub front : List Entry
  pub entry : Entry
  pub back : List Entry
  pub parts : es ≡ front ++ (entry ∷ back)
  pub count : length front ≡ position
  pub name : entry.name ≡ n
  pub block : entry.block ≡ first
  pub others : AreOthers n (entry_names front)

-- it stands in a cluster of the directory, which the session may write, and in none before that
pub record IsLookupTaken (c : Client) (v : DiskView) (n : Name) (ls : List Link) (page : Page)
    (position first : ℕ) : Type 0 where
  pub before : List Link
  pub behind : List Link
  pub parts : ls ≡ before ++ (page_link page ∷ behind)
  pub read : IsPage v.world page.block page
  pub entry : IsEntry n (entries_in page.cluster) position first
  pub earlier : List PlacedEntry
  pub entries : AreEntries (block_len v.world.geometry) before earlier
  pub others : AreOthers n (placed_names earlier)
  pub held : HoldsWrite (state_of v) c.session page.block
  pub may : MayWrite c v page.block

-- a cluster of the directory, in a block of this length, has room for one entry more
abbrev pub is_roomy : ℕ → Link → Bool
is_roomy len l = nat_lt l.cluster.used (entries_room len)

-- of the directory's clusters it is the first one that has room, or the last one where none has; it was read, and the
-- session may write it
pub record IsRoomiest (c : Client) (v : DiskView) (ls : List Link) (page : Page) : Type 0 where
  pub before : List Link
  pub behind : List Link
  pub parts : ls ≡ before ++ (page_link page ∷ behind)
  pub read : IsPage v.world page.block page
  pub held : HoldsWrite (state_of v) c.session page.block
  pub may : MayWrite c v page.block
  pub full : list_any (is_roomy (block_len v.world.geometry)) before ≡ false
  pub last : is_roomy (block_len v.world.geometry) (page_link page) ≡ false → behind ≡ []

-- the cluster to put a new entry in, of one that was chosen before and another one behind it
abbrev pub better : Option Page → Page → Page
better None other = other
better (Some page) other = cond (is_roomy (block_len_of (dir_cluster page.cluster)) (page_link page)) page other

abbrev pub IsNameFound : Client → DiskView → Name → List Link → List PlacedEntry → Lookup → Type 0
IsNameFound c v n ls ps (Taken page position first) = IsLookupTaken c v n ls page position first
IsNameFound c v n ls ps (Free page count) = AreOthers n (placed_names ps) × (count ≡ length ps) × IsRoomiest c v ls page

-- where it is taken, its position is that of an entry
abbrev pub IsLookupWithin : Lookup → Type 0
IsLookupWithin (Taken page position first) = position < length (entries_in page.cluster)
IsLookupWithin (Free page count) = Unit {0}

-- why no way leads on from what stands at a name
abbrev pub no_way : Lookup → FsRefusal
no_way (Taken page position first) = no.NotDir
no_way (Free page count) = no.NoEntry

-- ---- at a path

-- the file at a path begins at this block, and is one of those under the root
pub record IsFileOf (c : Client) (v : DiskView) (path : Path) (first : ℕ) : Type 0 where
  pub file : ChainFile
  pub ahead : IsFileAhead c v first file.chain
  pub there : at (tree_under c v) path ≡ a_file (chain_bytes file.chain)
  pub chains : Chains
  pub under : chains_under v.world c.root ≡ Some chains
  pub front : List ChainFile
  pub back : List ChainFile
  pub among : chains.files ≡ front ++ (file ∷ back)
  pub named : path ≡ file.name ∷ []

-- the refusals of what reads a file, and of what lists the directory
abbrev pub no_file_found : Tree → Path → Option FsRefusal
no_file_found t path = first_of (lost_on_the_way t path ∷ missing t path ∷ no_file t path ∷ [])

abbrev pub no_directory_found : Tree → Path → Option FsRefusal
no_directory_found t path = first_of (lost_on_the_way t path ∷ missing t path ∷ no_dir t path ∷ [])
