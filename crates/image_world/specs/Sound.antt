-- Tables that an image has, and tables that pass the tests.
use Rattle.std.specs.Prelude.{◌≡◌, ℕ, ◌<◌, ◌&&◌, true, length, slice_index, Ok}
use Rattle.tsd_model.specs.Pairs.{count_to, holds}
use Rattle.image_layout.specs.Areas.{header_sector, sweep_flag}
use Rattle.image_layout.specs.Header.{IsVersion, IsHeaderReading}
use Rattle.image_layout.specs.Image.{Image, says_open}
use Rattle.intent_journal.specs.Home.{home}
use Rattle.pointer_table.specs.Table.{IsTable}
use Rattle.pointer_table.specs.Sectors.{IsStored as AreSlots}
use Rattle.ref_counts.specs.Stored.{IsStored as AreCounts}
use Rattle.block_alloc.specs.LiveMap.{is_live}
use Rattle.block_alloc.specs.Stored.{IsStored as AreBits}
use Rattle.cap_store.specs.Stored.{IsStored as AreKept}
use Rattle.image_world.specs.Faults.{IsFormatGateOpen, HasJournal, HasHeader, AreRight, IsGood}
use Rattle.image_world.specs.Tables.{Tables, pairs_of, header_on, tables_of}

-- The sectors have these tables: the header is right and gives their version and size, and each table is stored.
pub record HasTables (t : Tables) (x : Image) : Type 0 where
  pub header : IsHeaderReading (x header_sector) (Ok (record { version = t.version; geometry = t.geometry }))
  pub live : AreBits t.live t.geometry x
  pub slots : AreSlots t.slots t.geometry x
  pub counts : AreCounts t.counts t.geometry x
  pub records : AreKept t.version t.records x
  pub flag : says_open (x sweep_flag) ≡ t.is_sweeping

-- The tables fit one another. For the tables of an image this is that tests 3 to 8 pass.
pub record AreSound (t : Tables) : Type 0 where
  pub version : IsVersion t.version
  -- the size is lawful, no slot is bad, and no pair stands in two
  pub slots : IsTable (record { geometry = t.geometry; slots = t.slots })
  pub each_block : length t.live ≡ t.geometry.blocks
  pub each_count : length t.counts ≡ t.geometry.blocks
  pub each_record : length t.records ≡ t.geometry.primaries
  -- the primary blocks are live
  pub primaries : (b : ℕ) → b < t.geometry.primaries → is_live t.live b ≡ true
  -- both ends of each pair are live
  pub ends : (a b : ℕ) → holds (pairs_of t) a b ≡ true → (is_live t.live a && is_live t.live b) ≡ true
  -- each count is the number of pairs to its block
  pub counted : (b : ℕ) → b < t.geometry.blocks → slice_index t.counts b ≡ count_to (pairs_of t) b

-- ---- laws

-- Tables that fit one another and that sectors have are those of the image.
abbrev pub TablesAreOne : Type 0
TablesAreOne = (t : Tables) (x : Image) → AreSound t → HasTables t x → tables_of x ≡ t

-- An image with a right header has its tables.
abbrev pub TablesAreHad : Type 0
TablesAreHad = (x : Image) → HasHeader x → HasTables (tables_of x) x

-- Where tests 4 to 8 pass they fit one another, and where they do the tests pass.
abbrev pub RightTablesAreSound : Type 0
RightTablesAreSound = (x : Image) → HasHeader x → AreRight x (header_on x).geometry → AreSound (tables_of x)

abbrev pub SoundTablesPass : Type 0
SoundTablesPass =
    (t : Tables) (image : Image) → IsFormatGateOpen image → HasJournal image → AreSound t → HasTables t (home image)
    → IsGood image
