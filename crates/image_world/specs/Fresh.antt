-- A disk that was formatted.
use Rattle.std.specs.Prelude.{◌≡◌, ◌⊎◌, ℕ, ◌<◌, ◌≤◌, Ok, false, List, length}
use Rattle.tsd_model.specs.declared.geometry.Geometry.{Geometry}
use Rattle.tsd_model.specs.declared.caps.CapPair.{CapPair}
use Rattle.tsd_model.specs.Geometry.{IsLawful}
use Rattle.tsd_model.specs.Run.{fresh_world}
use Rattle.image_device.specs.Image.{zeros}
use Rattle.image_layout.specs.Offsets.{data_sector}
use Rattle.image_layout.specs.Areas.{header_sector, format_gate, sweep_flag, counts_start, bitmap_start, slots_start}
use Rattle.image_layout.specs.Areas.{data_start}
use Rattle.image_layout.specs.Header.{IsHeaderReading}
use Rattle.image_layout.specs.Image.{Image, says_open}
use Rattle.pointer_table.specs.Fresh.{fresh_slots}
use Rattle.ref_counts.specs.Fresh.{fresh_counts}
use Rattle.block_alloc.specs.Fresh.{fresh_live}
use Rattle.block_alloc.specs.Stored.{AreWritten as AreBitsWritten}
use Rattle.cap_store.specs.Fresh.{fresh_records}
use Rattle.cap_store.specs.Stored.{IsStored as AreKept}
use Rattle.intent_journal.specs.Records.{AreClosed}
use Rattle.image_world.specs.Tables.{Tables}
use Rattle.image_world.specs.Faults.{IsFormatGateOpen}
use Rattle.image_world.specs.Sound.{HasTables}
use Rattle.image_world.specs.Stands.{Stands}

-- the primary blocks are live and no others, there are no pairs, and version 1 keeps these capabilities
abbrev pub fresh_tables : Geometry → List CapPair → Tables
fresh_tables g caps = record {
  version = 1;
  geometry = g;
  live = fresh_live g;
  slots = fresh_slots g;
  counts = fresh_counts g;
  records = fresh_records caps;
  is_sweeping = false;
}

-- All that formatting writes but the format gate: the tables, zeros in the primary blocks, and closed gates of the
-- journal.
pub record IsWrittenFresh (g : Geometry) (caps : List CapPair) (x : Image) : Type 0 where
  pub tables : HasTables (fresh_tables g caps) x
  pub zeroed : (b part : ℕ) → b < g.primaries → part < g.sectors → x (data_sector g b part) ≡ zeros
  pub closed : AreClosed x

-- The sectors of those tables as they are written: zeros for counts and slots, a bit for each primary block.
pub record AreFreshSectors (g : Geometry) (caps : List CapPair) (x : Image) : Type 0 where
  pub header : IsHeaderReading (x header_sector) (Ok (record { version = 1; geometry = g }))
  pub flag : says_open (x sweep_flag) ≡ false
  pub kept : AreKept 1 (fresh_records caps) x
  pub counts : (n : ℕ) → counts_start ≤ n → n < bitmap_start g → x n ≡ zeros
  pub bits : AreBitsWritten (fresh_live g) g x
  pub slots : (n : ℕ) → slots_start g ≤ n → n < data_start g → x n ≡ zeros

-- ---- laws

-- Such sectors have those tables.
abbrev pub FreshSectorsHaveTheTables : Type 0
FreshSectorsHaveTheTables = (g : Geometry) (caps : List CapPair) (x : Image) → IsLawful g → AreFreshSectors g caps x
    → HasTables (fresh_tables g caps) x

-- With an open format gate the image stands for the fresh world.
abbrev pub FormattedStandsForFresh : Type 0
FormattedStandsForFresh =
    (g : Geometry) (caps : List CapPair) (x : Image) → IsLawful g → length caps ≡ g.primaries → IsWrittenFresh g caps x
    → IsFormatGateOpen x
    → Stands x (fresh_world g caps)

-- Whatever the gate's sector holds, the image is not formatted or stands for the fresh world.
abbrev pub TornGateIsClosedOrOpen : Type 0
TornGateIsClosedOrOpen =
    (g : Geometry) (caps : List CapPair) (x : Image) → IsLawful g → length caps ≡ g.primaries → IsWrittenFresh g caps x
    → (says_open (x format_gate) ≡ false) ⊎ Stands x (fresh_world g caps)
