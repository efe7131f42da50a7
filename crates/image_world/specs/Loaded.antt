-- The four tables in memory, and an image that has them.
use Rattle.std.specs.Prelude.{◌≡◌, Bool}
use Rattle.image_layout.specs.declared.header.Header.{Header}
use Rattle.image_layout.specs.Image.{Image}
use Rattle.pointer_table.specs.Sectors.{IsStored as AreSlots}
use Rattle.ref_counts.specs.Stored.{IsStored as AreCounts}
use Rattle.block_alloc.specs.Stored.{IsStored as AreBits}
use Rattle.cap_store.specs.Stored.{IsStored as AreKept}
use Rattle.image_world.specs.Tables.{Tables}
use Rattle.image_world.specs.Sound.{AreSound}
use Rattle.image_world.specs.declared.tables.ImageTables.{ImageTables}

-- all that they say, with the header of their image and whether its sweep flag is open
abbrev pub tables_with : Header → ImageTables → Bool → Tables
tables_with h t is_sweeping = record {
  version = h.version;
  geometry = h.geometry;
  live = t.live.live;
  slots = t.pointers.slots;
  counts = t.counts.counts;
  records = t.caps.records;
  is_sweeping = is_sweeping;
}

-- they are of the disk with this header and fit one another, and no block is hidden
pub record DoFit (h : Header) (t : ImageTables) : Type 0 where
  pub pointers : t.pointers.geometry ≡ h.geometry
  pub counts : t.counts.geometry ≡ h.geometry
  pub live : t.live.geometry ≡ h.geometry
  pub none_hidden : t.live.unhidden ≡ t.live.live
  pub version : t.caps.version ≡ h.version
  pub caps : t.caps.geometry ≡ h.geometry
  pub sound : (is_sweeping : Bool) → AreSound (tables_with h t is_sweeping)

-- the sectors of an image of this version and size have them
pub record AreStored (h : Header) (t : ImageTables) (x : Image) : Type 0 where
  pub live : AreBits t.live.live h.geometry x
  pub slots : AreSlots t.pointers.slots h.geometry x
  pub counts : AreCounts t.counts.counts h.geometry x
  pub records : AreKept h.version t.caps.records x
