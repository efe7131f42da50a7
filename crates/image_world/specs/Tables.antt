-- The tables of an image: all that it says, but for the bytes of its blocks.
use Rattle.std.specs.Prelude.{ℕ, Bool, List, map, Option}
use Rattle.std.specs.List.{range_with_len}
use Rattle.tsd_model.specs.declared.geometry.Geometry.{Geometry}
use Rattle.tsd_model.specs.declared.records.Record.{Record}
use Rattle.image_layout.specs.declared.header.Header.{Header}
use Rattle.image_layout.specs.Areas.{header_sector, sweep_flag}
use Rattle.image_layout.specs.Header.{header_of}
use Rattle.image_layout.specs.Image.{Image, says_open, is_bit_set, stored_count}
use Rattle.pointer_table.specs.Slots.{pairs_in}
use Rattle.pointer_table.specs.Sectors.{stored_slot}
use Rattle.cap_store.specs.Stored.{stored_record}

pub record Tables : Type 0 where
  pub version : ℕ
  pub geometry : Geometry
  -- at index b whether the bit of block b is 1
  pub live : List Bool
  -- the slots in order, each a pair or empty
  pub slots : List (Option (ℕ × ℕ))
  -- at index b the count of block b
  pub counts : List ℕ
  -- at index b the record of primary block b
  pub records : List Record
  -- a sweep has begun and not ended
  pub is_sweeping : Bool

-- the pairs in the slots, ascending
abbrev pub pairs_of : Tables → List (ℕ × ℕ)
pairs_of t = pairs_in t.slots

-- ---- what an image has
abbrev pub header_on : Image → Header
header_on x = header_of (x header_sector)

abbrev pub live_on : Image → Geometry → List Bool
live_on x g = map (is_bit_set x g) (range_with_len 0 g.blocks)

abbrev pub slots_on : Image → Geometry → List (Option (ℕ × ℕ))
slots_on x g = map (stored_slot x g) (range_with_len 0 g.slots)

abbrev pub counts_on : Image → Geometry → List ℕ
counts_on x g = map (stored_count x g) (range_with_len 0 g.blocks)

abbrev pub records_on : ℕ → Image → Geometry → List Record
records_on version x g = map (stored_record version x) (range_with_len 0 g.primaries)

abbrev pub tables_as : Header → Image → Tables
tables_as h x = record {
  version = h.version;
  geometry = h.geometry;
  live = live_on x h.geometry;
  slots = slots_on x h.geometry;
  counts = counts_on x h.geometry;
  records = records_on h.version x h.geometry;
  is_sweeping = says_open (x sweep_flag);
}

-- the tables of the sectors, right or not
unfoldable pub tables_of : Image → Tables
tables_of x = tables_as (header_on x) x
