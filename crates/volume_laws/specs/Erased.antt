-- What an upgrade erases: what the journal's bodies held, and what stood beside the digests.
use Rattle.std.specs.Prelude.{◌≡◌, ℕ, ◌+◌, ◌&&◌, nat_le, Bool, List}
use Rattle.tsd_model.specs.declared.records.Record.{Record}
use Rattle.image_layout.specs.Areas.{caps_start}
use Rattle.image_layout.specs.Image.{Image}
use Rattle.cap_store.specs.Stored.{caps_sector_bytes}

-- a sector that keeps bodies of the journal's records
abbrev pub is_body : ℕ → Bool
is_body n = nat_le 4 n && nat_le n 116

-- The two sectors of records hold the digests of these records, eight pairs a sector, and nothing else: zeros stand
-- behind the last pair of each.
pub record HasOnlyDigests (records : List Record) (x : Image) : Type 0 where
  pub first : x caps_start ≡ caps_sector_bytes 2 records 0
  pub second : x (caps_start + 1) ≡ caps_sector_bytes 2 records 1
