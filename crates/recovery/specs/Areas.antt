-- What formatting writes, but for the format gate.
use Rattle.std.specs.Prelude.{◌≡◌, ℕ, ◌+◌, ◌-◌, ◌*◌, ◌<◌, ◌≤◌, ◌&&◌, nat_le, nat_lt, if◌then◌else◌, Bool, List, Ok}
use Rattle.tsd_model.specs.declared.caps.CapPair.{CapPair}
use Rattle.tsd_model.specs.declared.geometry.Geometry.{Geometry}
use Rattle.image_device.specs.Image.{Image, zeros}
use Rattle.image_layout.specs.Areas.{header_sector, sweep_flag, caps_start, counts_start, bitmap_start, slots_start}
use Rattle.image_layout.specs.Areas.{data_start}
use Rattle.image_layout.specs.Header.{IsHeaderReading}
use Rattle.block_alloc.specs.Bytes.{bitmap_sector_bytes}
use Rattle.block_alloc.specs.Fresh.{fresh_live}
use Rattle.cap_store.specs.Fresh.{fresh_records}
use Rattle.cap_store.specs.Stored.{caps_sector_bytes}
use Rattle.intent_journal.specs.Records.{AreClosed}

-- behind the data of the last primary block
abbrev pub fresh_end : Geometry → ℕ
fresh_end g = data_start g + g.sectors * g.primaries

-- in front of it: all that formatting writes, the format gate too
abbrev pub is_fresh : Geometry → ℕ → Bool
is_fresh g n = nat_lt n (fresh_end g)

-- The bytes of a sector from the sweep flag to there: the records, the bits of the primary blocks, and zeros. So the
-- flag is closed, each count is 0, each slot is empty, and the primary blocks contain zeros.
abbrev pub fresh_bytes : Geometry → List CapPair → ℕ → List ℕ
fresh_bytes g caps n =
    if nat_le caps_start n && nat_lt n counts_start then caps_sector_bytes 1 (fresh_records caps) (n - caps_start)
    else if nat_le (bitmap_start g) n && nat_lt n (slots_start g) then bitmap_sector_bytes (fresh_live g)
    (n - bitmap_start g)
    else zeros

-- an image has those sectors, a header of version 1, and closed gates of the journal
pub record HasAreas (g : Geometry) (caps : List CapPair) (x : Image) : Type 0 where
  pub header : IsHeaderReading (x header_sector) (Ok (record { version = 1; geometry = g }))
  pub closed : AreClosed x
  pub areas : (n : ℕ) → sweep_flag ≤ n → n < fresh_end g → x n ≡ fresh_bytes g caps n
