-- Sectors of blocks that get zeros before they are live.
use Rattle.std.specs.Prelude.{◌≡◌, ℕ, ◌+◌, ◌<◌, ◌&&◌, nat_le, nat_lt, Bool, true, false, List}
use Rattle.std.specs.List.{list_any}
use Rattle.tsd_model.specs.declared.geometry.Geometry.{Geometry}
use Rattle.tsd_model.specs.World.{has_number}
use Rattle.image_device.specs.Image.{zeros}
use Rattle.image_device.specs.View.{View}
use Rattle.image_layout.specs.Offsets.{data_sector}
use Rattle.image_layout.specs.declared.offset.Patch.{Patch}
use Rattle.intent_journal.specs.Batch.{has_home}
use Rattle.intent_journal.specs.Home.{home}
use Rattle.volume_laws.specs.Volume.{Volume, IsVolumeAt}

-- a data sector of this block
abbrev pub is_part : Geometry → ℕ → ℕ → Bool
is_part g b n = nat_le (data_sector g b 0) n && nat_lt n (data_sector g b 0 + g.sectors)

-- a data sector of one of these blocks
abbrev pub is_data : Geometry → List ℕ → ℕ → Bool
is_data g bs n = list_any (λ b. is_part g b n) bs

-- none of these patches has a data sector of one of these blocks
abbrev pub AreMissed : Geometry → List Patch → List ℕ → Type 0
AreMissed g ps bs = (b part : ℕ) → has_number bs b ≡ true → part < g.sectors
    → has_home ps (data_sector g b part) ≡ false

-- the same device, were nothing loose
abbrev pub firmed : View → View
firmed v = record v { loose = λ n. false }

-- It is at a device where these blocks have zeros, which may be loose still.
pub record IsZeroedAt (vol : Volume) (v : View) (bs : List ℕ) : Type 0 where
  pub at : IsVolumeAt vol (firmed v)
  pub loose : (n : ℕ) → is_data vol.tables.geometry bs n ≡ false → v.loose n ≡ false
  pub zeroed : (b part : ℕ) → has_number bs b ≡ true → part < vol.tables.geometry.sectors
      → home v.reads (data_sector vol.tables.geometry b part) ≡ zeros
