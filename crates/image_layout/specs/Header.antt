-- What the header's sector means. It begins with a magic of eight bytes and five numbers of four bytes, the lowest byte
-- first.
use Rattle.std.specs.Prelude.{◌≡◌, ℕ, ◌<◌, ◌≤◌, ◌⊎◌, List, ◌++◌, take, replicate, codes, Result, Ok, Err}
use Rattle.byteorder.specs.Endian.{little_from, little_bytes}
use Rattle.tsd_model.specs.declared.geometry.Geometry.{Geometry}
use Rattle.tsd_model.specs.Geometry.{IsLawful}
use Rattle.image_layout.specs.declared.header.Header.{Header}
use Rattle.image_layout.specs.declared.fault.HeaderFault.{HeaderFault}
use Rattle.image_layout.specs.declared.fault.HeaderFault.TheVariants.{Magic, Version, Field}

-- ---- the bytes
abbrev pub magic : List ℕ
magic = codes "TSDISK01"

-- the header that the numbers of a sector are, right or not
abbrev pub header_of : List ℕ → Header
header_of bytes = record {
  version = little_from 8 4 bytes;
  geometry = record {
    sectors = little_from 12 4 bytes;
    blocks = little_from 16 4 bytes;
    primaries = little_from 20 4 bytes;
    slots = little_from 24 4 bytes;
  };
}

-- the sector of a header: what stands after the last number is zero
abbrev pub header_bytes : Header → List ℕ
header_bytes h =
    magic
    ++ little_bytes 4 h.version
    ++ little_bytes 4 h.geometry.sectors
    ++ little_bytes 4 h.geometry.blocks
    ++ little_bytes 4 h.geometry.primaries
    ++ little_bytes 4 h.geometry.slots
    ++ replicate 484 0

-- ---- what is right
abbrev pub HasMagic : List ℕ → Type 0
HasMagic bytes = take 8 bytes ≡ magic

abbrev pub IsVersion : ℕ → Type 0
IsVersion version = (version ≡ 1) ⊎ (version ≡ 2)

-- fields 1 to 4, one by one
abbrev pub IsSectors : Geometry → Type 0
IsSectors g = (g.sectors ≡ 1) ⊎ (g.sectors ≡ 2) ⊎ (g.sectors ≡ 4) ⊎ (g.sectors ≡ 8)

abbrev pub IsBlocks : Geometry → Type 0
IsBlocks g = (8 ≤ g.blocks) × (g.blocks ≤ 1048576)

abbrev pub IsPrimaries : Geometry → Type 0
IsPrimaries g = (1 ≤ g.primaries) × (g.primaries ≤ 16) × (g.primaries < g.blocks)

abbrev pub IsSlots : Geometry → Type 0
IsSlots g = (1 ≤ g.slots) × (g.slots ≤ 4194304)

-- the first bad field of a geometry, by its number, has this value
abbrev pub IsFirstBad : Geometry → ℕ → ℕ → Type 0
IsFirstBad g number found =
    ((number ≡ 1) × (found ≡ g.sectors) × (¬ IsSectors g))
    ⊎ ((number ≡ 2) × (found ≡ g.blocks) × IsSectors g × (¬ IsBlocks g))
    ⊎ ((number ≡ 3) × (found ≡ g.primaries) × IsSectors g × IsBlocks g × (¬ IsPrimaries g))
    ⊎ ((number ≡ 4) × (found ≡ g.slots) × IsSectors g × IsBlocks g × IsPrimaries g × (¬ IsSlots g))

-- what a reading of a sector answers: each answer comes exactly where its line holds, since no two of them hold
-- together
abbrev pub IsHeaderReading : List ℕ → Result Header HeaderFault → Type 0
IsHeaderReading bytes (Ok h) = HasMagic bytes × IsVersion h.version × IsLawful h.geometry × (h ≡ header_of bytes)
IsHeaderReading bytes (Err Magic) = ¬ HasMagic bytes
IsHeaderReading bytes (Err (Version found)) = HasMagic bytes × (found ≡ (header_of bytes).version) × (¬ IsVersion found)
IsHeaderReading bytes (Err (Field number found)) =
    HasMagic bytes × IsVersion (header_of bytes).version × IsFirstBad (header_of bytes).geometry number found
