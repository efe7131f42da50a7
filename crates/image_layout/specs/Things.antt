-- That the things of an image stand apart: no two of them share a bit, and all end where the image does or before.
use Rattle.std.specs.Prelude.{ℕ, ◌+◌, ◌*◌, ◌<◌, ◌≤◌, ◌⊎◌, ⊤}
use Rattle.tsd_model.specs.declared.geometry.Geometry.{Geometry}
use Rattle.image_layout.specs.declared.offset.Offset.{Offset}
use Rattle.image_layout.specs.Areas.{header_sector, format_gate, sweep_flag, total}
use Rattle.image_layout.specs.Ring.{records, bodies, gate_sector, descriptor_sector, body_sector}
use Rattle.image_layout.specs.Offsets.{count_offset, bit_offset, bit_of, slot_offset, data_sector}
use Rattle.image_layout.specs.Image.{kept_offset, kept_len}

-- what stands on an image: gates, descriptors and bodies of the journal by their index, then by its number what a
-- primary block keeps, a block's count and bit, and a slot, then the sectors of a block's data
pub data Thing : Type 0 where
  the_header : Thing
  the_format_gate : Thing
  gate : ℕ → Thing
  descriptor : ℕ → Thing
  body : ℕ → Thing
  the_sweep_flag : Thing
  kept : ℕ → Thing
  count : ℕ → Thing
  bit : ℕ → Thing
  slot : ℕ → Thing
  data_part : ℕ → ℕ → Thing

-- whether an image of this geometry has the thing
abbrev pub IsOn : Geometry → Thing → Type 0
IsOn g the_header = ⊤
IsOn g the_format_gate = ⊤
IsOn g (gate index) = index < records
IsOn g (descriptor index) = index < records
IsOn g (body index) = index < bodies
IsOn g the_sweep_flag = ⊤
IsOn g (kept block) = block < g.primaries
IsOn g (count block) = block < g.blocks
IsOn g (bit block) = block < g.blocks
IsOn g (slot index) = index < g.slots
IsOn g (data_part block index) = (block < g.blocks) × (index < g.sectors)

-- the bits of the image before a sector, and before an offset
abbrev pub before_sector : ℕ → ℕ
before_sector sector = 4096 * sector

abbrev pub before_offset : Offset → ℕ
before_offset at = 4096 * at.sector + 8 * at.byte

-- the bits of the image before a thing
abbrev pub bits_before : ℕ → Geometry → Thing → ℕ
bits_before version g the_header = before_sector header_sector
bits_before version g the_format_gate = before_sector format_gate
bits_before version g (gate index) = before_sector (gate_sector index)
bits_before version g (descriptor index) = before_sector (descriptor_sector index)
bits_before version g (body index) = before_sector (body_sector index)
bits_before version g the_sweep_flag = before_sector sweep_flag
bits_before version g (kept block) = before_offset (kept_offset version block)
bits_before version g (count block) = before_offset (count_offset g block)
bits_before version g (bit block) = before_offset (bit_offset g block) + bit_of block
bits_before version g (slot index) = before_offset (slot_offset g index)
bits_before version g (data_part block index) = before_sector (data_sector g block index)

-- the bits of a thing: a number has 32
abbrev pub bit_size : ℕ → Thing → ℕ
bit_size version the_header = 4096
bit_size version the_format_gate = 4096
bit_size version (gate index) = 4096
bit_size version (descriptor index) = 4096
bit_size version (body index) = 4096
bit_size version the_sweep_flag = 4096
bit_size version (kept block) = 8 * (2 * kept_len version)
bit_size version (count block) = 32
bit_size version (bit block) = 1
bit_size version (slot index) = 64
bit_size version (data_part block index) = 4096

-- one of two things ends before the other begins
abbrev pub DontOverlap : ℕ → Geometry → Thing → Thing → Type 0
DontOverlap version g one other =
    (bits_before version g one + bit_size version one ≤ bits_before version g other)
    ⊎ (bits_before version g other + bit_size version other ≤ bits_before version g one)

-- all of a thing is on the image
abbrev pub IsInside : ℕ → Geometry → Thing → Type 0
IsInside version g thing = bits_before version g thing + bit_size version thing ≤ before_sector (total g)
