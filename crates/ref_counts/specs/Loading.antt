-- The counts as the sectors have them.
use Rattle.std.specs.Prelude.{◌≡◌, ℕ, ◌+◌, ◌*◌, ◌/◌, ◌%◌, ◌<◌, List, slice_index}
use Rattle.byteorder.specs.Endian.{little_from}
use Rattle.image_layout.specs.Areas.{counts_start}
use Rattle.image_layout.specs.Image.{Image}

-- the first so many counts are those of the sectors
abbrev pub FrontIsRead : ℕ → List ℕ → Image → Type 0
FrontIsRead len counts x =
    (block : ℕ) → block < len → slice_index counts block
    ≡ little_from (4 * (block % 128)) 4 (x (counts_start + block / 128))
