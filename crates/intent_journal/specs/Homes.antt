-- Homes: the sectors that a batch may give new bytes.
use Rattle.std.specs.Prelude.{ℕ, Bool, ◌==◌, ◌&&◌, ◌||◌, nat_le}
use Rattle.image_layout.specs.Areas.{header_sector, sweep_flag}

-- the header, the sweep flag, and all that stands behind it, up to the end of the largest image
abbrev pub is_lawful_home : ℕ → Bool
is_lawful_home sector = (sector == header_sector) || (nat_le sweep_flag sector && nat_le sector 8462725)
