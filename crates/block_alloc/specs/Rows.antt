-- How many free blocks stand in a row at most, up to 32.
use Rattle.std.specs.Prelude.{◌≡◌, ℕ, ◌+◌, ◌*◌, ◌<◌, ◌≤◌, Bool, false, List, slice_index_or}
use Rattle.block_alloc.specs.Choosing.{is_free_run}

-- no run of more blocks begins at this one, of those of up to 32
abbrev pub IsMostAt : List Bool → ℕ → ℕ → Type 0
IsMostAt live b most = (count : ℕ) → most < count → count ≤ 32 → is_free_run live count b ≡ false

-- none begins in this group of 256 blocks
abbrev pub IsMostIn : List Bool → ℕ → ℕ → Type 0
IsMostIn live group most = (b : ℕ) → 256 * group ≤ b → b < 256 * group + 256 → IsMostAt live b most

-- what is kept of each group; of one of which nothing is kept, 32 say nothing
abbrev pub AreMost : List Bool → List ℕ → Type 0
AreMost live most = (group : ℕ) → IsMostIn live group (slice_index_or most group 32)

-- no run of up to 32 blocks that begins in the group has this one
abbrev pub IsApart : ℕ → ℕ → Type 0
IsApart group b = 256 * group ≤ b → 256 * group + 287 ≤ b
