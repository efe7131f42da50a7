-- How levels are kept: one bit a block that says at least read, and one that says write.
use Rattle.std.specs.Prelude.{Bool, false, cond, List, length, map, slice_index_or}
use Rattle.std.specs.List.{range_with_len}
use Rattle.tsd_model.specs.declared.requests.Level.{Level}
use Rattle.tsd_model.specs.declared.requests.Level.TheVariants as level

abbrev pub level_of_bits : Bool → Bool → Level
level_of_bits reads writes = cond writes level.Write (cond reads level.Read level.Bare)

-- at each block the level that its two bits say
abbrev pub levels_of_bits : List Bool → List Bool → List Level
levels_of_bits reads writes =
    map (λ b. level_of_bits (slice_index_or reads b false) (slice_index_or writes b false))
    (range_with_len 0 (length reads))
