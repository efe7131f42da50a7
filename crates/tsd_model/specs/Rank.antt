-- In which order free blocks are taken: that of least rank first. A block and a hint are any numbers below 2 ^ 32.
use Rattle.std.specs.Prelude.{ℕ, ◌+◌, ◌-◌, ◌*◌, ◌/◌, ◌%◌, ◌^◌, nat_lt, if◌then◌else◌, List, [], ◌∷◌, slice_index}
use Rattle.tsd_model.specs.declared.requests.PlaceKind.{PlaceKind}
use Rattle.tsd_model.specs.declared.requests.PlaceKind.TheVariants.{Low, Near, Spread, Zone}

-- how far two blocks stand apart
abbrev pub distance : ℕ → ℕ → ℕ
distance a b = (a - b) + (b - a)

-- the zone of a block: 256 blocks in a row are of one zone, and after the sixteenth zone the first comes again
abbrev pub zone_of : ℕ → ℕ
zone_of block = (block / 256) % 16

-- when a zone's turn comes, by how many zones it stands after that of the hint: the hint's own comes first, then by
-- turns the nearest one before it and the nearest one after it
abbrev pub zone_turn : List ℕ
zone_turn = 0 ∷ 2 ∷ 4 ∷ 6 ∷ 8 ∷ 10 ∷ 12 ∷ 14 ∷ 15 ∷ 13 ∷ 11 ∷ 9 ∷ 7 ∷ 5 ∷ 3 ∷ 1 ∷ []

-- how many zones the block's zone stands after that of the hint, round the sixteen
abbrev pub zones_after : ℕ → ℕ → ℕ
zones_after hint block = (zone_of block + 16 - zone_of hint) % 16

-- the rank of a block for a hint. Low: by number. Near: by the distance from the hint, that above it before that
-- below. Spread: upwards from the hint, and round at 2 ^ 32. Zone: by the zones' turns, by number in those of one turn.
abbrev pub rank_of : PlaceKind → ℕ → ℕ → ℕ
rank_of Low hint block = block
rank_of Near hint block = 2 * distance block hint + (if nat_lt block hint then 1 else 0)
rank_of Spread hint block = (block + 2 ^ 32 - hint) % 2 ^ 32
rank_of Zone hint block = 2 ^ 32 * slice_index zone_turn (zones_after hint block) + block
