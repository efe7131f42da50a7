-- What a descriptor's sector says: how many homes its record has, and which.
use Rattle.std.specs.Prelude.{ℕ, ◌+◌, ◌-◌, ◌*◌, ◌&&◌, nat_le, Bool, List, ◌++◌, length, map, replicate, flat_map}
use Rattle.std.specs.List.{list_all, range_with_len}
use Rattle.byteorder.specs.Endian.{little_from, little_bytes}
use Rattle.image_layout.specs.Ring.{bodies}
use Rattle.tsd_model.specs.World.{are_apart}
use Rattle.intent_journal.specs.Homes.{is_lawful_home}

-- the first number: how many homes follow it
abbrev pub count_in : List ℕ → ℕ
count_in bytes = little_from 0 4 bytes

abbrev pub home_in : List ℕ → ℕ → ℕ
home_in bytes index = little_from (4 + 4 * index) 4 bytes

abbrev pub homes_in : List ℕ → List ℕ
homes_in bytes = map (home_in bytes) (range_with_len 0 (count_in bytes))

-- a descriptor is valid for a record whose first body is this one: it has at least one home, there is a body for each,
-- and they are distinct and lawful
abbrev pub is_valid : ℕ → List ℕ → Bool
is_valid start bytes =
    nat_le 1 (count_in bytes)
    && nat_le (start + count_in bytes) bodies
    && are_apart (homes_in bytes)
    && list_all is_lawful_home (homes_in bytes)

-- what is written for these homes
abbrev pub descriptor_bytes : List ℕ → List ℕ
descriptor_bytes homes =
    little_bytes 4 (length homes) ++ flat_map (little_bytes 4) homes ++ replicate (508 - 4 * length homes) 0
