-- Slots as the memory holds them.
use Rattle.std.specs.Prelude.{ℕ, ◌-◌, ◌<◌, ◌≤◌, ◌^◌, ◌++◌, List, length, map, replicate, Option, None}
use Rattle.pointer_table.specs.declared.raw.RawSlot.{RawSlot}
use Rattle.pointer_table.specs.Sectors.{slot_of}

abbrev pub slot_in : RawSlot → Option (ℕ × ℕ)
slot_in raw = slot_of raw.source raw.target

abbrev pub slots_in : List RawSlot → List (Option (ℕ × ℕ))
slots_in raws = map slot_in raws

-- so many slots, of which the first ones are these and the others are empty
abbrev pub all_slots : ℕ → List RawSlot → List (Option (ℕ × ℕ))
all_slots count raws = slots_in raws ++ replicate (count - length raws) None

-- these are the first of so many slots, with room for all
pub record AreKept (count : ℕ) (raws : List RawSlot) (room : ℕ) : Type 0 where
  pub few : count < 2 ^ 32
  pub within : length raws ≤ count
  pub enough : count ≤ room
