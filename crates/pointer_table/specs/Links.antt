-- Links by number. Those up to the last that was ever set are in memory; what the others are is known without it.
use Rattle.std.specs.Prelude.{ℕ, ◌+◌, ◌-◌, ◌<◌, ◌≤◌, ◌^◌, ◌&&◌, ◌++◌, nat_lt, cond, Bool, List, length, map}
use Rattle.std.specs.List.{range_with_len}
use Rattle.pointer_table.specs.Threads.{no_link}

-- what link k of so many is that was never set: where they are in a row it leads to the next number, but for the last;
-- else nowhere
abbrev pub unset_link : Bool → ℕ → ℕ → ℕ
unset_link in_row count k = cond (in_row && nat_lt (k + 1) count) (k + 1) no_link

-- so many links, of which the first ones are these and the others were never set
abbrev pub links_of : Bool → ℕ → List ℕ → List ℕ
links_of in_row count items =
    items ++ map (unset_link in_row count) (range_with_len (length items) (count - length items))

-- these are some of so many links, with room for all
pub record AreKept (count : ℕ) (items : List ℕ) (room : ℕ) : Type 0 where
  pub few : count < 2 ^ 32
  pub within : length items ≤ count
  pub enough : count ≤ room
