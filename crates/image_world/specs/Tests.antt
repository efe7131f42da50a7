-- The tests on tables in memory.
use Rattle.std.specs.Prelude.{◌≡◌, ◌≢◌, ℕ, ◌<◌, ◌==◌, ◌&&◌, if◌then◌else◌, Bool, true, false, List, count_by}
use Rattle.std.specs.Prelude.{slice_index, Option, Some, None}
use Rattle.tsd_model.specs.Pairs.{holds, pair_lt, count_to}
use Rattle.pointer_table.specs.Slots.{slot_at}
use Rattle.pointer_table.specs.Table.{Table as Pointers, pairs}
use Rattle.ref_counts.specs.Table.{Table as Counts}
use Rattle.block_alloc.specs.LiveMap.{LiveMap, is_live}

-- ---- primary blocks
abbrev pub PrimariesLive : LiveMap → Type 0
PrimariesLive m = (b : ℕ) → b < m.geometry.primaries → is_live m.live b ≡ true

-- ---- ends
-- whether both ends of a pair are live
abbrev pub are_live : List Bool → (ℕ × ℕ) → Bool
are_live live e = is_live live e.0 && is_live live e.1

abbrev pub EndsLive : Pointers → LiveMap → Type 0
EndsLive p m = (a b : ℕ) → holds (pairs p) a b ≡ true → are_live m.live (a, b) ≡ true

-- the pair of a slot where an end of it isn't live
abbrev pub loose_in : List Bool → Option (ℕ × ℕ) → Option (ℕ × ℕ)
loose_in live None = None
loose_in live (Some e) = if are_live live e then None else Some e

-- a slot before this one holds this pair, and an end of it isn't live
pub record IsLooseBefore (slots : List (Option (ℕ × ℕ))) (live : List Bool) (end : ℕ) (e : ℕ × ℕ) : Type 0 where
  pub position : ℕ
  pub before : position < end
  pub held : slot_at slots position ≡ Some e
  pub loose : are_live live e ≡ false

-- the least such pair; None says that there is none
abbrev pub IsLeastLoose : List (Option (ℕ × ℕ)) → List Bool → ℕ → Option (ℕ × ℕ) → Type 0
IsLeastLoose slots live end None = (f : ℕ × ℕ) → ¬ IsLooseBefore slots live end f
IsLeastLoose slots live end (Some e) =
    IsLooseBefore slots live end e × ((f : ℕ × ℕ) → IsLooseBefore slots live end f → pair_lt f e ≡ false)

-- ---- counts
abbrev pub leads_to : ℕ → Option (ℕ × ℕ) → Bool
leads_to b None = false
leads_to b (Some e) = e.1 == b

-- how many of these slots hold a pair to b
abbrev pub slots_to : List (Option (ℕ × ℕ)) → ℕ → ℕ
slots_to slots b = count_by (leads_to b) slots

-- at each block the number of pairs to it
abbrev pub AreFound : List ℕ → Pointers → Type 0
AreFound found p = (b : ℕ) → b < p.geometry.blocks → slice_index found b ≡ count_to (pairs p) b

-- the first so many numbers of both lists are the same
abbrev pub AreSame : List ℕ → List ℕ → ℕ → Type 0
AreSame counts found len = (b : ℕ) → b < len → slice_index counts b ≡ slice_index found b

-- this is the least slot at which they aren't
pub record IsLeastWrong (counts found : List ℕ) (len b : ℕ) : Type 0 where
  pub inside : b < len
  pub wrong : slice_index counts b ≢ slice_index found b
  pub least : AreSame counts found b

abbrev pub CountsMatch : Pointers → Counts → Type 0
CountsMatch p c = (b : ℕ) → b < p.geometry.blocks → slice_index c.counts b ≡ count_to (pairs p) b

-- ---- all three
pub record TablesAgree (p : Pointers) (m : LiveMap) (c : Counts) : Type 0 where
  pub primaries : PrimariesLive m
  pub ends : EndsLive p m
  pub counts : CountsMatch p c
