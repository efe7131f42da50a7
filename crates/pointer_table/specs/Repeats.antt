-- The least pair that two slots of a list hold.
use Rattle.std.specs.Prelude.{◌≡◌, ℕ, false, List, length, Option, Some, None}
use Rattle.tsd_model.specs.Pairs.{pair_lt}
use Rattle.pointer_table.specs.Slots.{slot_at, IsRepeated}

abbrev pub IsRepeatedIn : List (Option (ℕ × ℕ)) → (ℕ × ℕ) → Type 0
IsRepeatedIn slots e = IsRepeated (length slots) (slot_at slots) e

-- the least of all that two slots hold
abbrev pub IsLeastOfAll : List (Option (ℕ × ℕ)) → Option (ℕ × ℕ) → Type 0
IsLeastOfAll slots None = (e : ℕ × ℕ) → ¬ IsRepeatedIn slots e
IsLeastOfAll slots (Some e) = IsRepeatedIn slots e × ((f : ℕ × ℕ) → IsRepeatedIn slots f → pair_lt f e ≡ false)
