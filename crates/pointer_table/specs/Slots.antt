-- Pointer slots. A slot holds a pair (source, target) or is empty.
use Rattle.std.specs.Prelude.{◌≡◌, ℕ, ◌<◌, List, [], ◌∷◌, slice_index_or, Option, Some, None}
use Rattle.tsd_model.specs.Pairs.{with_pair}

-- the slot of this number; what stands past the last one counts as empty
abbrev pub slot_at : List (Option (ℕ × ℕ)) → ℕ → Option (ℕ × ℕ)
slot_at slots k = slice_index_or slots k None

-- the pairs that slots hold, ascending
abbrev pub pairs_in : List (Option (ℕ × ℕ)) → List (ℕ × ℕ)
pairs_in [] = []
pairs_in (None ∷ slots) = pairs_in slots
pairs_in (Some e ∷ slots) = with_pair e (pairs_in slots)

-- of so many slots, which a function gives by number, two hold this pair
pub record IsRepeated (count : ℕ) (slot : ℕ → Option (ℕ × ℕ)) (e : ℕ × ℕ) : Type 0 where
  pub first : ℕ
  pub second : ℕ
  pub apart : first < second
  pub inside : second < count
  pub one : slot first ≡ Some e
  pub other : slot second ≡ Some e
