-- The list of the empty slots. The first of them is known, and the link by bucket of each, which no thread uses, leads
-- to the next one.
use Rattle.std.specs.Prelude.{◌≡◌, ℕ, ◌+◌, ◌<◌, true, false, List, [], ◌∷◌, length, slice_index_or, Option}
use Rattle.std.specs.Prelude.{None, ⊤}
use Rattle.tsd_model.specs.World.{has_number}
use Rattle.pointer_table.specs.Links.{unset_link}
use Rattle.pointer_table.specs.Slots.{slot_at}
use Rattle.pointer_table.specs.Threads.{no_link}

-- each of these slots is empty, and none stands twice
abbrev pub AreEmptyOnce : List (Option (ℕ × ℕ)) → List ℕ → Type 0
AreEmptyOnce slots [] = ⊤
AreEmptyOnce slots (p ∷ positions) = (p < length slots) × (slot_at slots p ≡ None) × (has_number positions p ≡ false)
    × AreEmptyOnce slots positions

-- a link leads to the first of these slots, and each of them to the next; the last leads nowhere
abbrev pub AreLinked : List ℕ → ℕ → List ℕ → Type 0
AreLinked next link [] = link ≡ no_link
AreLinked next link (p ∷ positions) = (link ≡ p) × AreLinked next (slice_index_or next p 0) positions

-- the empty slots are linked from the first on: as many as there are slots that don't hold one of so many pairs
pub record AreEmpties (slots : List (Option (ℕ × ℕ))) (held first : ℕ) (next : List ℕ) : Type 0 where
  pub positions : List ℕ
  pub chain : AreLinked next first positions
  pub empty : AreEmptyOnce slots positions
  pub many : length positions + held ≡ length slots

-- the link of each slot that holds no pair leads to the next slot, and that of the last one nowhere
abbrev pub AreInRow : (ℕ → Option (ℕ × ℕ)) → List ℕ → Type 0
AreInRow held next = (k : ℕ) → k < length next → held k ≡ None
    → slice_index_or next k 0 ≡ unset_link true (length next) k
