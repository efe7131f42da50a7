-- Marks on blocks, and which marked blocks wait.
use Rattle.std.specs.Prelude.{◌≡◌, ℕ, ◌<◌, Bool, false, List, length, filter, slice_index_or, IsTrue}
use Rattle.std.specs.List.{range_with_len}
use Rattle.tsd_model.specs.Pairs.{holds}
use Rattle.tsd_model.specs.World.{World, has_number}
use Rattle.tsd_model.specs.Reach.{reach}

abbrev pub is_marked : List Bool → ℕ → Bool
is_marked marked b = slice_index_or marked b false

-- The blocks below `first` are marked, and only reached blocks are. Of each marked block that doesn't wait the targets
-- are marked, but of block `open_` only those below `from`.
pub record AreMarksAt (w : World) (marked : List Bool) (waiting : List ℕ) (first open_ from : ℕ) : Type 0 where
  pub sound : (b : ℕ) → IsTrue (is_marked marked b) → IsTrue (has_number (reach w) b)
  pub primaries : (b : ℕ) → b < first → IsTrue (is_marked marked b)
  pub waits : (b : ℕ) → IsTrue (has_number waiting b) → IsTrue (is_marked marked b)
  pub done : (a b : ℕ) → IsTrue (holds w.pairs a b) → IsTrue (is_marked marked a) → has_number waiting a ≡ false
      → (a ≡ open_ → b < from) → IsTrue (is_marked marked b)

-- The same, with no block open.
abbrev pub AreMarks : World → List Bool → List ℕ → ℕ → Type 0
AreMarks w marked waiting first = AreMarksAt w marked waiting first w.geometry.blocks 0

-- how many blocks are marked
abbrev pub count_marked : List Bool → ℕ
count_marked marked = length (filter (is_marked marked) (range_with_len 0 (length marked)))
