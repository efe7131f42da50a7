-- The patches of all records as one list, and how it parts into records.
use Rattle.std.specs.Prelude.{ℕ, ◌+◌, ◌≡◌, List, [], ◌∷◌, length, take, drop}
use Rattle.image_layout.specs.declared.offset.Patch.{Patch}
use Rattle.intent_journal.specs.Records.{JournalRecord}
use Rattle.intent_journal.specs.Ring.{IsRing}

abbrev pub sum_of : List ℕ → ℕ
sum_of [] = 0
sum_of (c ∷ cs) = c + sum_of cs

-- records of so many patches each
abbrev pub parted : List ℕ → List Patch → List JournalRecord
parted [] ps = []
parted (c ∷ cs) ps = take c ps ∷ parted cs (drop c ps)

-- each patch is one of a record's, and the records are those of a ring
pub record ArePatchesOfRing (counts : List ℕ) (ps : List Patch) : Type 0 where
  pub whole : sum_of counts ≡ length ps
  pub ring : IsRing (parted counts ps)
