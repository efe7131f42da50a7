-- Which blocks are doomed, said without rounds.
use Rattle.std.specs.Prelude.{◌≡◌, ℕ, ◌≤◌, Bool, length, ◌↔◌, ◌⊎◌, ◌<◌, IsTrue}
use Rattle.tsd_model.specs.Pairs.{holds}
use Rattle.tsd_model.specs.World.{World, is_live, has_number}
use Rattle.tsd_model.specs.Doomed.{doomed}
use Rattle.graph_laws.specs.Counts.{stays}

-- A set of blocks takes in each live block, not primary, to which only blocks of the set lead.
abbrev pub TakesIn : World → (ℕ → Bool) → Type 0
TakesIn w set = (b : ℕ) → IsTrue (is_live w b) → w.geometry.primaries ≤ b
    → ((a : ℕ) → IsTrue (holds w.pairs a b) → IsTrue (set a)) → IsTrue (set b)

-- The doomed blocks are the least set that does.
abbrev pub DoomedIsLeast : Type 0
DoomedIsLeast =
    (w : World) → length w.blocks ≡ w.geometry.blocks
    → TakesIn w (has_number (doomed w))
    × ((set : ℕ → Bool) → TakesIn w set → (b : ℕ) → IsTrue (has_number (doomed w) b) → IsTrue (set b))

-- A live block stays exactly where it is primary or a pair leads to it from a block that stays.
abbrev pub StaysByPairs : Type 0
StaysByPairs =
    (w : World) (b : ℕ) → length w.blocks ≡ w.geometry.blocks → IsTrue (is_live w b)
    → IsTrue (stays w b) ↔ ((b < w.geometry.primaries) ⊎ ((a : ℕ) × IsTrue (holds w.pairs a b) × IsTrue (stays w a)))

-- Blocks each of which is led to by one of them stay, whatever else leads to them: so does each block on a ring of
-- pairs.
abbrev pub RingsStay : Type 0
RingsStay =
    (w : World) (ring : ℕ → Bool)
    → ((b : ℕ) → IsTrue (ring b) → (a : ℕ) × IsTrue (holds w.pairs a b) × IsTrue (ring a))
    → (b : ℕ) → IsTrue (ring b) → IsTrue (stays w b)
