-- How doomed blocks are found, one pair at a time.
use Rattle.std.specs.Prelude.{◌≡◌, ℕ, Bool, false, IsTrue}
use Rattle.tsd_model.specs.Pairs.{holds}
use Rattle.tsd_model.specs.World.{World, is_live, is_primary, has_number}
use Rattle.tsd_model.specs.Doomed.{doomed}

-- Some blocks are marked as gone, and some pairs from them are counted off; the others are left. A live block, not
-- primary, to which no pair is left is marked; of the block `next` it isn't known yet.
pub record IsMarkingBut (w : World) (next : ℕ) (gone : ℕ → Bool) (left : (ℕ × ℕ) → Bool) : Type 0 where
  -- what is marked is doomed
  pub sound : (b : ℕ) → IsTrue (gone b) → IsTrue (has_number (doomed w) b)
  -- what is counted off comes from a marked block
  pub taken : (a b : ℕ) → IsTrue (holds w.pairs a b) → left (a, b) ≡ false → IsTrue (gone a)
  -- to a marked block no pair is left
  pub spent : (a b : ℕ) → IsTrue (holds w.pairs a b) → IsTrue (gone b) → left (a, b) ≡ false
  pub found : (b : ℕ) → ¬ (b ≡ next) → IsTrue (is_live w b) → is_primary w b ≡ false
      → ((a : ℕ) → IsTrue (holds w.pairs a b) → left (a, b) ≡ false) → IsTrue (gone b)

-- The same, and it is known of each block.
pub record IsMarking (w : World) (gone : ℕ → Bool) (left : (ℕ × ℕ) → Bool) : Type 0 where
  pub sound : (b : ℕ) → IsTrue (gone b) → IsTrue (has_number (doomed w) b)
  pub taken : (a b : ℕ) → IsTrue (holds w.pairs a b) → left (a, b) ≡ false → IsTrue (gone a)
  pub spent : (a b : ℕ) → IsTrue (holds w.pairs a b) → IsTrue (gone b) → left (a, b) ≡ false
  pub found : (b : ℕ) → IsTrue (is_live w b) → is_primary w b ≡ false
      → ((a : ℕ) → IsTrue (holds w.pairs a b) → left (a, b) ≡ false) → IsTrue (gone b)

-- no pair from a marked block is left
abbrev pub IsCountedOff : World → (ℕ → Bool) → ((ℕ × ℕ) → Bool) → Type 0
IsCountedOff w gone left = (a b : ℕ) → IsTrue (holds w.pairs a b) → IsTrue (gone a) → left (a, b) ≡ false
