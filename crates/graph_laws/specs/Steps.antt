-- Steps that take pairs and blocks away, of reclamation or of a sweep.
use Rattle.std.specs.Prelude.{◌≡◌, ℕ, ◌+◌, ◌≤◌, Bool, true, false, cond, List, [], ◌∷◌, length, filter, slice_set, None}
use Rattle.std.specs.Prelude.{IsTrue}
use Rattle.tsd_model.specs.Pairs.{holds}
use Rattle.tsd_model.specs.World.{World, is_live, has_number, free_count, are_apart}
use Rattle.tsd_model.specs.Step.{without_pointer}
use Rattle.tsd_model.specs.Valid.{IsRaw}
use Rattle.graph_laws.specs.RawGraph.{IsLaidOut, IsRawGraph}

-- the pairs that pass, and no others
abbrev pub with_pairs_that : World → ((ℕ × ℕ) → Bool) → World
with_pairs_that w keep = record w { pairs = filter keep w.pairs }

-- block b is free
abbrev pub with_free : World → ℕ → World
with_free w b = record w { blocks = slice_set w.blocks b None }

-- without the pairs from a to each of these
abbrev pub without_pointers : World → ℕ → List ℕ → World
without_pointers w a [] = w
without_pointers w a (b ∷ bs) = without_pointers (without_pointer w a b) a bs

-- block a loses the pairs to these targets, and becomes free if `freed`
abbrev pub stepped : World → ℕ → List ℕ → Bool → World
stepped w a bs true = with_free (without_pointers w a bs) a
stepped w a bs false = without_pointers w a bs

-- A pair to each of these targets is held, and none stands twice.
pub record AreTargets (w : World) (a : ℕ) (targets : List ℕ) : Type 0 where
  pub held : (b : ℕ) → IsTrue (has_number targets b) → IsTrue (holds w.pairs a b)
  pub once : IsTrue (are_apart targets)

-- Pairs lead neither from the block nor to it.
pub record IsAlone (w : World) (b : ℕ) : Type 0 where
  pub out : (c : ℕ) → holds w.pairs b c ≡ false
  pub into : (a : ℕ) → holds w.pairs a b ≡ false

-- Some pairs are taken from the block, and it is freed only once pairs lead neither from it nor to it.
pub record IsStep (w : World) (a : ℕ) (targets : List ℕ) (freed : Bool) : Type 0 where
  pub taken : AreTargets w a targets
  pub last : IsTrue freed → IsAlone (without_pointers w a targets) a

-- The block is lost: live and not primary, and no pair leads to it.
pub record IsLost (w : World) (b : ℕ) : Type 0 where
  pub live : IsTrue (is_live w b)
  pub apart : w.geometry.primaries ≤ b
  pub alone : (a : ℕ) → holds w.pairs a b ≡ false

-- ---- laws

-- A step leaves a raw world raw, and a raw graph too.
abbrev pub StepStaysRaw : Type 0
StepStaysRaw =
    (r : World) (a : ℕ) (targets : List ℕ) (freed : Bool) → r.geometry.primaries ≤ a → IsStep r a targets freed
    → (IsRaw r → IsRaw (stepped r a targets freed)) × (IsRawGraph r → IsRawGraph (stepped r a targets freed))

-- A step at a live block takes away its pairs, and the block if it is freed.
abbrev pub StepTakes : Type 0
StepTakes =
    (r : World) (a : ℕ) (targets : List ℕ) (freed : Bool) → IsLaidOut r → IsTrue (is_live r a) → AreTargets r a targets
    → (length r.pairs ≡ length targets + length (stepped r a targets freed).pairs)
    × (free_count (stepped r a targets freed) ≡ cond freed 1 0 + free_count r)
