-- What is kept ahead of reclamation, and when it is right.
use Rattle.std.specs.Prelude.{◌≡◌, ℕ, ◌<◌, ◌&&◌, not, Bool, false, List, [], length, slice_index, slice_index_or}
use Rattle.std.specs.Prelude.{IsTrue}
use Rattle.tsd_model.specs.Pairs.{holds}
use Rattle.tsd_model.specs.World.{World, is_free, has_number, are_apart}
use Rattle.tsd_model.specs.Doomed.{doomed}
use Rattle.reclaim.specs.declared.out_step.OutStep.{OutStep}
use Rattle.block_alloc.specs.LiveMap.{LiveMap, is_live}
use Rattle.graph_laws.specs.Counts.{kept_count, doomed_pairs}
use Rattle.graph_laws.specs.RawGraph.{IsLaidOut, IsRawGraph}
use Rattle.graph_laws.specs.Steps.{IsStep, IsLost}

pub record Kept : Type 0 where
  -- at index b how many pairs lead to block b from blocks that aren't doomed
  pub counts : List ℕ
  -- at index b whether block b is doomed
  pub gone : List Bool
  -- how many blocks are doomed, and how many pairs come from them
  pub doomed : ℕ
  pub pairs : ℕ

abbrev pub kept_ahead : List ℕ → List Bool → ℕ → ℕ → Kept
kept_ahead counts gone number pairs = record { counts = counts; gone = gone; doomed = number; pairs = pairs }

abbrev pub is_gone : List Bool → ℕ → Bool
is_gone gone b = slice_index_or gone b false

-- What is kept is right of this world.
pub record IsAheadOf (w : World) (k : Kept) : Type 0 where
  pub counts_each : length k.counts ≡ w.geometry.blocks
  pub marks_each : length k.gone ≡ w.geometry.blocks
  pub counted : (b : ℕ) → b < w.geometry.blocks → slice_index k.counts b ≡ kept_count w b
  pub told : (b : ℕ) → is_gone k.gone b ≡ has_number (doomed w) b
  pub number : k.doomed ≡ length (doomed w)
  pub off : k.pairs ≡ length (doomed_pairs w)

-- Of the blocks that are live in the bitmap exactly these are hidden.
abbrev pub Hides : LiveMap → (ℕ → Bool) → Type 0
Hides live hidden = (b : ℕ) → is_live live.unhidden b ≡ (is_live live.live b && not (hidden b))

-- ---- what it may be told of

-- A pair that isn't held is added to this world between blocks that aren't doomed.
pub record IsAdding (w : World) (a t : ℕ) (k : Kept) : Type 0 where
  pub raw : IsRawGraph w
  pub within : t < w.geometry.blocks
  pub absent : holds w.pairs a t ≡ false
  pub source : is_gone k.gone a ≡ false
  pub target : is_gone k.gone t ≡ false
  pub ahead : IsAheadOf w k

-- Free blocks of this world, in which nothing is doomed, become live, each with a pair to it.
pub record IsGrowing (w : World) (bs : List ℕ) (k : Kept) : Type 0 where
  pub raw : IsRawGraph w
  pub none : doomed w ≡ []
  pub once : IsTrue (are_apart bs)
  pub free : (b : ℕ) → IsTrue (has_number bs b) → IsTrue (is_free w b)
  pub ahead : IsAheadOf w k

-- A pair of this world is deleted between blocks that aren't doomed.
pub record IsDeleting (w : World) (a t : ℕ) (k : Kept) : Type 0 where
  pub raw : IsRawGraph w
  pub held : IsTrue (holds w.pairs a t)
  pub source : is_gone k.gone a ≡ false
  pub target : is_gone k.gone t ≡ false
  pub ahead : IsAheadOf w k

-- A step of reclamation is carried out in this world.
pub record IsStepping (w : World) (s : OutStep) (k : Kept) : Type 0 where
  pub laid_out : IsLaidOut w
  pub lost : IsLost w s.block
  pub step : IsStep w s.block s.targets s.freed
  pub ahead : IsAheadOf w k
