-- Pairs that a step of reclamation takes away, in memory and in its batch.
use Rattle.std.specs.Prelude.{◌≡◌, ℕ, ◌≤◌, ◌*◌, ◌+◌, Bool, false, cond, List, [], ◌∷◌, length, slice_set, IsTrue}
use Rattle.tsd_model.specs.Pairs.{holds, without_pair}
use Rattle.tsd_model.specs.World.{has_number, is_live, are_apart}
use Rattle.graph_laws.specs.Steps.{IsStep}
use Rattle.image_layout.specs.declared.offset.Patch.{Patch}
use Rattle.pointer_table.specs.Table.{Table as Pointers}
use Rattle.ref_counts.specs.Table.{Table as Counts}
use Rattle.image_world.specs.Sound.{AreSound}
use Rattle.image_world.specs.Tables.{Tables, pairs_of}
use Rattle.block_alloc.specs.LiveMap.{LiveMap}
use Rattle.reclaim.specs.declared.out_step.OutStep.{OutStep}
use Rattle.image_world.specs.Debt.{graph_in}
use Rattle.image_world.specs.Turns.{Turns}

-- these slots and counts are the tables'
pub record AreFor (t : Tables) (p : Pointers) (c : Counts) : Type 0 where
  pub slots_size : p.geometry ≡ t.geometry
  pub counts_size : c.geometry ≡ t.geometry
  pub slots : p.slots ≡ t.slots
  pub counts : c.counts ≡ t.counts

-- the tables with these slots and counts
abbrev pub with_slots_and_counts : Tables → Pointers → Counts → Tables
with_slots_and_counts t p c = record t { slots = p.slots; counts = c.counts }

-- pairs from block a to each of these are held, and none is named twice
pub record AreHeld (t : Tables) (a : ℕ) (bs : List ℕ) : Type 0 where
  pub held : (b : ℕ) → IsTrue (has_number bs b) → IsTrue (holds (pairs_of t) a b)
  pub once : IsTrue (are_apart bs)

-- the pairs but for those from a to each of these
abbrev pub pairs_without : List (ℕ × ℕ) → ℕ → List ℕ → List (ℕ × ℕ)
pairs_without es a [] = es
pairs_without es a (b ∷ bs) = pairs_without (without_pair a b es) a bs

-- The tables have these pairs no more, and the batch does the same to an image that has them.
pub record PairsAreTaken (t : Tables) (a : ℕ) (bs : List ℕ) (now : Tables) (batch : List Patch) : Type 0 where
  pub pairs : pairs_of now ≡ pairs_without (pairs_of t) a bs
  pub turns : Turns t now batch
  pub few : length batch ≤ 2 * length bs

-- tables that have these slots and counts, and hold these pairs
pub record MayTake (t : Tables) (p : Pointers) (c : Counts) (a : ℕ) (bs : List ℕ) : Type 0 where
  pub parts : AreFor t p c
  pub sound : AreSound t
  pub held : AreHeld t a bs

-- ---- a whole step

-- the live bits once the block is free, if it is freed
abbrev pub live_after : List Bool → ℕ → Bool → List Bool
live_after live a freed = cond freed (slice_set live a false) live

-- The tables after a step: the pairs are gone, and so is the block if it is freed.
pub record IsStepped (t now : Tables) (a : ℕ) (bs : List ℕ) (freed : Bool) : Type 0 where
  pub same : now ≡ record t { slots = now.slots; counts = now.counts; live = now.live }
  pub pairs : pairs_of now ≡ pairs_without (pairs_of t) a bs
  pub live : now.live ≡ live_after t.live a freed

-- the tables with these slots, counts and bits
abbrev pub with_all : Tables → Pointers → Counts → LiveMap → Tables
with_all t p c l = record t { slots = p.slots; counts = c.counts; live = l.live }

-- A step that the tables allow, of reclamation or of a sweep: it is at a live block that isn't primary, and takes at
-- most 16 of its pairs.
pub record IsAllowed (t : Tables) (s : OutStep) : Type 0 where
  pub live : IsTrue (is_live (graph_in t) s.block)
  pub apart : t.geometry.primaries ≤ s.block
  pub step : IsStep (graph_in t) s.block s.targets s.freed
  pub few : length s.targets ≤ 16

-- tables that have these slots, counts and bits, where this step is allowed
pub record MayPut (t : Tables) (p : Pointers) (c : Counts) (l : LiveMap) (s : OutStep) : Type 0 where
  pub parts : AreFor t p c
  pub live_size : l.geometry ≡ t.geometry
  pub live : l.live ≡ t.live
  pub sound : AreSound t
  pub next : IsAllowed t s

-- The step was made in these tables, and the batch makes it in an image.
pub record IsStepPut (t : Tables) (s : OutStep) (now : Tables) (batch : List Patch) : Type 0 where
  pub stepped : IsStepped t now s.block s.targets s.freed
  pub turns : Turns t now batch
  pub few : length batch ≤ 2 * length s.targets + cond s.freed 1 0
