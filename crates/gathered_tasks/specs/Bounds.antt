-- How often a request writes at most, with its records in place behind it.
use Rattle.std.specs.Prelude.{◌≡◌, ℕ, ◌+◌, ◌≤◌, ◌<◌, ◌==◌, Bool, false, true, cond, List, length}
use Rattle.disk_laws.specs.Reclaiming.{is_sweep}
use Rattle.tsd_model.specs.declared.geometry.Geometry.{Geometry}
use Rattle.tsd_model.specs.declared.requests.Request.{Request}
use Rattle.tsd_model.specs.declared.requests.Request.TheVariants as ask
use Rattle.image_layout.specs.Ring.{bodies}
use Rattle.image_layout.specs.declared.offset.Patch.{Patch}
use Rattle.image_world.specs.Debt.{owed}
use Rattle.image_world.specs.Tables.{pairs_of}
use Rattle.volume_laws.specs.Volume.{Volume}
use Rattle.volume_laws.specs.Writes.{batch_cost, zeroed_cost}
use Rattle.tsd_core.specs.Core.{Core}
use Rattle.tsd_core.specs.Journal.{count_of, makes_blocks, most_homes, waits}

-- one batch of so many homes: each body in the journal and in its place, a descriptor, and a gate that is opened and
-- closed; none where there is no home
abbrev pub once_cost : ℕ → ℕ
once_cost homes = cond (homes == 0) 0 (batch_cost homes)

-- Such a request waits for nothing: it commits one batch at most, or makes new blocks where nothing is left to be
-- reclaimed. It writes at most so often, where the journal is empty before it and is emptied behind it.
pub record IsBound (v : Volume) (q : Request) (most : ℕ) : Type 0 where
  pub once : makes_blocks q ≡ false → (waits v q ≡ false) × (once_cost (most_homes v.tables.geometry q) ≤ most)
  pub new : makes_blocks q ≡ true → (owed v.tables ≡ 0) × (zeroed_cost v.tables.geometry (count_of q) ≤ most)

-- what a step of reclamation costs
abbrev pub step_cost : ℕ
step_cost = batch_cost 33

-- ---- room for a request

-- it makes blocks or a pointer, which take what reclamation may give back
abbrev pub takes_freed : Request → Bool
takes_freed (ask.Alloc s a shown h count) = true
takes_freed (ask.Contig s a shown h count) = true
takes_freed (ask.Create s a shown b) = true
takes_freed q = false

-- it makes a pointer
abbrev pub makes_pointer : Request → Bool
makes_pointer (ask.Create s a shown b) = true
makes_pointer q = false

-- How much room a request is given in what was gathered: as often as it writes at most, with its records in place
-- behind it. A block of so many sectors is written by 2 * sectors + 3; new capabilities take 5, a pointer that comes or
-- goes 7, so many new blocks sectors * count + 6 * count + 3, and all else nothing.
abbrev pub room_for : Geometry → Request → ℕ
room_for g (ask.Write s b shown bytes) = batch_cost g.sectors
room_for g (ask.SetCap s b shown caps) = batch_cost 1
room_for g (ask.Delete s a shown b) = batch_cost 2
room_for g (ask.Create s a shown b) = batch_cost 2
room_for g (ask.Alloc s a shown h count) = zeroed_cost g count
room_for g (ask.Contig s a shown h count) = zeroed_cost g count
room_for g q = 0

-- Nothing is reclaimed before it or by it: nothing is left to be reclaimed where it takes what that gives back, a slot
-- is left where it makes a pointer, and it isn't a sweep.
pub record ReclaimsNothing (c : Core) (q : Request) : Type 0 where
  pub settled : takes_freed q ≡ true → owed c.volume.tables ≡ 0
  pub slot : makes_pointer q ≡ true → length (pairs_of c.volume.tables) < c.volume.tables.geometry.slots
  pub no_sweep : is_sweep q ≡ false

-- Nothing is reclaimed for it, and it is given its room beside what was gathered: there is room for 113 homes in all.
pub record HasRoomFor (c : Core) (batch : List Patch) (q : Request) : Type 0 where
  pub reclaims : ReclaimsNothing c q
  pub fits : length batch + room_for c.volume.tables.geometry q ≤ bodies
