-- Which blocks get bytes by a request that is granted, what it commits, and what is owed then.
use Rattle.std.specs.Prelude.{ℕ, ◌+◌, ◌-◌, ◌==◌, ◌||◌, Bool, true, false, cond, List, [], ◌∷◌, length}
use Rattle.disk_laws.specs.Reclaiming.{is_sweep}
use Rattle.tsd_model.specs.Placing.{chosen, chosen_run}
use Rattle.tsd_model.specs.Step.{run_at}
use Rattle.tsd_model.specs.World.{World}
use Rattle.tsd_model.specs.declared.geometry.Geometry.{Geometry}
use Rattle.tsd_model.specs.declared.requests.PlaceKind.{PlaceKind}
use Rattle.tsd_model.specs.declared.requests.Request.{Request}
use Rattle.tsd_model.specs.declared.requests.Request.TheVariants as ask
use Rattle.intent_journal.specs.Records.{JournalRecord}
use Rattle.image_world.specs.Debt.{owed}
use Rattle.image_world.specs.Tables.{pairs_of}
use Rattle.volume_laws.specs.Rings.{HasBatches, HasNewBlocks}
use Rattle.volume_laws.specs.Volume.{Volume, told_by}
use Rattle.tsd_core.specs.Work.{made_by}

-- the block that it writes, or the blocks that it makes
abbrev pub bytes_given : PlaceKind → World → Request → List ℕ
bytes_given kind w (ask.Write s b shown bytes) = b ∷ []
bytes_given kind w (ask.Alloc s a shown h count) = chosen kind w h count
bytes_given kind w (ask.Contig s a shown h count) = run_at (chosen_run kind w h count) count
bytes_given kind w q = []

-- it makes new blocks
abbrev pub makes_blocks : Request → Bool
makes_blocks (ask.Alloc s a shown h count) = true
makes_blocks (ask.Contig s a shown h count) = true
makes_blocks q = false

-- how many blocks it makes
abbrev pub count_of : Request → ℕ
count_of (ask.Alloc s a shown h count) = count
count_of (ask.Contig s a shown h count) = count
count_of q = 0

-- it holds a pointer more, while the pairs on the disk, those from doomed blocks too, fill the slots
abbrev pub finds_no_slot : Volume → Request → Bool
finds_no_slot v (ask.Create s a shown b) = length (pairs_of v.tables) == v.tables.geometry.slots
finds_no_slot v q = false

-- whether all that is doomed is reclaimed before it
abbrev pub waits : Volume → Request → Bool
waits v q = makes_blocks q || (finds_no_slot v q || is_sweep q)

-- how many homes its batch has at most
abbrev pub most_homes : Geometry → Request → ℕ
most_homes g (ask.Write s b shown bytes) = g.sectors
most_homes g (ask.SetCap s b shown caps) = 1
most_homes g (ask.Create s a shown b) = 2
most_homes g (ask.Delete s a shown b) = 2
most_homes g q = 0

-- What is owed then: nothing where it waits, and else what was owed and what a deletion dooms, but for the pointer that
-- goes at once.
abbrev pub owed_then : Volume → Request → ℕ
owed_then v q = cond (waits v q) 0 (owed v.tables + (made_by (told_by v) q - 1))

-- What new blocks leave of the journal: behind the records of what was reclaimed comes one batch.
abbrev pub HasGrown : PlaceKind → Request → Volume → Volume → Type 0
HasGrown kind q old new =
    (mid : List JournalRecord) × HasBatches (owed old.tables) 33 old.ring mid
    × HasNewBlocks old.tables.geometry (bytes_given kind (told_by old) q) mid new.ring
