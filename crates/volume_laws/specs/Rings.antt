-- What a call does to the records of the journal.
use Rattle.std.specs.Prelude.{◌≡◌, ◌⊎◌, ℕ, zero, suc, ◌+◌, ◌*◌, ◌≤◌, ◌==◌, cond, List, [], length, Result, OnOk}
use Rattle.tsd_model.specs.declared.geometry.Geometry.{Geometry}
use Rattle.image_device.specs.View.{View}
use Rattle.image_device.specs.declared.device.Failed.{Failed}
use Rattle.image_layout.specs.declared.offset.Patch.{Patch}
use Rattle.intent_journal.specs.Records.{JournalRecord, patches_of}
use Rattle.intent_journal.specs.Ring.{committed, is_full_for, checkpoint_writes}
use Rattle.volume_laws.specs.Volume.{Volume}
use Rattle.volume_laws.specs.Zeroed.{AreMissed}

-- One batch of at most so many homes was committed, or none. The records stay, unless they leave no room for it: then
-- they are put in place before it.
abbrev pub HasBatch : ℕ → List JournalRecord → List JournalRecord → Type 0
HasBatch homes old new = (batch : List Patch) × (length batch ≤ homes) × (new ≡ committed old batch)

-- at most so many such batches, one after another
abbrev pub HasBatches : ℕ → ℕ → List JournalRecord → List JournalRecord → Type 0
HasBatches zero homes old new = new ≡ old
HasBatches (suc count) homes old new =
    (mid : List JournalRecord) × HasBatches count homes old mid × HasBatch homes mid new

-- New blocks were added, in one batch. The records before it were put in place first only where one of them holds a
-- sector of these blocks.
abbrev pub HasNewBlocks : Geometry → List ℕ → List JournalRecord → List JournalRecord → Type 0
HasNewBlocks g blocks old new =
    (way : List JournalRecord) × ((way ≡ old) ⊎ ((way ≡ []) × ¬ AreMissed g (patches_of old) blocks))
    × HasBatch (3 * length blocks) way new

-- how often is written for a batch of so many homes: each body, a descriptor and a gate, and where it has no room a
-- checkpoint first
abbrev pub batch_writes : List JournalRecord → ℕ → ℕ
batch_writes rs homes = cond (homes == 0) 0 (homes + 2 + cond (is_full_for rs homes) (checkpoint_writes rs) 0)

-- A call that commits at most one batch, of at most so many homes, and writes nothing else.
pub record CommitsOnce {T : Type 0} (homes : ℕ) (old new : Volume) (v w : View)
    (result : Result T Failed) : Type 0 where
  pub ring : OnOk result (HasBatch homes old.ring new.ring)
  pub most : w.writes ≤ v.writes + batch_writes old.ring homes
