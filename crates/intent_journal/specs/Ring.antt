-- What a ring holds: the records that are on the disk and not in place yet.
use Rattle.std.specs.Prelude.{ℕ, ◌+◌, ◌≡◌, ◌≢◌, ◌≤◌, ◌<◌, ◌==◌, ◌||◌, nat_lt, Bool, false, true, cond, List, [], ◌∷◌}
use Rattle.std.specs.Prelude.{◌++◌, length, count_by, Contains}
use Rattle.std.specs.List.{range_with_len}
use Rattle.image_device.specs.Image.{Image}
use Rattle.image_device.specs.View.{View}
use Rattle.image_layout.specs.declared.offset.Patch.{Patch}
use Rattle.image_layout.specs.Ring.{records, bodies}
use Rattle.intent_journal.specs.Batch.{IsBatch, has_home}
use Rattle.intent_journal.specs.Home.{is_journal}
use Rattle.intent_journal.specs.Records.{JournalRecord, patches_of, open_records, is_gate_open}
use Rattle.intent_journal.specs.declared.ring.Replayed.{Replayed}
use Rattle.intent_journal.specs.declared.ring.Replayed.TheVariants.{Nothing, Homes}

-- the last patch of each home
abbrev pub last_patches : List Patch → List Patch
last_patches [] = []
last_patches (p ∷ ps) = cond (has_home ps p.sector) (last_patches ps) (p ∷ last_patches ps)

-- at most eight records, none empty, with at most 113 bodies together
pub record IsRing (rs : List JournalRecord) : Type 0 where
  pub most : length rs ≤ records
  pub fits : length (patches_of rs) ≤ bodies
  pub each : (r : JournalRecord) → Contains rs r → IsBatch r × (r ≢ [])

-- The ring is what a device has: its records are the open ones there, every other gate reads closed, and no sector of
-- the journal is loose.
pub record IsRingAt (rs : List JournalRecord) (v : View) : Type 0 where
  pub shows : open_records v.reads ≡ rs
  pub others_closed : (index : ℕ) → length rs ≤ index → index < records → is_gate_open v.reads index ≡ false
  pub journal_firm : (n : ℕ) → is_journal n ≡ true → v.loose n ≡ false

-- a batch of so many bodies has no room behind these records: all eight are used, or too few bodies are left
abbrev pub is_full_for : List JournalRecord → ℕ → Bool
is_full_for rs len = (length rs == records) || nat_lt bodies (length (patches_of rs) + len)

-- the ring once a batch is committed: an empty batch changes nothing, and a ring without room is emptied first
abbrev pub committed : List JournalRecord → List Patch → List JournalRecord
committed rs batch = cond (length batch == 0) rs (cond (is_full_for rs (length batch)) (batch ∷ []) (rs ++ batch ∷ []))

-- how many distinct homes these records have
abbrev pub distinct_homes : List JournalRecord → ℕ
distinct_homes rs = length (last_patches (patches_of rs))

-- how often is written: for a checkpoint each home once and the gate of each record
abbrev pub checkpoint_writes : List JournalRecord → ℕ
checkpoint_writes rs = distinct_homes rs + length rs

-- for a commit its bodies, a descriptor and a gate, and a checkpoint before them where there is no room
abbrev pub commit_writes : List JournalRecord → List Patch → ℕ
commit_writes rs batch =
    cond (length batch == 0) 0 (length batch + 2 + cond (is_full_for rs (length batch)) (checkpoint_writes rs) 0)

-- what a replay answers where these records are open
abbrev pub IsReplayFound : List JournalRecord → Replayed → Type 0
IsReplayFound rs Nothing = rs ≡ []
IsReplayFound rs (Homes count) = (rs ≢ []) × (count ≡ distinct_homes rs)

-- how many gates read open, also behind a closed one
abbrev pub open_gates : Image → ℕ
open_gates image = count_by (is_gate_open image) (range_with_len 0 records)

-- how often a replay writes: each home of the open records once, and each gate that reads open
abbrev pub replay_writes : Image → ℕ
replay_writes image = distinct_homes (open_records image) + open_gates image
