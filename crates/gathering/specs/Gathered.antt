-- A gathering device: a disk in memory that begins as the real one reads, its journal closed, and to which since then
-- only what its log tells was done.
use Rattle.std.specs.Prelude.{ℕ, ◌-◌, ◌≡◌, true, false, cond, get_or, List, ◌++◌, Option, None, unwrap_or}
use Rattle.image_device.specs.declared.event.Event.{Event}
use Rattle.image_device.specs.Image.{Image, IsSector, zeros}
use Rattle.image_device.specs.View.{View, IsLeftNow, IsSound}
use Rattle.image_device.specs.Runs.{LeavesOnly}
use Rattle.image_device.specs.History.{HistoryState, after}
use Rattle.image_device.specs.Laws.{counts_now, only_now}
use Rattle.image_device.specs.MemStation.{history_view}
use Rattle.image_layout.specs.declared.offset.Patch.{Patch}
use Rattle.image_layout.specs.Ring.{ring_start}
use Rattle.intent_journal.specs.Home.{home, overlaid, is_journal}
use Rattle.std.proofs.Common.{refl}

-- what an image stands for, with zeros in the sectors of the journal, so that no record is open
abbrev pub cleared : Image → Image
cleared x n = cond (is_journal n) zeros (home x n)

-- the same with these patches in place
abbrev pub gone_on : List Patch → Image → Image
gone_on batch x = overlaid batch (cleared x)

-- the disk in memory as a group begins on this device: nothing is loose
abbrev pub begun_on : View → HistoryState
begun_on v = record { reads = cleared v.reads; synced = cleared v.reads; loose = λ n. false; sent = v.sent }

-- the disk in memory after these events
abbrev pub gathered_view : View → List Event → ℕ → ℕ → ℕ → View
gathered_view v es faults put_faults writes = history_view (begun_on v) es faults put_faults writes

-- each of its sectors has 512 bytes
abbrev pub AreWhole : View → List Event → Type 0
AreWhole v es = (n : ℕ) → IsSector ((after es (begun_on v)).reads n)

pub gathered_sound : (v : View) (es : List Event) (faults put_faults writes : ℕ) → AreWhole v es
    → IsSound (gathered_view v es faults put_faults writes)
gathered_sound v es faults put_faults writes whole = record {
  counts_now = λ t x f le now. counts_now t es (begun_on v) x f now;
  only_now = λ x f left. only_now es (begun_on v) x f left;
  own = record { agrees = λ n h. refl; whole = whole };
}

-- how many sectors a journal has
abbrev pub journal_size : ℕ
journal_size = 129

-- A sector of the journal reads as these have it, from its first one on, and else as before the events.
abbrev pub AreLastOfJournal : List Event → List (Option (List ℕ)) → Type 0
AreLastOfJournal es last =
    (s : HistoryState) (n : ℕ) → is_journal n ≡ true
    → (after es s).reads n ≡ unwrap_or (get_or last (n - ring_start) None) (s.reads n)

-- Outside the journal the batch does to a disk what the events do.
abbrev pub IsNet : List Event → List Patch → Type 0
IsNet es batch =
    (s : HistoryState) (n : ℕ) → is_journal n ≡ false → (after es s).reads n ≡ overlaid batch s.reads n

-- the bytes that the events put
abbrev pub ArePut : List Event → List ℕ → Type 0
ArePut es bytes = (s : HistoryState) → (after es s).sent ≡ s.sent ++ bytes

-- Since this start a device has only been read.
pub record HasRested (start now : View) : Type 0 where
  pub reads : now.reads ≡ start.reads
  pub loose : now.loose ≡ start.loose
  pub sent : now.sent ≡ start.sent
  pub leaves : LeavesOnly start now (IsLeftNow start)
