-- What a crash leaves of a group of requests: all of it or nothing.
use Rattle.std.specs.Prelude.{ℕ, ◌≡◌, ◌⊎◌, ◌==◌, ◌+◌, ◌++◌, true, cond, List}
use Rattle.image_device.specs.Image.{Image}
use Rattle.image_device.specs.View.{View, IsPart}
use Rattle.image_layout.specs.declared.offset.Patch.{Patch}
use Rattle.intent_journal.specs.Crash.{IsBefore, IsAfter}
use Rattle.intent_journal.specs.Home.{home, is_journal, AgreeBut}
use Rattle.intent_journal.specs.Records.{has_valid_records}

-- These sectors are the image's home: each open record of it is valid, and outside the journal it stands for them.
pub record IsHomeOf (sectors x : Image) : Type 0 where
  pub valid : has_valid_records x ≡ true
  pub stands : AgreeBut is_journal sectors (home x)

-- all that was sent before is sent, and behind it only what was put since
pub record IsSentBetween (before now f : List ℕ) : Type 0 where
  pub front : List ℕ
  pub back : List ℕ
  pub sent : f ≡ before ++ front
  pub rest : now ≡ f ++ back

-- What a flush leaves: what the device stood for before, with nothing more sent, or that with the whole batch in place,
-- with a front of the waiting bytes sent.
abbrev pub IsLeftByFlush : List Patch → List ℕ → View → Image → List ℕ → Type 0
IsLeftByFlush batch waiting old x f =
    (IsBefore old x × (f ≡ old.sent)) ⊎ (IsAfter batch old x × IsPart old.sent waiting f)

-- what a disk holds, and what has been sent beside it
pub record Moment : Type 0 where
  pub sectors : Image
  pub sent : List ℕ

abbrev pub moment_of : View → Moment
moment_of v = record { sectors = v.reads; sent = v.sent }

-- nothing of a group counts: what the device stood for at its start, with nothing more sent
abbrev pub IsLeftAtStart : Moment → Image → List ℕ → Type 0
IsLeftAtStart start x f = IsHomeOf (home start.sectors) x × (f ≡ start.sent)

-- What a group leaves between these two moments, of the real device at its start and of the disk in memory at its end:
-- the former as it was, with nothing more sent, or the latter, with no more sent than was put.
abbrev pub IsLeftByGroup : Moment → Moment → Image → List ℕ → Type 0
IsLeftByGroup start end x f =
    IsLeftAtStart start x f ⊎ (IsHomeOf end.sectors x × IsSentBetween start.sent end.sent f)

-- How often a flush writes at most, by the homes of its group: none where there is no home, and else a body for each, a
-- descriptor and a gate, and before them what empties a full ring.
abbrev pub most_writes : ℕ → ℕ
most_writes homes = cond (homes == 0) 0 (homes + 2 + 121)
