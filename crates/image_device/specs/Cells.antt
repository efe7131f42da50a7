-- The sectors that a station in memory holds.
use Rattle.std.specs.Prelude.{ℕ, ◌<◌, ◌≤◌, ◌≡◌, ◌∷◌, ◌++◌, nat_eq, nat_lt, if◌then◌else◌, Bool, false, List, []}
use Rattle.std.specs.Prelude.{replicate, Option, Some, None}
use Rattle.image_device.specs.declared.cell.Cell.{Cell}
use Rattle.image_device.specs.declared.cell.Pick.{Pick}
use Rattle.image_device.specs.declared.event.Event.{Event}
use Rattle.image_device.specs.declared.cell.Pick.TheVariants.{Old, New, Torn}
use Rattle.image_device.specs.Image.{IsSector, zeros}
use Rattle.image_device.specs.History.{HistoryState}

-- the cell of each sector that was ever written
abbrev pub FoundCells : Type 0
FoundCells = ℕ → Option Cell

-- the cell of a sector never written
abbrev pub blank : Cell
blank = record { start = zeros; firm = zeros; last = zeros; written = 0 }

abbrev pub cell_or_blank : Option Cell → Cell
cell_or_blank None = blank
cell_or_blank (Some c) = c

-- It was written since the last sync: behind so many events stands that sync.
abbrev pub is_loose : ℕ → Cell → Bool
is_loose synced c = nat_lt synced c.written

-- what the last sync held
abbrev pub held : ℕ → Cell → List ℕ
held synced c = if is_loose synced c then c.firm else c.last

-- the cell after a write, which is the event of this number
abbrev pub written_cell : ℕ → ℕ → List ℕ → Cell → Cell
written_cell synced number bytes c = record { start = c.start; firm = held synced c; last = bytes; written = number }

-- the cell after a poke
abbrev pub poked_cell : List ℕ → Cell → Cell
poked_cell bytes c = record { start = c.start; firm = bytes; last = bytes; written = 0 }

-- what a loose sector holds after a crash
abbrev pub picked : Pick → Cell → List ℕ
picked Old c = c.firm
picked New c = c.last
picked (Torn b) c = replicate 512 b

-- what a sector holds after a crash
abbrev pub left_in : Pick → ℕ → Cell → List ℕ
left_in pick synced c = if is_loose synced c then picked pick c else c.last

-- the cell of a station that starts from there
abbrev pub settled_cell : Pick → ℕ → Cell → Cell
settled_cell pick synced c = record {
  start = left_in pick synced c;
  firm = left_in pick synced c;
  last = left_in pick synced c;
  written = 0;
}

-- the disk as the station was made
abbrev pub begun : FoundCells → HistoryState
begun found = record {
  reads = λ n. (cell_or_blank (found n)).start;
  synced = λ n. (cell_or_blank (found n)).start;
  loose = λ n. false;
  sent = [];
}

-- the disk as it stands
abbrev pub standing : FoundCells → ℕ → List ℕ → HistoryState
standing found synced sent = record {
  reads = λ n. (cell_or_blank (found n)).last;
  synced = λ n. held synced (cell_or_blank (found n));
  loose = λ n. is_loose synced (cell_or_blank (found n));
  sent = sent;
}

-- the cell holds whole sectors, and its last write is one of so many events
pub record IsWholeCell (events : ℕ) (c : Cell) : Type 0 where
  pub last : IsSector c.last
  pub firm : IsSector c.firm
  pub within : c.written ≤ events

-- the byte of a pick is one
abbrev pub FitsPick : Pick → Type 0
FitsPick Old = Unit {0}
FitsPick New = Unit {0}
FitsPick (Torn b) = b < 256

-- the cells with another one at a sector
abbrev pub updated : ℕ → Cell → FoundCells → FoundCells
updated sector c found n = if nat_eq sector n then Some c else found n

-- an event was kept, and the cell that it leaves at a sector
pub record IsEventKept (e : Event) (sector : ℕ) (c : Cell) (old_log new_log : List Event)
    (old new : FoundCells) : Type 0 where
  pub log : new_log ≡ old_log ++ e ∷ []
  pub cells : (n : ℕ) → new n ≡ updated sector c old n

-- nothing was kept
pub record IsSame (old_log new_log : List Event) (old new : FoundCells) : Type 0 where
  pub log : new_log ≡ old_log
  pub cells : (n : ℕ) → new n ≡ old n
