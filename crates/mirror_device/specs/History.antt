-- Two stations in memory: what a list of entries, the oldest first, makes of both, and what a crash may have left.
use Rattle.std.specs.Prelude.{ℕ, suc, zero, ◌-◌, ◌^◌, ◌==◌, ◌⊎◌, List, [], ◌∷◌, ◌++◌, length}
use Rattle.mirror_device.specs.declared.side.Side.{Side}
use Rattle.mirror_device.specs.declared.side.Side.TheVariants.{First, Second}
use Rattle.mirror_device.specs.declared.entry.LogEntry.{LogEntry}
use Rattle.mirror_device.specs.declared.entry.LogEntry.TheVariants.{Write, Sync, Put, Poke, Fail}
use Rattle.mirror_device.specs.declared.entry.Lapse.{Lapse}
use Rattle.mirror_device.specs.declared.entry.Lapse.TheVariants.{Never, Of, OfBoth}
use Rattle.mirror_device.specs.SidesView.{SideView, SidesView, Item, other, IsItemNow, IsItemWithin, IsItemInPut}
use Rattle.mirror_device.specs.MemSide.{blank_side, written, poked, settled, blamed}

-- both sides as they stand, and the bytes put
pub record Stand : Type 0 where
  pub first : SideView
  pub second : SideView
  pub sent : List ℕ

-- nothing was done yet
abbrev pub begun : Stand
begun = record { first = blank_side; second = blank_side; sent = [] }

-- one side changes
abbrev pub on : Side → (SideView → SideView) → Stand → Stand
on First f s = record { first = f s.first; second = s.second; sent = s.sent }
on Second f s = record { first = s.first; second = f s.second; sent = s.sent }

-- bytes are put
abbrev pub appended : List ℕ → Stand → Stand
appended piece s = record { first = s.first; second = s.second; sent = s.sent ++ piece }

-- one entry
abbrev pub step : Stand → LogEntry → Stand
step s (Write side sector bytes) = on side (written sector bytes.value) s
step s (Sync side) = on side settled s
step s (Put piece) = appended piece.items s
step s (Poke side sector bytes) = on side (poked sector bytes.value) s
step s (Fail side faults) = on side (blamed faults) s

-- all of them
abbrev pub after : List LogEntry → Stand → Stand
after [] s = s
after (e ∷ es) s = after es (step s e)

-- the same as two images under one clock, that had no past
abbrev pub still : Stand → SidesView
still s = record {
  first = s.first;
  second = s.second;
  sent = s.sent;
  clock = 0;
  left = λ t i. Unit {0};
  put_faults = 0;
}

-- what a crash between two entries leaves
abbrev pub IsNow : Stand → Item → Type 0
IsNow s i = IsItemNow (still s) i

-- what a crash inside an entry leaves
abbrev pub IsDuring : Stand → LogEntry → Item → Type 0
IsDuring s (Write side sector bytes) i = IsItemWithin side (λ n. n == sector) (still s) i
IsDuring s (Sync side) i = IsNow s i
IsDuring s (Put piece) i = IsItemInPut piece.items (still s) i
IsDuring s (Poke side sector bytes) i = IsNow s i
IsDuring s (Fail side faults) i = IsNow s i

-- what a crash at some moment leaves
abbrev pub Had : List LogEntry → Stand → Item → Type 0
Had [] s i = IsNow s i
Had (e ∷ es) s i = IsDuring s e i ⊎ Had es (step s e) i

-- the same from a moment on, where each entry is one moment
abbrev pub HadSince : ℕ → List LogEntry → Stand → Item → Type 0
HadSince zero es s i = Had es s i
HadSince (suc t) [] s i = IsNow s i
HadSince (suc t) (e ∷ es) s i = HadSince t es (step s e) i

-- the failed call for which the record had no room
abbrev pub lapse_of : Side → LogEntry
lapse_of side = Fail side (2 ^ 64 - 1)

-- all that was done: the record, and the failed calls for which it had no room
abbrev pub with_lapse : List LogEntry → Lapse → List LogEntry
with_lapse log Never = log
with_lapse log (Of side) = log ++ lapse_of side ∷ []
with_lapse log (OfBoth side) = (log ++ lapse_of side ∷ []) ++ lapse_of (other side) ∷ []

-- what a list of entries says of two images, with the count of failed puts
abbrev pub history_view : List LogEntry → ℕ → SidesView
history_view es put_faults = record {
  first = (after es begun).first;
  second = (after es begun).second;
  sent = (after es begun).sent;
  clock = length es;
  left = λ t i. HadSince t es begun i;
  put_faults = put_faults;
}
