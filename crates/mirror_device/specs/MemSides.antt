-- Two stations in memory whose calls are numbered together.
use Rattle.std.specs.Prelude.{ℕ, ◌≡◌, Bool, true, false, List, Result, OnOk, OnErr, IsErr}
use Rattle.image_device.specs.Image.{Image}
use Rattle.image_device.specs.Counts.{raised}
use Rattle.mirror_device.specs.declared.entry.LogEntry.{LogEntry}
use Rattle.mirror_device.specs.declared.entry.Lapse.TheVariants.{Never}
use Rattle.mirror_device.specs.declared.mem_sides.MemSides.{MemSides}
use Rattle.mirror_device.specs.declared.side.Side.{Side}
use Rattle.mirror_device.specs.SidesView.{SidesView, SidesAreSound}
use Rattle.mirror_device.specs.Numbers.{is_one_of}
use Rattle.mirror_device.specs.Pair.{synced_on}
use Rattle.mirror_device.specs.Twins.{log_entries, twins_view, twins_sound}

abbrev pub mem_view : MemSides → SidesView
mem_view m = twins_view m.twins

pub mem_sound : (m : MemSides) → SidesAreSound (mem_view m)
mem_sound m = twins_sound m.twins

-- all that was done
abbrev pub done_of : MemSides → List LogEntry
done_of m = log_entries m.twins

-- the sectors of a side as its last sync held them
abbrev pub synced_of : Side → MemSides → Image
synced_of side m = synced_on side m.twins.pair

-- how many calls came, which of them are to fail, and how often memory was short
abbrev pub calls_of : MemSides → ℕ
calls_of m = m.calls

abbrev pub failing_of : MemSides → List ℕ
failing_of m = m.fail.items

abbrev pub short_of : MemSides → ℕ
short_of m = m.short

-- the next call is one of those that are to fail
abbrev pub is_failing : MemSides → Bool
is_failing m = is_one_of m.calls m.fail.items

-- Each failed call is in the record. One that isn't, for want of memory, has raised its side's count to the greatest
-- u64.
abbrev pub IsRecorded : MemSides → Type 0
IsRecorded m = m.twins.lapse ≡ Never

-- One call came. It failed where its number is one of those that are to fail, and else only for want of memory.
pub record IsCalled {T E : Type 0} (old new : MemSides) (result : Result T E) : Type 0 where
  pub calls : calls_of new ≡ raised (calls_of old)
  pub fail : failing_of new ≡ failing_of old
  pub numbered : is_failing old ≡ true → IsErr result × (short_of new ≡ short_of old)
  pub wanting : is_failing old ≡ false → OnErr result (short_of new ≡ raised (short_of old))
  pub fine : OnOk result (short_of new ≡ short_of old)
