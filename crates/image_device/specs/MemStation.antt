-- A station in memory as a device.
use Rattle.std.specs.HashMap.{get}
use Rattle.std.specs.List.{list_any}
use Rattle.std.specs.Prelude.{ℕ, ◌==◌, ◌≡◌, nat_eq, Bool, true, false, List, [], length, Result, OnOk, OnErr, IsErr}
use Rattle.std.proofs.Common.{refl, subst, sym}
use Rattle.image_device.specs.declared.mem.MemStation.{MemStation}
use Rattle.image_device.specs.declared.event.Event.{Event}
use Rattle.image_device.specs.Image.{Image, IsImage}
use Rattle.image_device.specs.View.{View, IsSound}
use Rattle.image_device.specs.Runs.{IsFirm}
use Rattle.image_device.specs.Counts.{raised}
use Rattle.image_device.specs.History.{HistoryState, after, HadSince}
use Rattle.image_device.specs.Cells.{FoundCells, begun, IsSame}
use Rattle.image_device.specs.Laws.{counts_now, only_now}

-- what a record of events says of a disk that began so, with the counts of failed calls, of failed puts and of writes
abbrev pub history_view : HistoryState → List Event → ℕ → ℕ → ℕ → View
history_view s es faults put_faults writes = record {
  reads = (after es s).reads;
  loose = (after es s).loose;
  sent = (after es s).sent;
  clock = length es;
  left = λ t x f. HadSince t es s x f;
  faults = faults;
  put_faults = put_faults;
  writes = writes;
}

abbrev pub found_in : MemStation → FoundCells
found_in m n = get nat_eq m.cells n

abbrev pub station_view : MemStation → View
station_view m = history_view (begun (found_in m)) m.log.items m.faults m.put_faults m.writes

-- the sectors as the last sync held them
abbrev pub synced_reads : MemStation → Image
synced_reads m = (after m.log.items (begun (found_in m))).synced

pub station_sound : (m : MemStation) → IsSound (station_view m)
station_sound m = record {
  counts_now = λ t x f le now. counts_now t m.log.items (begun (found_in m)) x f now;
  only_now = λ x f left. only_now m.log.items (begun (found_in m)) x f left;
  own =
      subst (λ (s : HistoryState). IsImage s.reads s.loose s.reads) (sym m.agrees) (record {
        agrees = λ n h. refl;
        whole = λ n. (m.whole n).last;
      });
}

-- how many calls came, which of them are to fail, and how often memory was short
abbrev pub calls_of : MemStation → ℕ
calls_of m = m.calls

abbrev pub failing_of : MemStation → List ℕ
failing_of m = m.fail.items

abbrev pub short_of : MemStation → ℕ
short_of m = m.short

-- the next call is one of those that are to fail
abbrev pub is_failing : MemStation → Bool
is_failing m = list_any (λ n. n == m.calls) m.fail.items

-- nothing was kept: the record and the sectors are as they were
abbrev pub KeepsNothing : MemStation → MemStation → Type 0
KeepsNothing old new = IsSame old.log.items new.log.items (found_in old) (found_in new)

-- nothing is loose, nothing was sent, and no call came yet
pub record IsUnused (m : MemStation) : Type 0 where
  pub firm : IsFirm (station_view m)
  pub sent : (station_view m).sent ≡ []
  pub clock : (station_view m).clock ≡ 0
  pub faults : (station_view m).faults ≡ 0
  pub put_faults : (station_view m).put_faults ≡ 0
  pub writes : (station_view m).writes ≡ 0
  pub calls : calls_of m ≡ 0
  pub short : short_of m ≡ 0

-- One call came. It failed where its number is one of those that are to fail, and else only for want of memory.
pub record IsCalled {T E : Type 0} (old new : MemStation) (result : Result T E) : Type 0 where
  pub calls : calls_of new ≡ raised (calls_of old)
  pub fail : failing_of new ≡ failing_of old
  pub numbered : is_failing old ≡ true → IsErr result × (short_of new ≡ short_of old)
  pub wanting : is_failing old ≡ false → OnErr result (short_of new ≡ raised (short_of old))
  pub unchanged : OnErr result (KeepsNothing old new)
  -- a call that answers Ok raises no count of failures
  pub fine : OnOk result ((short_of new ≡ short_of old) × (new.faults ≡ old.faults) × (new.put_faults ≡ old.put_faults))
