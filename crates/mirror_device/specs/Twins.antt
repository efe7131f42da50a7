-- Two stations in memory with a record of all that was done to them.
use Rattle.std.specs.Prelude.{List}
use Rattle.mirror_device.specs.declared.entry.LogEntry.{LogEntry}
use Rattle.mirror_device.specs.declared.twins.Twins.{Twins}
use Rattle.mirror_device.specs.SidesView.{SidesView, SidesAreSound}
use Rattle.mirror_device.specs.History.{with_lapse, history_view}
use Rattle.mirror_device.specs.HistoryLaws.{history_sound}

-- all that was done
abbrev pub log_entries : Twins → List LogEntry
log_entries d = with_lapse d.log.items d.lapse

abbrev pub twins_view : Twins → SidesView
twins_view d = history_view (log_entries d) d.put_faults

pub twins_sound : (d : Twins) → SidesAreSound (twins_view d)
twins_sound d = history_sound (log_entries d) d.put_faults d.pair d.agrees
