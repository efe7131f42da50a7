use Rattle.std.proofs.Common.{◌≡◌, ◌<◌, ℕ, true, false}
use Rattle.std.specs.Prelude.{slice_index}
use Rattle.image_layout.specs.Offsets.{data_sector}
use Rattle.intent_journal.specs.Batch.{has_home}
use Rattle.intent_journal.specs.Records.{patches_of}
use Rattle.volume_laws.specs.Zeroed.{AreMissed}
use Rattle.volume_changes.proofs.zeroing.holds_data.Given as goal

abbrev pub invariant-loop-index : goal.invariant-loop-index
invariant-loop-index l = record {
  missed : l.is_held ≡ false → (k part : ℕ) → k < l.index → part < l.layout.geometry.sectors → has_home (patches_of l.ring) (data_sector l.layout.geometry (slice_index l.blocks k) part) ≡ false;
  held : l.is_held ≡ true → ¬ AreMissed l.layout.geometry (patches_of l.ring) l.blocks;
}
