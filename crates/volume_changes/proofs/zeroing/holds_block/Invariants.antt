use Rattle.std.proofs.Common.{◌≡◌, ◌<◌, ℕ, true, false}
use Rattle.image_layout.specs.Offsets.{data_sector}
use Rattle.intent_journal.specs.Batch.{has_home}
use Rattle.intent_journal.specs.Records.{patches_of}
use Rattle.volume_changes.proofs.zeroing.holds_block.Given as goal

abbrev pub invariant-loop-part : goal.invariant-loop-part
invariant-loop-part l = record {
  missed : l.is_held ≡ false → (part : ℕ) → part < l.part → has_home (patches_of l.ring) (data_sector l.layout.geometry l.block part) ≡ false;
  held : l.is_held ≡ true → ¬ ((part : ℕ) → part < l.layout.geometry.sectors → has_home (patches_of l.ring) (data_sector l.layout.geometry l.block part) ≡ false);
}
