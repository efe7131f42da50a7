-- The bytes that are written into the ring.
use Rattle.std.specs.Prelude.{ℕ, ◌<◌, ◌≡◌, true, false, cond, List}
use Rattle.image_device.specs.Image.{Image}
use Rattle.image_layout.specs.Image.{gate_bytes}
use Rattle.image_layout.specs.Ring.{records, gate_sector, descriptor_sector}
use Rattle.image_layout.specs.declared.offset.Patch.{Patch}
use Rattle.intent_journal.specs.Batch.{homes_of}
use Rattle.intent_journal.specs.Descriptor.{descriptor_bytes}
use Rattle.intent_journal.specs.Records.{is_gate_open}

-- a record as it is written: an open gate, and a descriptor with zeros behind its homes
pub record IsRecordWritten (index : ℕ) (batch : List Patch) (image : Image) : Type 0 where
  pub gate : image (gate_sector index) ≡ gate_bytes true
  pub descriptor : image (descriptor_sector index) ≡ descriptor_bytes (homes_of batch)

-- each open gate is closed by zeros, and no other gate is written
abbrev pub ClosesGates : Image → Image → Type 0
ClosesGates old new =
    (index : ℕ) → index < records → new (gate_sector index)
    ≡ cond (is_gate_open old index) (gate_bytes false) (old (gate_sector index))
