use Rattle.std.proofs.Common.{◌≡◌, ◌*◌, length}
use Rattle.image_device.specs.Calls.{Rests, Uses}
use Rattle.image_layout.specs.Image.{sector_bytes}
use Rattle.image_layout.specs.Offsets.{data_sector}
use Rattle.intent_journal.specs.Home.{home}
use Rattle.volume_changes.proofs.parts.read_parts.Given as goal

-- the first parts are read
abbrev pub invariant-loop-part : goal.invariant-loop-part
invariant-loop-part g l =
    let view = g.D.Device.view in
    record {
      bytes : g.D.Device.told → l.into ≡ sector_bytes (home (view l.fn.dev).reads) (data_sector l.layout.geometry l.block 0) l.part;
      long : length l.into ≡ 512 * l.part;
      rests : g.D.Device.told → Rests (view l.fn.dev) (view l.dev);
      uses : Uses 0 (view l.fn.dev) (view l.dev);
      faultless : (view l.dev).faults ≡ (view l.fn.dev).faults;
    }
