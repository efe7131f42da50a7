use Rattle.std.proofs.Common.{◌≡◌, ◌<◌, ℕ}
use Rattle.image_device.specs.Calls.{Uses}
use Rattle.image_device.specs.Image.{zeros}
use Rattle.image_device.specs.Runs.{IsConfined}
use Rattle.image_layout.specs.Offsets.{data_sector}
use Rattle.volume_laws.specs.Zeroed.{is_part}
use Rattle.volume_changes.proofs.zeroing.zero_block.Given as goal

abbrev pub invariant-loop-part : goal.invariant-loop-part
invariant-loop-part g l =
    let view = g.D.Device.view in
    record {
      zeroed : g.D.Device.told → (part : ℕ) → part < l.part → (view l.dev).reads (data_sector l.layout.geometry l.block part) ≡ zeros;
      confined : g.D.Device.told → IsConfined (is_part l.layout.geometry l.block) (view l.fn.dev) (view l.dev);
      uses : Uses l.part (view l.fn.dev) (view l.dev);
      faultless : (view l.dev).faults ≡ (view l.fn.dev).faults;
    }
