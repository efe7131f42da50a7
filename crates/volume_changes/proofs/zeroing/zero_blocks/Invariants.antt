use Rattle.std.proofs.Common.{◌≡◌, ◌<◌, ◌*◌, ℕ}
use Rattle.std.specs.Prelude.{slice_index}
use Rattle.image_device.specs.Calls.{Uses}
use Rattle.image_device.specs.Image.{zeros}
use Rattle.image_device.specs.Runs.{IsConfined}
use Rattle.image_layout.specs.Offsets.{data_sector}
use Rattle.volume_laws.specs.Zeroed.{is_data}
use Rattle.volume_changes.proofs.zeroing.zero_blocks.Given as goal

abbrev pub invariant-loop-index : goal.invariant-loop-index
invariant-loop-index g l =
    let view = g.D.Device.view in
    record {
      zeroed : g.D.Device.told → (k part : ℕ) → k < l.index → part < l.layout.geometry.sectors → (view l.dev).reads (data_sector l.layout.geometry (slice_index l.blocks k) part) ≡ zeros;
      confined : g.D.Device.told → IsConfined (is_data l.layout.geometry l.blocks) (view l.fn.dev) (view l.dev);
      uses : Uses (l.layout.geometry.sectors * l.index) (view l.fn.dev) (view l.dev);
      faultless : (view l.dev).faults ≡ (view l.fn.dev).faults;
    }
