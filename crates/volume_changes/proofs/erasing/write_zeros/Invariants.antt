use Rattle.std.proofs.Common.{◌≡◌, ◌<◌, ℕ, ◌+◌}
use Rattle.image_device.specs.Calls.{Uses}
use Rattle.image_device.specs.Image.{zeros}
use Rattle.image_device.specs.Runs.{IsConfined}
use Rattle.volume_laws.specs.Erased.{is_body}
use Rattle.volume_changes.proofs.erasing.write_zeros.Given as goal

-- the first bodies are erased
abbrev pub invariant-loop-body : goal.invariant-loop-body
invariant-loop-body g l =
    let view = g.D.Device.view in
    record {
      erased : g.D.Device.told → (k : ℕ) → k < l.body → (view l.dev).reads (4 + k) ≡ zeros;
      confined : g.D.Device.told → IsConfined is_body (view l.fn.dev) (view l.dev);
      uses : Uses l.body (view l.fn.dev) (view l.dev);
      faultless : (view l.dev).faults ≡ (view l.fn.dev).faults;
    }
