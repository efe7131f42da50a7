use Rattle.std.proofs.Common.{◌≡◌, ℕ, ◌*◌, ◌<◌, length, get_or}
use Rattle.image_device.specs.Calls.{Rests, Uses}
use Rattle.ref_counts.proofs.Reading.{number_of}
use Rattle.ref_counts.proofs.loading.read_counts.Given as goal

abbrev pub invariant-loop-part : goal.invariant-loop-part
invariant-loop-part g l =
    let view = g.D.Device.view in
    record {
      read : g.D.Device.told → (block : ℕ) → block < 128 * l.part → block < length l.counts → get_or l.counts block 0 ≡ number_of (view l.fn.dev).reads block;
      rests : g.D.Device.told → Rests (view l.fn.dev) (view l.dev);
      uses : Uses 0 (view l.fn.dev) (view l.dev);
      faultless : (view l.dev).faults ≡ (view l.fn.dev).faults;
    }
