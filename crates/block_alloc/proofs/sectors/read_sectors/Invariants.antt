use Rattle.std.proofs.Common.{◌≡◌, ◌<◌, ◌+◌, ◌*◌, ◌/◌, ◌%◌, ℕ, length, get_or}
use Rattle.image_device.specs.Calls.{Rests, Uses}
use Rattle.block_alloc.proofs.sectors.read_sectors.Given as goal

abbrev pub invariant-loop-index : goal.invariant-loop-index
invariant-loop-index g l =
    let view = g.D.Device.view in
    record {
      whole : length l.bytes.items ≡ 512 * l.index;
      read : g.D.Device.told → (i : ℕ) → i < 512 * l.index → get_or l.bytes.items i 0 ≡ get_or ((view l.fn.dev).reads (l.first + i / 512)) (i % 512) 0;
      rests : g.D.Device.told → Rests (view l.fn.dev) (view l.dev);
      uses : Uses 0 (view l.fn.dev) (view l.dev);
      faultless : (view l.dev).faults ≡ (view l.fn.dev).faults;
    }
