use Rattle.std.proofs.Common.{◌≡◌, ◌*◌, min, length}
use Rattle.image_device.specs.Calls.{Rests, Uses}
use Rattle.pointer_table.proofs.Common.{AreReadTo, AreWithinTo}
use Rattle.pointer_table.proofs.load.read_slots.Given as goal

abbrev pub invariant-loop-part : goal.invariant-loop-part
invariant-loop-part g l =
    let view = g.D.Device.view in
    record {
      all : length l.slots ≡ l.geometry.slots;
      read : g.D.Device.told → AreReadTo (view l.fn.dev).reads l.geometry (min l.geometry.slots (64 * l.part)) l.slots;
      within : AreWithinTo l.geometry (min l.geometry.slots (64 * l.part)) l.slots;
      rests : g.D.Device.told → Rests (view l.fn.dev) (view l.dev);
      uses : Uses 0 (view l.fn.dev) (view l.dev);
      faultless : (view l.dev).faults ≡ (view l.fn.dev).faults;
    }
