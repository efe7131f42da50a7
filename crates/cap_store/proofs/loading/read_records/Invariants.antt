use Rattle.std.proofs.Common.{◌≡◌, ℕ, ◌*◌, ◌<◌, length, Some}
use Rattle.std.specs.Prelude.{slice_get}
use Rattle.image_device.specs.Calls.{Rests, Uses}
use Rattle.tsd_model.specs.declared.records.Record.{Record}
use Rattle.cap_store.specs.Store.{IsRecord}
use Rattle.cap_store.specs.Stored.{stored_record}
use Rattle.cap_store.proofs.loading.read_records.Given as goal

abbrev pub invariant-loop-part : goal.invariant-loop-part
invariant-loop-part g l =
    let view = g.D.Device.view in
    record {
      kept : (block : ℕ) (r : Record) → block < l.part * l.each → slice_get l.records block ≡ Some r → IsRecord l.version r;
      read : g.D.Device.told → (block : ℕ) → block < l.part * l.each → block < length l.records → slice_get l.records block ≡ Some (stored_record l.version (view l.fn.dev).reads block);
      rests : g.D.Device.told → Rests (view l.fn.dev) (view l.dev);
      uses : Uses 0 (view l.fn.dev) (view l.dev);
      faultless : (view l.dev).faults ≡ (view l.fn.dev).faults;
    }
