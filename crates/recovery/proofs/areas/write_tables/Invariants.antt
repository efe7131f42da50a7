use Rattle.std.proofs.Common.{◌≡◌, ◌<◌, ◌≤◌, ◌-◌, nat_le, ℕ}
use Rattle.recovery.proofs.Common.{fresh_records, AreRecords, Uses, IsConfined, sweep_flag, caps_start, fresh_bytes, is_fresh}
use Rattle.recovery.proofs.areas.write_tables.Given as goal

abbrev pub invariant-loop-sector : goal.invariant-loop-sector
invariant-loop-sector g l =
    let view = g.D.Device.view in
    record {
      from : sweep_flag ≤ l.sector;
      fresh : g.D.Device.told → (n : ℕ) → sweep_flag ≤ n → n < l.sector → (view l.dev).reads n ≡ fresh_bytes l.layout.geometry l.caps n;
      kept : caps_start < l.sector → AreRecords 1 (fresh_records l.caps);
      confined : g.D.Device.told → IsConfined (nat_le sweep_flag) (view l.fn.dev) (view l.dev);
      inside : g.D.Device.told → IsConfined (is_fresh l.layout.geometry) (view l.fn.dev) (view l.dev);
      uses : Uses (l.sector - sweep_flag) (view l.fn.dev) (view l.dev);
      faultless : (view l.dev).faults ≡ (view l.fn.dev).faults;
    }
