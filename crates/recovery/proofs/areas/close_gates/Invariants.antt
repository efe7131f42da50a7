use Rattle.std.proofs.Common.{◌≡◌, ◌<◌, ℕ, false}
use Rattle.recovery.proofs.Common.{Uses, IsConfined, is_journal, is_gate_open}
use Rattle.recovery.proofs.areas.close_gates.Given as goal

abbrev pub invariant-loop-index : goal.invariant-loop-index
invariant-loop-index g l =
    let view = g.D.Device.view in
    record {
      closed : g.D.Device.told → (i : ℕ) → i < l.index → is_gate_open (view l.dev).reads i ≡ false;
      confined : g.D.Device.told → IsConfined is_journal (view l.fn.dev) (view l.dev);
      uses : Uses l.index (view l.fn.dev) (view l.dev);
      faultless : (view l.dev).faults ≡ (view l.fn.dev).faults;
    }
