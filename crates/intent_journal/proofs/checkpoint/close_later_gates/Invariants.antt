use Rattle.std.proofs.Common.{◌≡◌, ℕ, ◌<◌, ◌≤◌, ◌&&◌, nat_le, false, cond}
use Rattle.intent_journal.proofs.Common.{Uses, IsConfined, gate_bytes, records, gate_sector, later_open, is_listed_open, is_gate_open}
use Rattle.intent_journal.proofs.checkpoint.close_later_gates.Given as goal

abbrev pub invariant-loop-index : goal.invariant-loop-index
invariant-loop-index g l =
    let view = g.D.Device.view in
    record {
      closed : g.D.Device.told → (i : ℕ) → 0 < i → i < l.index → is_gate_open (view l.dev).reads i ≡ false;
      written : g.D.Device.told → (i : ℕ) → 0 < i → i < l.index → (view l.dev).reads (gate_sector i) ≡ cond (is_listed_open l.gates i) (gate_bytes false) ((view l.fn.dev).reads (gate_sector i));
      others : g.D.Device.told → (i : ℕ) → l.index ≤ i → i < records → (view l.dev).reads (gate_sector i) ≡ (view l.fn.dev).reads (gate_sector i);
      confined : g.D.Device.told → IsConfined (λ n. nat_le 117 n && nat_le n 129) (view l.fn.dev) (view l.dev);
      uses : Uses (later_open l.gates l.index) (view l.fn.dev) (view l.dev);
      faultless : (view l.dev).faults ≡ (view l.fn.dev).faults;
    }
