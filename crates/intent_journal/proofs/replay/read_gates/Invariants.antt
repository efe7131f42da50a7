use Rattle.std.proofs.Common.{◌≡◌, ℕ, ◌<◌, length}
use Rattle.intent_journal.proofs.Common.{Rests, Uses, is_listed_open, is_gate_open}
use Rattle.intent_journal.proofs.replay.read_gates.Given as goal

abbrev pub invariant-loop-index : goal.invariant-loop-index
invariant-loop-index g l =
    let view = g.D.Device.view in
    record {
      size : length l.gates ≡ 8;
      gates : g.D.Device.told → (i : ℕ) → i < l.index → is_listed_open l.gates i ≡ is_gate_open (view l.fn.dev).reads i;
      rests : g.D.Device.told → Rests (view l.fn.dev) (view l.dev);
      uses : Uses 0 (view l.fn.dev) (view l.dev);
      faultless : (view l.dev).faults ≡ (view l.fn.dev).faults;
    }
