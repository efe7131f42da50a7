use Rattle.std.proofs.Common.{◌≡◌, ℕ, ◌+◌, ◌≤◌, cond, length, drop}
use Rattle.intent_journal.proofs.Common.{Uses, IsConfined, has_home, overlaid, last_patches}
use Rattle.intent_journal.proofs.checkpoint.write_last_bodies.Given as goal

abbrev pub invariant-loop-index : goal.invariant-loop-index
invariant-loop-index g l =
    let view = g.D.Device.view in
    record {
      homes : l.homes + length (last_patches (drop l.index l.patches)) ≡ length (last_patches l.patches);
      few : l.homes ≤ l.index;
      placed : g.D.Device.told → (n : ℕ) → (view l.dev).reads n ≡ cond (has_home (drop l.index l.patches) n) ((view l.fn.dev).reads n) (overlaid l.patches (view l.fn.dev).reads n);
      confined : g.D.Device.told → IsConfined (has_home l.patches) (view l.fn.dev) (view l.dev);
      uses : Uses l.homes (view l.fn.dev) (view l.dev);
      faultless : (view l.dev).faults ≡ (view l.fn.dev).faults;
    }
