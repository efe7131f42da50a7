use Rattle.std.proofs.Common.{◌≡◌, ℕ, ◌+◌, ◌<◌, length, Some}
use Rattle.intent_journal.proofs.Common.{slice_get, Uses, IsConfined, body_sector, Patch, is_body_of}
use Rattle.intent_journal.proofs.commit.write_bodies.Given as goal

abbrev pub invariant-loop-patch : goal.invariant-loop-patch
invariant-loop-patch g l =
    let view = g.D.Device.view in
    record {
      place : l.body ≡ l.start + l.patch-index;
      bodies : g.D.Device.told → (k : ℕ) (p : Patch) → k < l.patch-index → slice_get l.patches k ≡ Some p → (view l.dev).reads (body_sector (l.start + k)) ≡ p.bytes;
      confined : g.D.Device.told → IsConfined (is_body_of l.start (length l.patches)) (view l.fn.dev) (view l.dev);
      uses : Uses l.patch-index (view l.fn.dev) (view l.dev);
      faultless : (view l.dev).faults ≡ (view l.fn.dev).faults;
    }
