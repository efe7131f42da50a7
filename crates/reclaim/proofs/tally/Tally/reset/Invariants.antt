use Rattle.std.proofs.Common.{◌≡◌, ℕ, ◌<◌, length}
use Rattle.reclaim.proofs.Common.{slice_index}
use Rattle.reclaim.proofs.tally.Tally.reset.Given as goal

abbrev pub invariant-loop-block : goal.invariant-loop-block
invariant-loop-block l = record {
  counts : length l.self.counts.items ≡ length l.fn.self.counts.items;
  gone : l.self.gone ≡ l.fn.self.gone;
  waiting : l.self.waiting ≡ l.fn.self.waiting;
  same : (b : ℕ) → b < l.block → slice_index l.self.counts.items b ≡ slice_index l.counts.counts b;
}
