use Rattle.std.proofs.Common.{◌≡◌, ℕ, ◌+◌, cond, length, take}
use Rattle.reclaim.proofs.Common.{slice_index, has_number, HasSameMarks}
use Rattle.reclaim.proofs.tally.Tally.raise_all.Given as goal

abbrev pub invariant-loop-target : goal.invariant-loop-target
invariant-loop-target l = record {
  counts : (b : ℕ) → slice_index l.self.counts.items b ≡ cond (has_number (take l.target-index l.targets) b) 1 0 + slice_index l.fn.self.counts.items b;
  long : length l.self.counts.items ≡ length l.fn.self.counts.items;
  others : HasSameMarks l.fn.self l.self;
}
