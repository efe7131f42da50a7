use Rattle.std.proofs.Common.{◌≡◌, ◌*◌, ◌+◌, ◌≤◌, ◌<◌, ℕ, false}
use Rattle.block_alloc.proofs.Common.{is_free_run}
use Rattle.block_alloc.proofs.map.LiveMap.begins_in.Given as goal

-- no run begins at a block of the group that was passed
abbrev pub invariant-loop-block : goal.invariant-loop-block
invariant-loop-block l = record {
  low : l.first ≤ l.block;
  none : (b : ℕ) → l.block ≤ b → b < 256 * l.group + 256 → is_free_run l.self.unhidden l.run b ≡ false;
}
