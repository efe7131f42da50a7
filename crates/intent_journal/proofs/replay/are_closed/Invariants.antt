use Rattle.std.proofs.Common.{◌≡◌, ◌<◌, ℕ, false}
use Rattle.intent_journal.proofs.Common.{is_listed_open}
use Rattle.intent_journal.proofs.replay.are_closed.Given as goal

-- no gate that was passed is open
abbrev pub invariant-loop-index : goal.invariant-loop-index
invariant-loop-index l = (j : ℕ) → j < l.index → is_listed_open l.gates j ≡ false
