use Rattle.reclaim.proofs.guesses.Guesses.pop_lost.Given as goal

-- each guess that was looked at is gone
abbrev pub decreases-loop-block : goal.decreases-loop-block
decreases-loop-block l = l.self.len
