use Rattle.std.proofs.Common.{ℕ, ◌<◌}
use Rattle.reclaim.proofs.Common.{IfSome, IsNone, IsLost, graph_of}
use Rattle.reclaim.proofs.guesses.Guesses.look_for_lost.Given as goal

abbrev pub invariant-loop-block : goal.invariant-loop-block
invariant-loop-block l = record {
  lost : IfSome l.first (λ b. IsLost (graph_of l.pointers l.live) b);
  none : IsNone l.first → (b : ℕ) → b < l.block → IsLost (graph_of l.pointers l.live) b → ⊥;
}
