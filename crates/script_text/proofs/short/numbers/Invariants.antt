use Rattle.std.proofs.Common.{◌≡◌, ◌+◌, ◌*◌, ◌≤◌, ◌++◌, ◌∷◌, length, take, flat_map, decimal}
use Rattle.script_text.proofs.short.numbers.Given as goal

abbrev pub invariant-loop-n : goal.invariant-loop-n
invariant-loop-n l = (l.line ≡ l.initial.line ++ flat_map (λ n. 32 ∷ decimal n) (take l.n-index l.items)) × (length l.line ≤ length l.initial.line + l.n-index * 11)
