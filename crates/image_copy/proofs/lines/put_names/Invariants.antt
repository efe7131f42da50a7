use Rattle.std.proofs.Common.{◌≡◌, ◌+◌, ◌*◌, ◌≤◌, ◌++◌, ◌∷◌, length, take, flat_map}
use Rattle.image_copy.proofs.lines.put_names.Given as goal

abbrev pub invariant-loop-name : goal.invariant-loop-name
invariant-loop-name l = (l.into ≡ l.initial.into ++ flat_map (λ n. 47 ∷ n) (take l.name-index l.path)) × (length l.into ≤ length l.initial.into + l.name-index * 29)
