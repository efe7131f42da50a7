use Rattle.std.proofs.Common.{◌≡◌, ◌≤◌, length, take}
use Rattle.script_text.specs.Texts.{up_to_last}
use Rattle.script_text.proofs.trimming.trimmed.Given as goal

abbrev pub invariant-loop-end : goal.invariant-loop-end
invariant-loop-end l = (l.end ≤ length l.front) × (up_to_last (take l.end l.front) ≡ up_to_last l.bytes)

abbrev pub decreases-loop-end : goal.decreases-loop-end
decreases-loop-end l = l.end
