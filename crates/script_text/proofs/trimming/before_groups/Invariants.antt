use Rattle.std.proofs.Common.{◌≡◌, ◌≤◌, length}
use Rattle.script_text.specs.Texts.{up_to_last}
use Rattle.script_text.proofs.trimming.before_groups.Given as goal

abbrev pub invariant-loop-front : goal.invariant-loop-front
invariant-loop-front l = record { shorter : length l.left ≤ length l.bytes; same : up_to_last l.left ≡ up_to_last l.bytes }

abbrev pub decreases-loop-front : goal.decreases-loop-front
decreases-loop-front l = length l.left
