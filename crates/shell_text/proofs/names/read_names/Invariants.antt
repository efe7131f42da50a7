use Rattle.std.proofs.Common.{◌≡◌, ◌++◌, length}
use Rattle.script_text.specs.Pieces.{pieces}
use Rattle.shell_text.specs.Reading.{left}
use Rattle.shell_text.proofs.names.read_names.Given as goal

abbrev pub invariant-loop-rest : goal.invariant-loop-rest
invariant-loop-rest l = l.path ++ left 47 l.rest ≡ pieces 47 l.text

abbrev pub decreases-loop-rest : goal.decreases-loop-rest
decreases-loop-rest l = length (left 47 l.rest)
