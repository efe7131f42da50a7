use Rattle.std.proofs.Common.{arith}
use Rattle.shell_text.specs.Looked.{next_file}
use Rattle.shell_text.proofs.LookedLaws.{looked_none}
use Rattle.shell_text.proofs.looks.print_next_file.Goals as goal

pub returns-clause-one_line : goal.returns-clause-one_line
returns-clause-one_line c = λ named. looked_none (next_file c.args.name.now c.args.size) (named, omega arith)
