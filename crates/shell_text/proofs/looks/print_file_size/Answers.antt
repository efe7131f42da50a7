use Rattle.std.proofs.Common.{arith}
use Rattle.shell_text.specs.Looked.{file_of}
use Rattle.shell_text.proofs.LookedLaws.{looked_none}
use Rattle.shell_text.proofs.looks.print_file_size.Goals as goal

pub returns-clause-one_line : goal.returns-clause-one_line
returns-clause-one_line c = looked_none (file_of c.args.size) (omega arith)
