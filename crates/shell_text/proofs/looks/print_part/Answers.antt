use Rattle.shell_text.specs.Looked.{part_of}
use Rattle.shell_text.proofs.LookedLaws.{looked_none}
use Rattle.shell_text.proofs.looks.print_part.Goals as goal

pub returns-clause-one_line : goal.returns-clause-one_line
returns-clause-one_line c = looked_none (part_of c.args.bytes.now) tt
