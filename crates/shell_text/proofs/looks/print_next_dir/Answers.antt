use Rattle.shell_text.specs.Looked.{next_dir}
use Rattle.shell_text.proofs.LookedLaws.{looked_none}
use Rattle.shell_text.proofs.looks.print_next_dir.Goals as goal

pub returns-clause-one_line : goal.returns-clause-one_line
returns-clause-one_line c = λ named. looked_none (next_dir c.args.name.now) named
