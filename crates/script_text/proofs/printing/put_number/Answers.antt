use Rattle.script_text.proofs.TextsLaws.{number_spelled}
use Rattle.script_text.proofs.printing.put_number.Goals as goal

pub returns-clause-spelled : goal.returns-clause-spelled
returns-clause-spelled c = number_spelled c.args.n c.ranges.n.fits
