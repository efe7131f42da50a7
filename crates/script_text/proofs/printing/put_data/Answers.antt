use Rattle.script_text.proofs.TextsLaws.{data_spelled}
use Rattle.script_text.proofs.printing.put_data.Goals as goal

pub returns-clause-spelled : goal.returns-clause-spelled
returns-clause-spelled c = data_spelled c.args.bytes.now c.requires.few c.put_hex.ensures.long c.put_hex.ensures.reads
