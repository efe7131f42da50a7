use Rattle.fs_client.proofs.FormLaws.{not_done}
use Rattle.fs_client.proofs.client.done_replied.Goals as goal

pub returns-in_default : goal.returns-in_default
returns-in_default c = not_done c.args.reply c.in_default.not-Done c.in_default.not-Refused
