use Rattle.fs_client.proofs.FormLaws.{no_gone}
use Rattle.fs_client.proofs.client.gone_replied.Goals as goal

pub returns-in_default : goal.returns-in_default
returns-in_default c = no_gone c.args.reply c.in_default.not-Gone c.in_default.not-Refused
