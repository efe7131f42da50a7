use Rattle.fs_client.proofs.FormLaws.{no_targets}
use Rattle.fs_client.proofs.client.targets_replied.Goals as goal

pub returns-in_default : goal.returns-in_default
returns-in_default c = no_targets c.args.reply c.in_default.not-Targets c.in_default.not-Refused
