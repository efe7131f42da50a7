use Rattle.fs_client.proofs.FormLaws.{no_blocks}
use Rattle.fs_client.proofs.client.blocks_replied.Goals as goal

pub returns-in_default : goal.returns-in_default
returns-in_default c = no_blocks c.args.reply c.in_default.not-Blocks c.in_default.not-Refused
