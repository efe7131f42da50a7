use Rattle.fs_client.proofs.FormLaws.{no_bytes}
use Rattle.fs_client.proofs.client.bytes_replied.Goals as goal

pub returns-in_default : goal.returns-in_default
returns-in_default c = no_bytes c.args.reply c.in_default.not-Bytes c.in_default.not-Refused
