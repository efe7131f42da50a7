use Rattle.std.proofs.Common.{refl}
use Rattle.request_frames.proofs.ReplyLaws.{form_of}
use Rattle.request_frames.proofs.reply_encoding.encode_reply.Goals as goal

pub returns-clause-spelled : goal.returns-clause-spelled
returns-clause-spelled c = record { form = form_of c.args.reply.now c.requires c.encode.ensures.fits; spelled = refl }
