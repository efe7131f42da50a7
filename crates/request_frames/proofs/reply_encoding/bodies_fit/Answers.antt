use Rattle.request_frames.proofs.PartLaws.{short_body}
use Rattle.request_frames.proofs.reply_encoding.bodies_fit.Goals as goal

pub returns : goal.returns
returns c = short_body
