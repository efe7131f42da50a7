use Rattle.std.proofs.Common.{sym, ◌∙◌, ap, subst, arith, Option}
use Rattle.std.specs.Prelude.{MatchOption}
use Rattle.tsd_model.specs.declared.replies.Reply.{Reply}
use Rattle.request_frames.specs.Replies.{IsReply}
use Rattle.request_frames.specs.ReplyReading.{reply_of}
use Rattle.request_frames.proofs.ReplyLaws.{reply_is, reply_back}
use Rattle.request_frames.proofs.reply_decoding.decode_reply.Goals as goal

pub returns-clause-spelled : goal.returns-clause-spelled
returns-clause-spelled c = subst (λ (o : Option Reply). MatchOption o (Unit {0}) (λ r. IsReply c.args.body.now r)) (sym (c.read_reply.ensures ∙ ap reply_of c.of.ensures)) (reply_is c.args.body.now (λ i. omega (arith, c.type_inv.body i)))

pub returns-clause-only : goal.returns-clause-only
returns-clause-only c = λ r h. c.read_reply.ensures ∙ ap reply_of c.of.ensures ∙ reply_back c.args.body.now r h
