use Rattle.script_text.proofs.FeedLaws.{reply_none, reply_part, reply_whole}
use Rattle.script_text.proofs.replies.replies_part.Goals as goal

pub returns-clause-text : goal.returns-clause-text
returns-clause-text c = reply_none

pub returns-clause-whole : goal.returns-clause-whole
returns-clause-whole c = reply_whole

pub returns-clause-part : goal.returns-clause-part
returns-clause-part c = reply_part
