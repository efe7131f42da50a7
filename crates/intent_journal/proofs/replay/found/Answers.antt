use Rattle.intent_journal.proofs.Replaying.{found_none, found_some}
use Rattle.intent_journal.proofs.replay.found.Goals as goal

pub returns-then-homes-eq0 : goal.returns-then-homes-eq0
returns-then-homes-eq0 c x is = found_none x c.args.homes is c.if-homes-eq0.true

pub returns-else-homes-eq0 : goal.returns-else-homes-eq0
returns-else-homes-eq0 c x is = found_some x c.args.homes is c.if-homes-eq0.false
