use Rattle.std.proofs.Common.{sym, ◌∙◌, ap, length, subst}
use Rattle.intent_journal.proofs.Common.{IsRing}
use Rattle.intent_journal.proofs.Parts.{length_parted}
use Rattle.intent_journal.proofs.ring.Ring.records.Goals as goal

pub returns-clause-value : goal.returns-clause-value
returns-clause-value c = c.len.ensures.value ∙ sym (length_parted _ c.self.inside.patches) ∙ ap length c.self.view_is

pub returns-clause-ring : goal.returns-clause-ring
returns-clause-ring c = subst IsRing c.self.view_is c.self.invariant.ring
