use Rattle.std.proofs.Common.{sym, ◌∙◌, ap, subst}
use Rattle.intent_journal.proofs.Common.{patches_of, IsRing}
use Rattle.intent_journal.proofs.Parts.{patches_parted}
use Rattle.intent_journal.proofs.ring.Ring.patches.Goals as goal

pub returns-clause-value : goal.returns-clause-value
returns-clause-value c = c.as_slice.ensures.value ∙ sym (patches_parted _ c.self.inside.patches c.self.invariant.whole) ∙ ap patches_of c.self.view_is

pub returns-clause-ring : goal.returns-clause-ring
returns-clause-ring c = subst IsRing c.self.view_is c.self.invariant.ring
