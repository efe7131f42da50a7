use Rattle.std.proofs.Common.{sym, ◌∙◌, ap, length}
use Rattle.intent_journal.proofs.Common.{patches_of}
use Rattle.intent_journal.proofs.Parts.{patches_parted}
use Rattle.intent_journal.proofs.ring.Ring.bodies.Goals as goal

pub returns : goal.returns
returns c = c.len.ensures.value ∙ ap length (sym (patches_parted _ c.self.inside.patches c.self.invariant.whole) ∙ ap patches_of c.self.view_is)
