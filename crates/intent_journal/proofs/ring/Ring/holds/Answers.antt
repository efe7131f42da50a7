use Rattle.std.proofs.Common.{sym, ◌∙◌, ap, List}
use Rattle.intent_journal.proofs.Common.{Patch, has_home, patches_of}
use Rattle.intent_journal.proofs.Parts.{patches_parted}
use Rattle.intent_journal.proofs.ring.Ring.holds.Goals as goal

pub returns : goal.returns
returns c = c.has_home.ensures ∙ ap (λ (ps : List Patch). has_home ps c.args.sector) (c.as_slice.ensures.value ∙ sym (patches_parted _ c.self.inside.patches c.self.invariant.whole) ∙ ap patches_of c.self.view_is)
