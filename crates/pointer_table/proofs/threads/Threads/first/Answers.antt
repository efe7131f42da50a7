use Rattle.std.proofs.Common.{length, subst, ap, sym, ◌∙◌}
use Rattle.pointer_table.proofs.Common.{slot_at, group, linked, IsFirstThatFar}
use Rattle.pointer_table.proofs.ThreadLaws.{leads_there}
use Rattle.pointer_table.proofs.threads.Threads.first.Goals as goal

pub returns : goal.returns
returns c =
    let t = c.args.self.now in
    let held = slot_at c.args.slots.now in
    let by = group t.way (length t.heads) in
    subst (IsFirstThatFar held by c.args.of c.args.from) (sym (c.linked.ensures ∙ ap linked c.after.ensures))
    (leads_there held by t.heads t.next c.args.of c.args.from c.before-before.result c.requires.threads c.requires.group c.before-before.ensures)
