use Rattle.std.proofs.Common.{length, sym, ◌∙◌}
use Rattle.pointer_table.proofs.Common.{slot_at, group}
use Rattle.pointer_table.proofs.ThreadLaws.{step_near, stop_at_slot}
use Rattle.pointer_table.proofs.threads.Threads.before.Goals as goal

pub loop-link-preserved : goal.loop-link-preserved
loop-link-preserved c =
    let t = c.args.self.now in
    let so_far = c.loop-link.invariant in
    record {
      near =
          step_near (slot_at c.args.slots.now) (group t.way (length t.heads)) t.heads t.next c.args.of c.args.limit c.loop-link.before c.loop-link.link
          c.requires.threads c.requires.group so_far.near so_far.link c.loop-link-test.true (sym c.is_below.ensures ∙ c.if-is_below.true);
      link = c.get-link.ensures;
    }

pub returns-else-is_below : goal.returns-else-is_below
returns-else-is_below c =
    let t = c.args.self.now in
    let so_far = c.loop-link.invariant in
    stop_at_slot (slot_at c.args.slots.now) (group t.way (length t.heads)) t.heads t.next c.args.of c.args.limit c.loop-link.before c.loop-link.link
    c.requires.threads c.requires.group so_far.near so_far.link c.loop-link-test.true (sym c.is_below.ensures ∙ c.if-is_below.false)
