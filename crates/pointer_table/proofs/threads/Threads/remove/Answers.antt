use Rattle.std.proofs.Common.{length, ◌∙◌}
use Rattle.pointer_table.proofs.Common.{slot_at, group}
use Rattle.pointer_table.proofs.ThreadLaws.{cut_fields, cut_others, heads_as_many, next_as_many}
use Rattle.pointer_table.proofs.threads.Threads.remove.Goals as goal

pub returns : goal.returns
returns c =
    let t = c.args.self.now in
    let u = c.keep_end.new.self in
    let before = c.before-before.result in
    record {
      threads = λ left less.
          cut_fields left (slot_at c.args.slots.now) t.way u.way t.heads t.next u.heads u.next
          c.args.position c.group-of.result c.rank.result c.after-link.result (c.args.source, c.args.target) before
          c.requires.threads less c.group-of.ensures c.rank.ensures c.before-before.ensures c.after-link.ensures
          (c.keep_end.ensures.heads ∙ c.set_after.ensures.heads) (c.keep_end.ensures.next ∙ c.set_after.ensures.next)
          (c.keep_end.ensures.way ∙ c.set_after.ensures.way);
      way = c.keep_end.ensures.way ∙ c.set_after.ensures.way;
      groups = heads_as_many t.heads u.heads c.group-of.result before c.after-link.result (c.keep_end.ensures.heads ∙ c.set_after.ensures.heads);
      slots = next_as_many t.next u.next before c.after-link.result (c.keep_end.ensures.next ∙ c.set_after.ensures.next);
      empties =
          cut_others (slot_at c.args.slots.now) (group t.way (length t.heads)) c.group-of.result c.rank.result t.next u.next c.after-link.result before
          c.before-before.ensures (c.keep_end.ensures.next ∙ c.set_after.ensures.next);
    }
