use Rattle.std.proofs.Common.{length, ◌∙◌}
use Rattle.pointer_table.proofs.Common.{slot_at, group, link_after}
use Rattle.pointer_table.proofs.ThreadLaws.{put_fields, put_others, heads_as_many, next_as_many_put}
use Rattle.pointer_table.proofs.threads.Threads.add.Goals as goal

pub returns : goal.returns
returns c =
    let t = c.args.self.now in
    let u = c.keep_end.new.self in
    let of = c.group-of.result in
    let before = c.before-before.result in
    record {
      threads = λ now more.
          put_fields (slot_at c.args.slots.now) now t.way u.way t.heads t.next u.heads u.next
          c.args.position of c.rank.result (c.args.source, c.args.target) before
          c.requires.threads more c.requires.absent c.ranges.target.fits c.requires.position c.requires.link c.requires.group
          c.group-of.ensures c.rank.ensures c.before-before.ensures
          (c.keep_end.ensures.heads ∙ c.put-link.ensures.heads) (c.keep_end.ensures.next ∙ c.put-link.ensures.next)
          (c.keep_end.ensures.way ∙ c.put-link.ensures.way);
      way = c.keep_end.ensures.way ∙ c.put-link.ensures.way;
      groups = heads_as_many t.heads u.heads of before c.args.position (c.keep_end.ensures.heads ∙ c.put-link.ensures.heads);
      slots = next_as_many_put t.next u.next c.args.position (link_after t.heads t.next of before) before c.args.position
          (c.keep_end.ensures.next ∙ c.put-link.ensures.next);
      empties =
          put_others (slot_at c.args.slots.now) (group t.way (length t.heads)) of c.rank.result t.next u.next c.args.position (link_after t.heads t.next of before)
          c.args.position before c.before-before.ensures (c.keep_end.ensures.next ∙ c.put-link.ensures.next);
    }
