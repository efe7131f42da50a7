use Rattle.std.proofs.Common.{length, sym, ◌∙◌}
use Rattle.pointer_table.proofs.Common.{group}
use Rattle.pointer_table.proofs.IndexLaws.{no_place, another_place}
use Rattle.pointer_table.proofs.index.Index.position_of.Goals as goal

pub returns-in_default : goal.returns-in_default
returns-in_default c =
    let t = c.args.self.now.by_bucket in
    no_place c.args.slots.now (group t.way (length t.heads)) c.group-of.result c.rank.result c.args.source c.args.target
    c.group-of.ensures c.rank.ensures c.in_default.ensures

pub returns-else-holds_at : goal.returns-else-holds_at
returns-else-holds_at c =
    let t = c.args.self.now.by_bucket in
    another_place c.args.slots.now (group t.way (length t.heads)) t.heads t.next c.group-of.result c.rank.result c.args.source c.args.target c.in-Some.position
    c.requires.buckets.threads c.group-of.ensures c.rank.ensures c.ranges.target.fits c.in-Some.ensures (sym c.holds_at.ensures ∙ c.if-holds_at.false)
