use Rattle.std.proofs.Common.{length, arith}
use Rattle.pointer_table.proofs.IndexLaws.{source_past, source_none, source_some}
use Rattle.pointer_table.proofs.index.Index.next_source.Goals as goal

pub returns-then-of-groups : goal.returns-then-of-groups
returns-then-of-groups c = source_past c.args.slots.now c.args.self.now c.args.target c.args.start c.requires (omega arith)

pub returns-in_default : goal.returns-in_default
returns-in_default c =
    let t = c.args.self.now.by_target in
    source_none c.args.slots.now t.way (length t.heads) c.args.target c.args.start c.rank.result c.requires.targets.way_is c.rank.ensures c.in_default.ensures

pub returns : goal.returns
returns c =
    let t = c.args.self.now.by_target in
    source_some c.args.slots.now t.way (length t.heads) c.args.target c.args.start c.rank.result c.in-Some.position c.source_in.result
    c.requires.targets.way_is c.rank.ensures c.in-Some.ensures c.source_in.ensures
