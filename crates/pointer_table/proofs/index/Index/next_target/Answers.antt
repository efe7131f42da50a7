use Rattle.std.proofs.Common.{length, arith}
use Rattle.pointer_table.proofs.IndexLaws.{target_past, target_none, target_some}
use Rattle.pointer_table.proofs.index.Index.next_target.Goals as goal

pub returns-then-of-groups : goal.returns-then-of-groups
returns-then-of-groups c = target_past c.args.slots.now c.args.self.now c.args.source c.args.start c.requires (omega arith)

pub returns-in_default : goal.returns-in_default
returns-in_default c =
    let t = c.args.self.now.by_source in
    target_none c.args.slots.now t.way (length t.heads) c.args.source c.args.start c.rank.result c.requires.sources.way_is c.rank.ensures c.in_default.ensures

pub returns : goal.returns
returns c =
    let t = c.args.self.now.by_source in
    target_some c.args.slots.now t.way (length t.heads) c.args.source c.args.start c.rank.result c.in-Some.position c.target_in.result
    c.requires.sources.way_is c.rank.ensures c.in-Some.ensures c.target_in.ensures
