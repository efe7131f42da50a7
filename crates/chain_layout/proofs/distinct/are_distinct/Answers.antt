use Rattle.std.proofs.Common.{sym, ◌∙◌, arith}
use Rattle.chain_layout.proofs.PlaceLaws.{distinct_stops, distinct_goes_on, among_rest}
use Rattle.chain_layout.proofs.distinct.are_distinct.Goals as goal

pub returns-then-is_among : goal.returns-then-is_among
returns-then-is_among c = sym (c.loop-position.invariant ∙ distinct_stops c.args.list.now c.args.count c.loop-position.position (omega arith) (among_rest c.args.list.now c.args.count c.loop-position.position (omega arith) c.name_at.result.now c.is_among.result c.name_at.ensures.value c.is_among.ensures ∙ c.if-is_among.true))

pub loop-position-preserved : goal.loop-position-preserved
loop-position-preserved c = c.loop-position.invariant ∙ distinct_goes_on c.args.list.now c.args.count c.loop-position.position (omega arith) (among_rest c.args.list.now c.args.count c.loop-position.position (omega arith) c.name_at.result.now c.is_among.result c.name_at.ensures.value c.is_among.ensures ∙ c.if-is_among.false)
