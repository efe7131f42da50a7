use Rattle.std.proofs.Common.{sym, ◌∙◌, arith}
use Rattle.fs_fields.proofs.NumberLaws.{apart_stops, apart_goes_on, among_rest}
use Rattle.fs_fields.proofs.numbers.are_apart.Goals as goal

pub returns-then-is_among : goal.returns-then-is_among
returns-then-is_among c = sym (c.loop-i.invariant ∙ apart_stops c.args.list.now c.args.count c.loop-i.i (omega arith) (among_rest c.args.list.now c.args.count c.loop-i.i (omega arith) c.number_at-number.result c.is_among.result c.number_at-number.ensures c.is_among.ensures ∙ c.if-is_among.true))

pub loop-i-preserved : goal.loop-i-preserved
loop-i-preserved c = c.loop-i.invariant ∙ apart_goes_on c.args.list.now c.args.count c.loop-i.i (omega arith) (among_rest c.args.list.now c.args.count c.loop-i.i (omega arith) c.number_at-number.result c.is_among.result c.number_at-number.ensures c.is_among.ensures ∙ c.if-is_among.false)
