use Rattle.std.proofs.Common.{sym, ◌∙◌, ap, arith}
use Rattle.std.specs.Prelude.{bytes_eq}
use Rattle.chain_layout.proofs.PlaceLaws.{among_stops, among_goes_on}
use Rattle.chain_layout.proofs.distinct.is_among.Goals as goal

pub returns-then-eq : goal.returns-then-eq
returns-then-eq c = sym (c.loop-position.invariant ∙ among_stops c.args.list.now c.args.count c.loop-position.position (omega arith) c.args.name.now (ap (bytes_eq c.args.name.now) (sym c.name_at.ensures.value) ∙ (sym c.eq.ensures ∙ c.if-eq.true)))

pub loop-position-preserved : goal.loop-position-preserved
loop-position-preserved c = c.loop-position.invariant ∙ among_goes_on c.args.list.now c.args.count c.loop-position.position (omega arith) c.args.name.now (ap (bytes_eq c.args.name.now) (sym c.name_at.ensures.value) ∙ (sym c.eq.ensures ∙ c.if-eq.false))
