use Rattle.std.proofs.Common.{sym, ◌∙◌, ap, arith}
use Rattle.std.specs.Prelude.{bytes_eq}
use Rattle.chain_layout.specs.Listed.{has_name}
use Rattle.chain_layout.proofs.PlaceLaws.{place_stops, place_goes_on}
use Rattle.chain_layout.proofs.directory.position_of.Goals as goal

pub returns-then-eq : goal.returns-then-eq
returns-then-eq c = sym (c.loop-position.invariant ∙ place_stops c.args.list.now c.args.count c.loop-position.position (omega arith) (has_name c.args.name.now) (ap (λ m. bytes_eq m c.args.name.now) (sym c.name_at.ensures.value) ∙ (sym c.eq.ensures ∙ c.if-eq.true)))

pub loop-position-preserved : goal.loop-position-preserved
loop-position-preserved c = c.loop-position.invariant ∙ place_goes_on c.args.list.now c.args.count c.loop-position.position (omega arith) (has_name c.args.name.now) (ap (λ m. bytes_eq m c.args.name.now) (sym c.name_at.ensures.value) ∙ (sym c.eq.ensures ∙ c.if-eq.false))
