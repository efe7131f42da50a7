use Rattle.std.proofs.Common.{sym, ◌∙◌, ap, arith}
use Rattle.fs_trees.specs.Names.{is_name}
use Rattle.chain_layout.proofs.PlaceLaws.{unnamed_stops, named_goes_on}
use Rattle.chain_layout.proofs.directory.are_named.Goals as goal

pub returns-then-not-is_name : goal.returns-then-not-is_name
returns-then-not-is_name c = sym (c.loop-position.invariant ∙ unnamed_stops c.args.list.now c.args.count c.loop-position.position (omega arith) (ap is_name (sym c.name_at.ensures.value) ∙ (sym c.is_name.ensures ∙ c.if-not-is_name.true)))

pub loop-position-preserved : goal.loop-position-preserved
loop-position-preserved c = c.loop-position.invariant ∙ named_goes_on c.args.list.now c.args.count c.loop-position.position (omega arith) (ap is_name (sym c.name_at.ensures.value) ∙ (sym c.is_name.ensures ∙ c.if-not-is_name.false))
