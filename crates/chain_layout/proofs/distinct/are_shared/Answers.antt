use Rattle.std.proofs.Common.{sym, ◌∙◌, ap, arith}
use Rattle.fs_trees.specs.Fields.{entries, entry_names}
use Rattle.chain_layout.specs.Listed.{is_among}
use Rattle.chain_layout.proofs.PlaceLaws.{any_stops, any_goes_on}
use Rattle.chain_layout.proofs.distinct.are_shared.Goals as goal

pub returns-then-is_among : goal.returns-then-is_among
returns-then-is_among c =
    let test = is_among (entry_names (entries c.args.other_count c.args.others.now)) in
    sym (c.loop-position.invariant ∙ any_stops c.args.list.now c.args.count c.loop-position.position (omega arith) test (ap test (sym c.name_at.ensures.value) ∙ (sym c.is_among.ensures ∙ c.if-is_among.true)))

pub loop-position-preserved : goal.loop-position-preserved
loop-position-preserved c =
    let test = is_among (entry_names (entries c.args.other_count c.args.others.now)) in
    c.loop-position.invariant ∙ any_goes_on c.args.list.now c.args.count c.loop-position.position (omega arith) test (ap test (sym c.name_at.ensures.value) ∙ (sym c.is_among.ensures ∙ c.if-is_among.false))
