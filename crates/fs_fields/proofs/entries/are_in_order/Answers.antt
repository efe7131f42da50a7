use Rattle.std.proofs.Common.{◌*◌, sym, ◌∙◌, arith}
use Rattle.fs_fields.proofs.PadLaws.{entry_at}
use Rattle.fs_fields.proofs.EntryLaws.{follow_first, no_name_stops, not_above_stops, follow_goes_on}
use Rattle.fs_fields.proofs.entries.are_in_order.Goals as goal
use Rattle.fs_fields.proofs.entries.are_in_order.Goals.{then-not-is_name-via-then-not-is_name, then-not-is_name-via-else-not-is_name+then-not-is_below}

pub loop-i-init : goal.loop-i-init
loop-i-init c = follow_first c.args.list.now c.args.amount

pub returns-then-not-is_name : goal.returns-then-not-is_name
returns-then-not-is_name c =
    let name = c.trimmed-name.ensures.value ∙ entry_at c.args.list.now (32 * c.loop-i.i) (omega arith) in
    sym (c.loop-i.invariant ∙ elim c.then-not-is_name.branch [
      | then-not-is_name-via-then-not-is_name w ↦ no_name_stops c.loop-i.last.now c.args.list.now c.args.amount c.loop-i.i (omega arith) c.trimmed-name.result.now name (sym c.is_name.ensures ∙ w.if-not-is_name.true)
      | then-not-is_name-via-else-not-is_name+then-not-is_below w ↦ not_above_stops c.loop-i.last.now c.args.list.now c.args.amount c.loop-i.i (omega arith) c.trimmed-name.result.now name (sym w.is_below.ensures ∙ w.if-not-is_below.true)
    ])

pub loop-i-preserved : goal.loop-i-preserved
loop-i-preserved c =
    let name = c.trimmed-name.ensures.value ∙ entry_at c.args.list.now (32 * c.loop-i.i) (omega arith) in
    c.loop-i.invariant ∙ follow_goes_on c.loop-i.last.now c.args.list.now c.args.amount c.loop-i.i (omega arith) c.trimmed-name.result.now name (sym c.is_name.ensures ∙ c.if-not-is_name.false) (sym c.is_below.ensures ∙ c.if-not-is_below.false)
