use Rattle.std.proofs.Common.{◌*◌, Some, sym, ◌∙◌, ap, arith}
use Rattle.fs_fields.proofs.PadLaws.{entry_at, block_at, stops_at, finds_at, goes_on_at}
use Rattle.fs_fields.proofs.entries.block_of.Goals as goal

pub returns-then-is_below : goal.returns-then-is_below
returns-then-is_below c =
    let other = c.trimmed-other.ensures.value ∙ entry_at c.args.list.now (32 * c.loop-i.i) (omega arith) in
    sym (c.loop-i.invariant ∙ stops_at c.args.name.now c.args.list.now c.args.amount c.loop-i.i (omega arith) c.trimmed-other.result.now other (sym c.is_below.ensures ∙ c.if-is_below.true))

pub returns-then-not-is_below : goal.returns-then-not-is_below
returns-then-not-is_below c =
    let other = c.trimmed-other.ensures.value ∙ entry_at c.args.list.now (32 * c.loop-i.i) (omega arith) in
    ap (λ b. Some b) (c.number_at.ensures ∙ block_at c.args.list.now (32 * c.loop-i.i))
    ∙ sym (c.loop-i.invariant ∙ finds_at c.args.name.now c.args.list.now c.args.amount c.loop-i.i (omega arith) c.trimmed-other.result.now other (sym c.is_below.ensures ∙ c.if-is_below.false) (sym c.is_below-in-loop-i.ensures ∙ c.if-not-is_below.true))

pub loop-i-preserved : goal.loop-i-preserved
loop-i-preserved c =
    let other = c.trimmed-other.ensures.value ∙ entry_at c.args.list.now (32 * c.loop-i.i) (omega arith) in
    c.loop-i.invariant ∙ goes_on_at c.args.name.now c.args.list.now c.args.amount c.loop-i.i (omega arith) c.trimmed-other.result.now other (sym c.is_below.ensures ∙ c.if-is_below.false) (sym c.is_below-in-loop-i.ensures ∙ c.if-not-is_below.false)
