use Rattle.std.proofs.Common.{◌≡◌, ◌*◌, ◌+◌, ℕ, cond, sym, ◌∙◌, ap, arith}
use Rattle.fs_fields.proofs.PadLaws.{entry_at}
use Rattle.fs_fields.proofs.WrittenLaws.{skips_at, skips_none}
use Rattle.fs_fields.proofs.entries.behind.Goals as goal

none_more : (i : ℕ) → i + 0 ≡ i
none_more i = omega arith

pub returns-then-not-is_below-clause-value : goal.returns-then-not-is_below-clause-value
returns-then-not-is_below-clause-value c =
    let other = c.trimmed-other.ensures.value ∙ entry_at c.args.list.now (32 * c.args.position) (omega arith) in
    sym (skips_at c.args.name.now c.args.list.now c.args.amount c.args.position (omega arith) c.trimmed-other.result.now other ∙ ap (λ t. c.args.position + cond t 0 1) (sym c.is_below.ensures ∙ c.if-not-is_below.true))

pub returns-else-not-is_below-clause-value : goal.returns-else-not-is_below-clause-value
returns-else-not-is_below-clause-value c =
    let other = c.trimmed-other.ensures.value ∙ entry_at c.args.list.now (32 * c.args.position) (omega arith) in
    sym (skips_at c.args.name.now c.args.list.now c.args.amount c.args.position (omega arith) c.trimmed-other.result.now other ∙ (ap (λ t. c.args.position + cond t 0 1) (sym c.is_below.ensures ∙ c.if-not-is_below.false) ∙ none_more c.args.position))

pub returns-else-position-amount-clause-value : goal.returns-else-position-amount-clause-value
returns-else-position-amount-clause-value c = sym (skips_none c.args.name.now c.args.list.now c.args.amount c.args.position (omega arith))
