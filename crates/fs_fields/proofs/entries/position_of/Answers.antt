use Rattle.std.proofs.Common.{◌≡◌, ◌*◌, ◌+◌, ℕ, sym, ◌∙◌, ap, arith}
use Rattle.fs_fields.proofs.PadLaws.{entry_at}
use Rattle.fs_fields.proofs.EntryLaws.{place_stops, place_goes_on}
use Rattle.fs_fields.proofs.entries.position_of.Goals as goal

none_more : (i : ℕ) → i + 0 ≡ i
none_more i = omega arith

pub returns-then-not-is_below-clause-value : goal.returns-then-not-is_below-clause-value
returns-then-not-is_below-clause-value c =
    let other = c.trimmed-other.ensures.value ∙ entry_at c.args.list.now (32 * c.loop-i.i) (omega arith) in
    let stops = place_stops c.args.name.now c.args.list.now c.args.amount c.loop-i.i (omega arith) c.trimmed-other.result.now other (sym c.is_below.ensures ∙ c.if-not-is_below.true) in
    sym (c.loop-i.invariant ∙ (ap (λ k. c.loop-i.i + k) stops ∙ none_more c.loop-i.i))

pub loop-i-preserved : goal.loop-i-preserved
loop-i-preserved c =
    let other = c.trimmed-other.ensures.value ∙ entry_at c.args.list.now (32 * c.loop-i.i) (omega arith) in
    c.loop-i.invariant ∙ place_goes_on c.args.name.now c.args.list.now c.args.amount c.loop-i.i (omega arith) c.trimmed-other.result.now other (sym c.is_below.ensures ∙ c.if-not-is_below.false)
