use Rattle.std.proofs.Common.{◌*◌, Some, sym, ◌∙◌, ap, arith}
use Rattle.fs_fields.proofs.PadLaws.{entry_at, field_fits}
use Rattle.fs_fields.proofs.EntryLaws.{next_stops, next_goes_on}
use Rattle.fs_fields.proofs.entries.next_name.Goals as goal

pub from_bytes-requires : goal.from_bytes-requires
from_bytes-requires c = field_fits c.args.list.now (32 * c.loop-i.i) c.trimmed-name.result.now (omega arith) c.trimmed-name.ensures.fits

pub returns-then-is_below : goal.returns-then-is_below
returns-then-is_below c =
    let name = c.trimmed-name.ensures.value ∙ entry_at c.args.list.now (32 * c.loop-i.i) (omega arith) in
    ap (λ n. Some n) c.from_bytes.ensures ∙ sym (c.loop-i.invariant ∙ next_stops c.args.after.now c.args.list.now c.args.amount c.loop-i.i (omega arith) c.trimmed-name.result.now name (sym c.is_below.ensures ∙ c.if-is_below.true))

pub loop-i-preserved : goal.loop-i-preserved
loop-i-preserved c =
    let name = c.trimmed-name.ensures.value ∙ entry_at c.args.list.now (32 * c.loop-i.i) (omega arith) in
    c.loop-i.invariant ∙ next_goes_on c.args.after.now c.args.list.now c.args.amount c.loop-i.i (omega arith) c.trimmed-name.result.now name (sym c.is_below.ensures ∙ c.if-is_below.false)
