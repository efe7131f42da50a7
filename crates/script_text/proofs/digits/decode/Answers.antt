use Rattle.std.proofs.Common.{length, subst, sym, ◌∙◌, ap, arith}
use Rattle.std.specs.Prelude.{max}
use Rattle.script_text.proofs.DigitLaws.{AreRead, none_read, one_more_read, all_read}
use Rattle.script_text.proofs.digits.decode.Goals as goal

pub loop-i-init : goal.loop-i-init
loop-i-init c = none_read c.args.digits.now c.args.bytes.now

pub loop-i-preserved : goal.loop-i-preserved
loop-i-preserved c =
    let size = c.loop-i.auto.bytes in
    let worst = c.max-worst.ensures ∙ ap (λ n. max n c.value_of-low.result) c.max.ensures in
    subst (AreRead c.args.digits.now _ _) (sym worst)
    (one_more_read c.args.digits.now c.loop-i.bytes c.loop-i.i c.loop-i.worst c.value_of-high.result c.value_of-low.result
    (omega (arith, c.requires, c.loop-i-test.true)) (omega (arith, size, c.loop-i-test.true))
    c.value_of-high.ensures c.value_of-low.ensures c.loop-i.invariant)

pub returns-clause-value : goal.returns-clause-value
returns-clause-value c = all_read c.args.digits.now c.loop-i.bytes (length c.args.bytes.now) c.loop-i.i c.loop-i.worst c.requires c.loop-i.auto.bytes c.loop-i-test.false c.loop-i.invariant
