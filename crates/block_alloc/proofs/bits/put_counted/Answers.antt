use Rattle.std.proofs.Common.{true, false, sym, ◌∙◌, ap, arith}
use Rattle.block_alloc.proofs.Common.{bit_in}
use Rattle.block_alloc.proofs.BitLaws.{count-put, count-most}
use Rattle.block_alloc.proofs.bits.put_counted.Goals as goal

pub overflow_add-result : goal.overflow_add-result
overflow_add-result c =
    let count = count-put c.args.len c.args.bytes.now.items c.put_bit.new.bytes.items c.args.b true c.args.bit false c.requires.inside
    (ap (λ bs. bit_in bs c.args.b) (sym c.deref.ensures.value) ∙ sym c.in-true-false.ensures) c.put_bit.ensures c.in-true-false.is-1 in
    let most = count-most c.args.len c.put_bit.new.bytes.items in
    omega (arith, count, most, c.requires.counted)

pub overflow_sub-result : goal.overflow_sub-result
overflow_sub-result c =
    let count = count-put c.args.len c.args.bytes.now.items c.put_bit.new.bytes.items c.args.b false c.args.bit true c.requires.inside
    (ap (λ bs. bit_in bs c.args.b) (sym c.deref.ensures.value) ∙ sym c.in-false-true.ensures) c.put_bit.ensures c.in-false-true.is-1 in
    omega (arith, count, c.requires.counted)

pub returns-in-true-false-clause-counted : goal.returns-in-true-false-clause-counted
returns-in-true-false-clause-counted c =
    let count = count-put c.args.len c.args.bytes.now.items c.put_bit.new.bytes.items c.args.b true c.args.bit false c.requires.inside
    (ap (λ bs. bit_in bs c.args.b) (sym c.deref.ensures.value) ∙ sym c.in-true-false.ensures) c.put_bit.ensures c.in-true-false.is-1 in
    omega (arith, count, c.requires.counted)

pub returns-in-false-true-clause-counted : goal.returns-in-false-true-clause-counted
returns-in-false-true-clause-counted c =
    let count = count-put c.args.len c.args.bytes.now.items c.put_bit.new.bytes.items c.args.b false c.args.bit true c.requires.inside
    (ap (λ bs. bit_in bs c.args.b) (sym c.deref.ensures.value) ∙ sym c.in-false-true.ensures) c.put_bit.ensures c.in-false-true.is-1 in
    omega (arith, count, c.requires.counted)

pub returns-in_default-clause-counted : goal.returns-in_default-clause-counted
returns-in_default-clause-counted c =
    let count = count-put c.args.len c.args.bytes.now.items c.put_bit.new.bytes.items c.args.b true c.args.bit true c.requires.inside
    (ap (λ bs. bit_in bs c.args.b) (sym c.deref.ensures.value) ∙ sym c.in_default.ensures) c.put_bit.ensures c.in_default.is-1 in
    omega (arith, count, c.requires.counted)

pub returns-in_default-2-clause-counted : goal.returns-in_default-2-clause-counted
returns-in_default-2-clause-counted c =
    let count = count-put c.args.len c.args.bytes.now.items c.put_bit.new.bytes.items c.args.b false c.args.bit false c.requires.inside
    (ap (λ bs. bit_in bs c.args.b) (sym c.deref.ensures.value) ∙ sym c.in_default.ensures) c.put_bit.ensures c.in_default.is-1 in
    omega (arith, count, c.requires.counted)
