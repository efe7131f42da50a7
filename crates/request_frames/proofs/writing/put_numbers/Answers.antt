use Rattle.std.proofs.Common.{◌∙◌, ap, arith, ◌++◌, flat_map}
use Rattle.std.proofs.lemmas.List.{take_all}
use Rattle.byteorder.specs.Endian.{little_bytes}
use Rattle.request_frames.proofs.WritingLaws.{numbers_bytes, numbers_fit}
use Rattle.request_frames.proofs.writing.put_numbers.Goals as goal

pub returns-clause-bytes : goal.returns-clause-bytes
returns-clause-bytes g c =
    c.loop-n.invariant.0
    ∙ ap (λ xs. c.args.into.now ++ flat_map (λ n. little_bytes 4 n) xs) (take_all c.loop-n.n-index c.args.items.now c.loop-n-test.false)
    ∙ ap (λ xs. c.args.into.now ++ xs) (numbers_bytes c.args.items.now)

pub returns-clause-fits : goal.returns-clause-fits
returns-clause-fits g c = numbers_fit c.args.items.now (λ i. omega (arith, c.type_inv.items i))
