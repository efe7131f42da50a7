use Rattle.std.proofs.Common.{sym, ◌∙◌, ap, replicate, false, length}
use Rattle.bit_array.specs.Bits.{bits_of}
use Rattle.bit_array.proofs.BitLaws.{no-bits, length-bits_of}
use Rattle.bit_array.proofs.bits.BitArray.clear.Goals as goal

pub returns : goal.returns
returns c =
    let words = c.self.inside.words.items in let len = c.self.inside.len in
    ap (λ ws. bits_of ws len) c.clear.ensures.items ∙ (no-bits 0 len
    ∙ ap (λ n. replicate n false) (sym (ap length (sym c.self.view_is) ∙ length-bits_of words len)))
