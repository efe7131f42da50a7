use Rattle.std.proofs.Common.{sym, ◌∙◌, ap, length}
use Rattle.bit_array.proofs.BitLaws.{length-bits_of}
use Rattle.bit_array.proofs.bits.BitArray.len.Goals as goal

pub returns : goal.returns
returns c = sym (ap length (sym c.self.view_is) ∙ length-bits_of c.self.inside.words.items c.self.inside.len)
