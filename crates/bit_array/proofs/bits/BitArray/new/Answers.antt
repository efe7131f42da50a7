use Rattle.std.proofs.Common.{◌∙◌, ap}
use Rattle.bit_array.specs.Bits.{bits_of}
use Rattle.bit_array.proofs.BitLaws.{no-bits}
use Rattle.bit_array.proofs.bits.BitArray.new.Goals as goal

pub returns : goal.returns
returns c = ap (λ words. bits_of words c.args.len) c.in_ok-words.ensures.items ∙ no-bits 0 c.args.len
