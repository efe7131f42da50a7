use Rattle.std.proofs.Common.{refl, rules}
use Rattle.block_alloc.proofs.FreshLaws.{zeros_fit, no_bits, one_bit_more}
use Rattle.block_alloc.proofs.fresh.first_bits.Goals as goal

pub loop-bit-init : goal.loop-bit-init
loop-bit-init c = record { bits = no_bits; size = refl; fits = zeros_fit }

pub loop-bit-preserved : goal.loop-bit-preserved
loop-bit-preserved c = record {
  bits = one_bit_more c.loop-bit.sector c.set_bit.new.sector c.loop-bit.bit c.loop-bit.invariant.bits c.set_bit.ensures.same c.set_bit.ensures.others;
  size = search rules;
  fits = c.set_bit.ensures.fits;
}
