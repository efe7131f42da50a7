use Rattle.std.proofs.Common.{◌-◌, ◌*◌, ◌%◌, ◌^◌, ap}
use Rattle.block_alloc.proofs.BitLaws.{shifted, low-same, low-none}
use Rattle.block_alloc.proofs.bits.lowest_bits.Goals as goal

pub returns-clause-below : goal.returns-clause-below
returns-clause-below c = λ k h. low-same c.args.byte (1 * 2 ^ c.args.count % 256 - 1) c.args.count k (ap (λ n. n - 1) (shifted c.args.count c.requires)) h

pub returns-clause-above : goal.returns-clause-above
returns-clause-above c = λ k h. low-none c.args.byte (1 * 2 ^ c.args.count % 256 - 1) c.args.count k (ap (λ n. n - 1) (shifted c.args.count c.requires)) h
