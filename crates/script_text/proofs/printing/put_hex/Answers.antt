use Rattle.std.proofs.Common.{arith}
use Rattle.hex.specs.Hex.{lower_digits}
use Rattle.hex.proofs.HexLemmas.{length-encode_with, decode_of-encode_lower}
use Rattle.script_text.proofs.printing.put_hex.Goals as goal

pub returns-clause-long : goal.returns-clause-long
returns-clause-long c = length-encode_with lower_digits c.args.bytes.now

pub returns-clause-reads : goal.returns-clause-reads
returns-clause-reads c = decode_of-encode_lower c.args.bytes.now (λ i. omega (arith, c.type_inv.bytes i))
