use Rattle.std.proofs.Common.{arith}
use Rattle.chain_layout.proofs.WritingLaws.{bytes_before, bytes_behind, sized_behind}
use Rattle.chain_layout.proofs.writing.parts.Goals as goal

pub returns-clause-before : goal.returns-clause-before
returns-clause-before c = bytes_before c.args.position c.args.count c.args.list.now (λ i. omega (arith, c.type_inv.list i)) c.requires.fits c.requires.first

pub returns-clause-behind : goal.returns-clause-behind
returns-clause-behind c = bytes_behind c.args.behind c.args.count c.args.list.now (λ i. omega (arith, c.type_inv.list i)) c.requires.fits c.requires.last

pub returns-clause-sized_behind : goal.returns-clause-sized_behind
returns-clause-sized_behind c = sized_behind c.args.behind c.args.count c.args.list.now c.requires.fits c.requires.last
