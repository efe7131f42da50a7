use Rattle.std.proofs.Common.{arith}
use Rattle.fs_fields.proofs.WrittenLaws.{bytes_before, bytes_behind, sized_before, sized_behind}
use Rattle.fs_fields.proofs.entries.around.Goals as goal

pub returns-clause-before : goal.returns-clause-before
returns-clause-before c = bytes_before c.args.name.now c.args.list.now c.args.amount c.position_of-position.result (λ i. omega (arith, c.type_inv.list i)) c.requires c.position_of-position.ensures.fits c.position_of-position.ensures.value

pub returns-clause-behind : goal.returns-clause-behind
returns-clause-behind c = bytes_behind c.args.name.now c.args.list.now c.args.amount c.position_of-position.result c.behind-next.result (λ i. omega (arith, c.type_inv.list i)) c.requires c.behind-next.ensures.most c.position_of-position.ensures.value c.behind-next.ensures.value

pub returns-clause-sized_before : goal.returns-clause-sized_before
returns-clause-sized_before c = sized_before c.args.name.now c.args.list.now c.args.amount c.position_of-position.result c.requires c.position_of-position.ensures.fits c.position_of-position.ensures.value

pub returns-clause-sized_behind : goal.returns-clause-sized_behind
returns-clause-sized_behind c = sized_behind c.args.name.now c.args.list.now c.args.amount c.position_of-position.result c.behind-next.result c.requires c.behind-next.ensures.most c.position_of-position.ensures.value c.behind-next.ensures.value
