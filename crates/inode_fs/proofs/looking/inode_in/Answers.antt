use Rattle.std.proofs.Common.{refl, sym, ◌∙◌}
use Rattle.inode_fs.proofs.SeeLaws.{read_some, read_wrong, read_none}
use Rattle.inode_fs.proofs.looking.inode_in.Goals as goal

pub returns-then-is_in_order : goal.returns-then-is_in_order
returns-then-is_in_order c = (refl, λ long. read_some c.args.bytes c.parse.result (c.parse.ensures.said long) c.in-Some.inode c.in-Some.is (sym c.is_in_order.ensures ∙ c.if-is_in_order.true))

pub returns-else-is_in_order : goal.returns-else-is_in_order
returns-else-is_in_order c = λ long. read_wrong c.args.bytes c.parse.result (c.parse.ensures.said long) c.in-Some.inode c.in-Some.is (sym c.is_in_order.ensures ∙ c.if-is_in_order.false)

pub returns-in-None : goal.returns-in-None
returns-in-None c = λ long. read_none c.args.bytes c.parse.result (c.parse.ensures.said long) c.in-None.is
