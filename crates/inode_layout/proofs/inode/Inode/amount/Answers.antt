use Rattle.std.proofs.Common.{length}
use Rattle.inode_layout.specs.Block.{body_of}
use Rattle.inode_layout.proofs.HeadLaws.{amount_is}
use Rattle.inode_layout.proofs.inode.Inode.amount.Goals as goal

pub returns : goal.returns
returns c = let i = c.args.self.now in amount_is i.kind i.amount i.count (length i.bytes) (body_of i) i.counts
