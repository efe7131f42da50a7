use Rattle.std.proofs.Common.{◌+◌, ◌*◌, ◌≤◌, length, sym, subst}
use Rattle.inode_layout.specs.Block.{body_of}
use Rattle.inode_layout.proofs.HeadLaws.{length-blocks, size_is}
use Rattle.inode_layout.proofs.inode.Inode.count.Goals as goal

pub returns-clause-value : goal.returns-clause-value
returns-clause-value c = let i = c.args.self.now in sym (length-blocks i.kind i.amount i.count (body_of i))

pub returns-clause-fits : goal.returns-clause-fits
returns-clause-fits c = let i = c.args.self.now in subst (λ k. 16 + k * i.count ≤ length i.bytes) (size_is i.kind i.amount i.count (body_of i)) i.fits
