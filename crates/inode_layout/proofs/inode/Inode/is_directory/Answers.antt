use Rattle.std.proofs.Common.{sym, ap}
use Rattle.inode_layout.specs.Block.{said, body_of}
use Rattle.inode_layout.specs.Said.{is_directory}
use Rattle.inode_layout.proofs.inode.Inode.is_directory.Goals as goal

pub returns-in-Directory : goal.returns-in-Directory
returns-in-Directory c = let i = c.args.self.now in sym (ap (λ k. is_directory (said k i.amount i.count (body_of i))) c.in-Directory.is)

pub returns-in-Regular : goal.returns-in-Regular
returns-in-Regular c = let i = c.args.self.now in sym (ap (λ k. is_directory (said k i.amount i.count (body_of i))) c.in-Regular.is)
