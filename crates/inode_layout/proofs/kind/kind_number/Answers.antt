use Rattle.std.proofs.Common.{sym, ap}
use Rattle.inode_layout.specs.Kinds.{kind_number}
use Rattle.inode_layout.proofs.kind.kind_number.Goals as goal

pub returns-in-Directory : goal.returns-in-Directory
returns-in-Directory c = sym (ap kind_number c.in-Directory.is)

pub returns-in-Regular : goal.returns-in-Regular
returns-in-Regular c = sym (ap kind_number c.in-Regular.is)
