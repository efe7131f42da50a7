use Rattle.inode_layout.proofs.writing.empty_directory.Goals as goal

pub returns : goal.returns
returns c = c.head.ensures
