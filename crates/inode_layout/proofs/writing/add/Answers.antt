use Rattle.inode_layout.proofs.ListedLaws.{is_added}
use Rattle.inode_layout.proofs.writing.add.Goals as goal

pub returns : goal.returns
returns c = is_added c.extend_from_slice.result (c.extend_from_slice.ensures.variant.1 c.requires) c.extend_from_slice.ensures.ok
