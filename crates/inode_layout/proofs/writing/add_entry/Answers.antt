use Rattle.inode_layout.proofs.ListedLaws.{is_added}
use Rattle.inode_layout.proofs.writing.add_entry.Goals as goal

pub write_entry-requires : goal.write_entry-requires
write_entry-requires c = c.requires.named

pub returns : goal.returns
returns c = is_added c.write_entry.result (c.write_entry.ensures.variant.1 c.requires.fits) c.write_entry.ensures.ok
