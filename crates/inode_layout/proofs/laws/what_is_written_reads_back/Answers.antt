use Rattle.inode_layout.proofs.BackLaws.{reads_back}
use Rattle.inode_layout.proofs.laws.what_is_written_reads_back.Goals as goal

pub returns : goal.returns
returns c = reads_back
