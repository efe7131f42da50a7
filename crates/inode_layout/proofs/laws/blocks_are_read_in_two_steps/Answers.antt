use Rattle.inode_layout.proofs.SaidLaws.{in_two_steps}
use Rattle.inode_layout.proofs.laws.blocks_are_read_in_two_steps.Goals as goal

pub returns : goal.returns
returns c = in_two_steps
