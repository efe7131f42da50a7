use Rattle.image_world.proofs.AgreeLaws.{same_stand, same_owe, old_stands}
use Rattle.image_world.proofs.crashing.crashes_keep_the_world.Goals as goal

pub returns : goal.returns
returns c = record { same = same_stand; owes = same_owe; before = old_stands }
