use Rattle.image_world.proofs.AnswerLaws.{world_or_fault}
use Rattle.image_world.proofs.FaultLaws.{one_fault, no_fault}
use Rattle.image_world.proofs.faults.images_have_one_answer.Goals as goal

pub returns : goal.returns
returns c = record { some = world_or_fault; one = one_fault; none = no_fault }
