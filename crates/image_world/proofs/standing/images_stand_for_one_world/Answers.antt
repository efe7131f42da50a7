use Rattle.image_world.proofs.DebtLaws.{debt_is_doomed}
use Rattle.image_world.proofs.RawLaws.{raw_is_raw}
use Rattle.image_world.proofs.WorldLaws.{one_world, world_valid, told_like}
use Rattle.image_world.proofs.standing.images_stand_for_one_world.Goals as goal

pub returns : goal.returns
returns c = record { one = one_world; raw = raw_is_raw; valid = world_valid; told = told_like; debt = debt_is_doomed }
