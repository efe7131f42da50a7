use Rattle.image_world.proofs.SoundLaws.{has_one, tables_had, tables_good, right_sound}
use Rattle.image_world.proofs.sectors.sectors_have_one_set_of_tables.Goals as goal

pub returns : goal.returns
returns c = record { one = has_one; had = tables_had; sound = right_sound; passes = tables_good }
