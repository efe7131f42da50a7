use Rattle.image_shell.proofs.AgainLaws.{found_again}
use Rattle.image_shell.proofs.laws.what_a_crash_left_is_mounted.Goals as goal

pub returns : goal.returns
returns c f start first second before asked x sent is_first is_second = found_again f start first second before asked x sent is_first is_second
