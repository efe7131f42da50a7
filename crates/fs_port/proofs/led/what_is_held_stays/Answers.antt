use Rattle.fs_port.proofs.LedLaws.{levels_stay}
use Rattle.fs_port.proofs.led.what_is_held_stays.Goals as goal

pub returns : goal.returns
returns c = levels_stay
