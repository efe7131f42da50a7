use Rattle.std.proofs.Common.{◌∙◌, ap}
use Rattle.image_device.specs.declared.mem.MemStation.{MemStation}
use Rattle.image_device.specs.MemStation.{station_view}
use Rattle.mirror_device.proofs.mem_side.MemSide.into_image.Goals as goal

pub returns-clause-torn : goal.returns-clause-torn
returns-clause-torn c b picked n loose = c.into_image.ensures.torn b (c.new.ensures.pick ∙ picked) n (ap (λ (m : MemStation). (station_view m).loose n) c.new.ensures.within ∙ loose)
