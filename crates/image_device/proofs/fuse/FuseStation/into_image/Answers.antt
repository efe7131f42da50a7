use Rattle.std.proofs.Common.{length, refl}
use Rattle.image_device.specs.Cells.{begun}
use Rattle.image_device.specs.Laws.{counts_now}
use Rattle.image_device.specs.MemStation.{found_in, station_view}
use Rattle.image_device.proofs.fuse.FuseStation.into_image.Goals as goal

pub returns-clause-left : goal.returns-clause-left
returns-clause-left c =
    let m = c.args.self.inner in
    counts_now (length m.log.items) m.log.items (begun (found_in m)) (station_view c.into_image.result).reads (station_view m).sent (c.into_image.ensures.image, refl)
