use Rattle.std.specs.Prelude.{OnOk}
use Rattle.std.proofs.Common.{subst}
use Rattle.image_device.specs.declared.fuse.FuseStation.{FuseStation}
use Rattle.image_device.specs.View.{IsLeftInPut}
use Rattle.image_device.specs.Calls.{Includes}
use Rattle.image_device.specs.FuseStation.{fuse_view}
use Rattle.image_device.specs.MemStation.{station_view}
use Rattle.image_device.proofs.fuse.FuseStationPort.put.Goals as goal

pub returns-clause-includes : goal.returns-clause-includes
returns-clause-includes c =
    subst (λ (d : FuseStation). OnOk c.put.result (Includes (fuse_view d) (station_view c.put.new.self) (IsLeftInPut c.args.piece.now (fuse_view d)))) c.is_passing.ensures.counted c.put.ensures.includes
