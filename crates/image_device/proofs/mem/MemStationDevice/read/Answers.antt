use Rattle.std.proofs.Common.{ap}
use Rattle.image_device.specs.declared.mem.MemStation.{MemStation}
use Rattle.image_device.specs.Cells.{begun}
use Rattle.image_device.specs.MemStation.{found_in}
use Rattle.image_device.proofs.Pushes.{rests}
use Rattle.image_device.proofs.mem.MemStationDevice.read.Goals as goal

pub returns-then-is_failing-clause-rests : goal.returns-then-is_failing-clause-rests
returns-then-is_failing-clause-rests c =
    let counted = c.is_failing.ensures.counted in
    rests (begun (found_in c.args.self.now)) c.args.self.now.log.items _ _ _ _ _ _ _ (ap (λ (m : MemStation). begun (found_in m)) counted) _ (ap (λ (m : MemStation). m.log.items) counted)

pub returns-clause-rests : goal.returns-clause-rests
returns-clause-rests c =
    let counted = c.is_failing.ensures.counted in
    rests (begun (found_in c.args.self.now)) c.args.self.now.log.items _ _ _ _ _ _ _ (ap (λ (m : MemStation). begun (found_in m)) counted) _ (ap (λ (m : MemStation). m.log.items) counted)
