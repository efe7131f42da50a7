use Rattle.std.proofs.Common.{◌≡◌, List, ℕ, drop, sym, ◌∙◌, ap, subst}
use Rattle.std.proofs.Math.Seq.{drop-length}
use Rattle.image_device.specs.Counts.{Rose}
use Rattle.serving.specs.Ran.{moments, taking}
use Rattle.volume_laws.specs.Writes.{due}
use Rattle.image_runs.specs.Server.{placed_on}
use Rattle.embedded_disk.specs.Calls.{AnsweredFrames, shown}
use Rattle.embedded_disk.proofs.Answered.{answered, some_faults}
use Rattle.embedded_disk.proofs.open_disk.OpenDisk.apply.Goals as goal

pub returns-clause-answered : goal.returns-clause-answered
returns-clause-answered g c =
    let before = c.new-source.result in
    let after = c.serve-status.new.source in
    let made = c.new-source.ensures in
    let did = c.serve-status.ensures in
    let left : List ℕ = drop after.at after.bytes.now in
    let start : c.args.frames.now ≡ drop before.at before.bytes.now =
    sym made.bytes ∙ sym (ap (λ n. drop n before.bytes.now) made.at) in
    subst (λ r. AnsweredFrames r c.args.frames.now
    (placed_on c.args.placement.now.kind c.args.self.now.core (g.P.Device.view c.args.port.now).reads)
    (placed_on c.args.placement.now.kind c.serve-status.new.self.core
    (g.P.Device.view c.serve-status.new.port).reads)
    (due c.args.self.now.core.volume)
    (moments g.P.Device.told g.P.Device.view c.args.port.now c.serve-status.new.port))
    (sym c.shown.ensures)
    (answered _ _ _ _ _ c.args.frames.now left
    (λ x given. start ∙ given.left tt) (λ end. end.found) c.serve-status.result
    (λ e. ap (λ n. drop n after.bytes.now)
    (after.only (some_faults before.faults after.faults made.faults (did.faults.source_fault e)))
    ∙ drop-length after.bytes.now)
    did.ran)

-- a fault that is none as it is shown was none in the loop
pub returns-clause-at : goal.returns-clause-at
returns-clause-at g c =
    λ works told. c.serve-status.ensures.at (λ e. works (c.shown.ensures ∙ ap shown e)) told
