use Rattle.std.proofs.Common.{◌+◌, length, refl}
use Rattle.image_device.specs.declared.event.Event.TheVariants.{Poke}
use Rattle.image_device.specs.Image.{IsSector}
use Rattle.image_device.specs.Cells.{begun, cell_or_blank}
use Rattle.image_device.specs.MemStation.{found_in}
use Rattle.image_device.proofs.Outcomes.{unless_err, where_err}
use Rattle.image_device.proofs.Cells.{same_begun, kept_begun, kept_agrees, kept_whole, poked_whole, standing_poked_as}
use Rattle.image_device.proofs.Pushes.{elapses_not, pokes}
use Rattle.image_device.proofs.mem.MemStation.poke.Goals as goal

pub invariant_of-self-else-is_err-clause-whole : goal.invariant_of-self-else-is_err-clause-whole
invariant_of-self-else-is_err-clause-whole c =
    let m = c.args.self.now in
    let kept = unless_err c.keep_poke.result c.is_err.result c.if-is_err.false c.is_err.ensures.value c.keep_poke.ensures.ok in
    let sector : IsSector c.args.from.now = record { size = c.told-from; each = c.fits-from } in
    kept_whole (found_in m) _ m.log.items _ (Poke c.args.sector kept.0) c.args.sector _ kept.2 (poked_whole (length m.log.items + 1) c.args.from.now (cell_or_blank (found_in m c.args.sector)) sector) m.whole

pub invariant_of-self-else-is_err-clause-agrees : goal.invariant_of-self-else-is_err-clause-agrees
invariant_of-self-else-is_err-clause-agrees c =
    let m = c.args.self.now in
    let kept = unless_err c.keep_poke.result c.is_err.result c.if-is_err.false c.is_err.ensures.value c.keep_poke.ensures.ok in
    kept_agrees (found_in m) _ m.log.items _ (Poke c.args.sector kept.0) c.args.sector _ kept.2 m.synced m.sent.items refl m.agrees
    (standing_poked_as (found_in m) m.synced c.args.sector kept.0 c.args.from.now m.sent.items kept.1)

pub returns-then-is_err-clause-time : goal.returns-then-is_err-clause-time
returns-then-is_err-clause-time c =
    let m = c.args.self.now in
    let same = where_err c.keep_poke.result c.is_err.result c.if-is_err.true c.is_err.ensures.value c.keep_poke.ensures.err in
    elapses_not (begun (found_in m)) m.log.items _ _ _ _ _ _ _ (same_begun _ _ _ _ same) _ same.log

pub returns-clause-time : goal.returns-clause-time
returns-clause-time c =
    let m = c.args.self.now in
    let kept = unless_err c.keep_poke.result c.is_err.result c.if-is_err.false c.is_err.ensures.value c.keep_poke.ensures.ok in
    pokes (begun (found_in m)) m.log.items _ _ _ _ _ _ c.args.sector kept.0 _ (kept_begun _ _ _ _ _ _ _ kept.2 refl) _ kept.2.log
