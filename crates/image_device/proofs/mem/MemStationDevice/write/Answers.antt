use Rattle.std.proofs.Common.{◌≤◌, ◌+◌, ◌++◌, [], ◌∷◌, length, refl, ◌∙◌, ap, arith}
use Rattle.image_device.specs.declared.event.Event.TheVariants.{Write}
use Rattle.image_device.specs.declared.mem.MemStation.{MemStation}
use Rattle.image_device.specs.Image.{IsSector}
use Rattle.image_device.specs.History.{HistoryState}
use Rattle.image_device.specs.Cells.{begun}
use Rattle.image_device.specs.MemStation.{found_in}
use Rattle.image_device.proofs.Outcomes.{unless_err, where_err}
use Rattle.image_device.proofs.Cells.{same_begun, kept_begun, kept_agrees, kept_whole, written_whole, standing_written_as}
use Rattle.image_device.proofs.Pushes.{after_one, touches_not, touches}
use Rattle.image_device.proofs.mem.MemStationDevice.write.Goals as goal

pub returns-then-is_failing-clause-touches : goal.returns-then-is_failing-clause-touches
returns-then-is_failing-clause-touches c =
    let counted = c.is_failing.ensures.counted in
    touches_not (begun (found_in c.args.self.now)) c.args.self.now.log.items _ _ _ _ _ _ _ (ap (λ (m : MemStation). begun (found_in m)) counted) _ (ap (λ (m : MemStation). m.log.items) counted) c.args.sector

pub returns-then-is_err-clause-touches : goal.returns-then-is_err-clause-touches
returns-then-is_err-clause-touches c =
    let counted = c.is_failing.ensures.counted in
    let same = where_err c.keep_write.result c.is_err.result c.if-is_err.true c.is_err.ensures.value c.keep_write.ensures.err in
    touches_not (begun (found_in c.args.self.now)) c.args.self.now.log.items _ _ _ _ _ _ _ (same_begun _ _ _ _ same ∙ ap (λ (m : MemStation). begun (found_in m)) counted) _ (same.log ∙ ap (λ (m : MemStation). m.log.items) counted) c.args.sector

pub invariant_of-self-else-is_err-clause-whole : goal.invariant_of-self-else-is_err-clause-whole
invariant_of-self-else-is_err-clause-whole c =
    let m = c.is_failing.new.self in
    let kept = unless_err c.keep_write.result c.is_err.result c.if-is_err.false c.is_err.ensures.value c.keep_write.ensures.ok in
    let sector : IsSector c.args.from.now = record { size = c.told-from; each = c.fits-from } in
    kept_whole (found_in m) _ m.log.items _ (Write c.args.sector kept.0) c.args.sector _ kept.2 (written_whole m.synced (length m.log.items) (length m.log.items + 1) c.args.from.now _ sector (m.whole c.args.sector)) m.whole

pub invariant_of-self-else-is_err-clause-agrees : goal.invariant_of-self-else-is_err-clause-agrees
invariant_of-self-else-is_err-clause-agrees c =
    let m = c.is_failing.new.self in
    let kept = unless_err c.keep_write.result c.is_err.result c.if-is_err.false c.is_err.ensures.value c.keep_write.ensures.ok in
    let later : m.synced ≤ length m.log.items = m.reached in
    kept_agrees (found_in m) _ m.log.items _ (Write c.args.sector kept.0) c.args.sector _ kept.2 m.synced m.sent.items refl m.agrees
    (standing_written_as (found_in m) m.synced (length m.log.items + 1) c.args.sector kept.0 c.args.from.now m.sent.items kept.1 (omega arith))

pub returns-clause-touches : goal.returns-clause-touches
returns-clause-touches c =
    let counted = c.is_failing.ensures.counted in
    let kept = unless_err c.keep_write.result c.is_err.result c.if-is_err.false c.is_err.ensures.value c.keep_write.ensures.ok in
    touches (begun (found_in c.args.self.now)) c.args.self.now.log.items _ _ _ _ _ _ c.args.sector kept.0 _ (kept_begun _ _ _ _ _ _ _ kept.2 refl ∙ ap (λ (m : MemStation). begun (found_in m)) counted) _
    (kept.2.log ∙ ap (λ (m : MemStation). m.log.items ++ Write c.args.sector kept.0 ∷ []) counted)

pub returns-clause-synced : goal.returns-clause-synced
returns-clause-synced c =
    let counted = c.is_failing.ensures.counted in
    let kept = unless_err c.keep_write.result c.is_err.result c.if-is_err.false c.is_err.ensures.value c.keep_write.ensures.ok in
    ap (λ (s : HistoryState). s.synced) (after_one (begun (found_in c.args.self.now)) _ c.args.self.now.log.items _ (kept_begun _ _ _ _ _ _ _ kept.2 refl ∙ ap (λ (m : MemStation). begun (found_in m)) counted) (Write c.args.sector kept.0)
    (kept.2.log ∙ ap (λ (m : MemStation). m.log.items ++ Write c.args.sector kept.0 ∷ []) counted))
