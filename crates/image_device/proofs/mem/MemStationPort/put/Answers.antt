use Rattle.std.proofs.Common.{◌++◌, [], ◌∷◌, sym, ◌∙◌, ap}
use Rattle.image_device.specs.declared.event.Event.TheVariants.{Put}
use Rattle.image_device.specs.declared.mem.MemStation.{MemStation}
use Rattle.image_device.specs.Cells.{begun}
use Rattle.image_device.specs.MemStation.{found_in}
use Rattle.image_device.proofs.Outcomes.{unless_err, where_err}
use Rattle.image_device.proofs.Cells.{put_agrees, more_whole}
use Rattle.image_device.proofs.Pushes.{appends_not, appends, includes}
use Rattle.image_device.proofs.mem.MemStationPort.put.Goals as goal

pub returns-then-is_failing-clause-appends : goal.returns-then-is_failing-clause-appends
returns-then-is_failing-clause-appends c =
    let counted = c.is_failing.ensures.counted in
    appends_not (begun (found_in c.args.self.now)) c.args.self.now.log.items _ _ _ _ _ _ _ (ap (λ (m : MemStation). begun (found_in m)) counted) _ (ap (λ (m : MemStation). m.log.items) counted) c.args.piece.now

pub returns-then-is_err-clause-appends : goal.returns-then-is_err-clause-appends
returns-then-is_err-clause-appends c =
    let counted = c.is_failing.ensures.counted in
    let same = where_err c.keep_piece.result c.is_err.result c.if-is_err.true c.is_err.ensures.value c.keep_piece.ensures.err in
    appends_not (begun (found_in c.args.self.now)) c.args.self.now.log.items _ _ _ _ _ _ _ (ap (λ (m : MemStation). begun (found_in m)) counted) _ (same.0 ∙ ap (λ (m : MemStation). m.log.items) counted) c.args.piece.now

pub invariant_of-self-else-is_err-clause-whole : goal.invariant_of-self-else-is_err-clause-whole
invariant_of-self-else-is_err-clause-whole c =
    let m = c.is_failing.new.self in
    let kept = unless_err c.keep_piece.result c.is_err.result c.if-is_err.false c.is_err.ensures.value c.keep_piece.ensures.ok in
    more_whole (found_in m) m.log.items _ (Put kept.0) kept.2 m.whole

pub invariant_of-self-else-is_err-clause-agrees : goal.invariant_of-self-else-is_err-clause-agrees
invariant_of-self-else-is_err-clause-agrees c =
    let m = c.is_failing.new.self in
    let kept = unless_err c.keep_piece.result c.is_err.result c.if-is_err.false c.is_err.ensures.value c.keep_piece.ensures.ok in
    put_agrees (found_in m) m.log.items _ m.synced m.sent.items _ kept.0 kept.2 (kept.3 ∙ ap (λ l. m.sent.items ++ l) (sym kept.1)) m.agrees

pub returns-clause-appends : goal.returns-clause-appends
returns-clause-appends c =
    let counted = c.is_failing.ensures.counted in
    let kept = unless_err c.keep_piece.result c.is_err.result c.if-is_err.false c.is_err.ensures.value c.keep_piece.ensures.ok in
    appends (begun (found_in c.args.self.now)) c.args.self.now.log.items _ _ _ _ _ _ kept.0 _ (ap (λ (m : MemStation). begun (found_in m)) counted) c.args.piece.now kept.1 _ (kept.2 ∙ ap (λ (m : MemStation). m.log.items ++ Put kept.0 ∷ []) counted)

pub returns-clause-includes : goal.returns-clause-includes
returns-clause-includes c =
    let counted = c.is_failing.ensures.counted in
    let kept = unless_err c.keep_piece.result c.is_err.result c.if-is_err.false c.is_err.ensures.value c.keep_piece.ensures.ok in
    includes (begun (found_in c.args.self.now)) c.args.self.now.log.items 0 0 0 0 0 0 kept.0 _ (ap (λ (m : MemStation). begun (found_in m)) counted) c.args.piece.now kept.1 _ (kept.2 ∙ ap (λ (m : MemStation). m.log.items ++ Put kept.0 ∷ []) counted)
