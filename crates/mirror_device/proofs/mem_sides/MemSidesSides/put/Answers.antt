use Rattle.std.proofs.Common.{◌++◌, sym, ◌∙◌, ap, arith}
use Rattle.std.proofs.Math.Seq.{take-length}
use Rattle.image_device.proofs.Outcomes.{unless_err, where_err}
use Rattle.mirror_device.specs.Twins.{log_entries, twins_view}
use Rattle.mirror_device.proofs.Calls.{appends, includes, puts, puts_not, sent}
use Rattle.mirror_device.proofs.mem_sides.MemSidesSides.put.Goals as goal

pub returns-clause-appends : goal.returns-clause-appends
returns-clause-appends c =
    let m = c.args.self.now.twins in
    let kept = unless_err c.put.result c.is_err.result c.if-is_err.false c.is_err.ensures.value c.put.ensures.kept in
    appends (log_entries m) m.put_faults kept.0 c.args.piece.now kept.1 _ _ kept.2 c.put.ensures.put_faults

pub returns-clause-includes : goal.returns-clause-includes
returns-clause-includes c =
    let m = c.args.self.now.twins in
    let kept = unless_err c.put.result c.is_err.result c.if-is_err.false c.is_err.ensures.value c.put.ensures.kept in
    includes (log_entries m) m.put_faults kept.0 c.args.piece.now kept.1 _ _ kept.2 c.put.ensures.put_faults

pub returns-clause-puts : goal.returns-clause-puts
returns-clause-puts c =
    let m = c.args.self.now.twins in
    let kept = unless_err c.put.result c.is_err.result c.if-is_err.false c.is_err.ensures.value c.put.ensures.kept in
    puts (log_entries m) m.put_faults kept.0 c.args.piece.now kept.1 _ _ kept.2 c.put.ensures.put_faults

pub returns-clause-sent : goal.returns-clause-sent
returns-clause-sent c =
    let m = c.args.self.now.twins in
    let kept = unless_err c.put.result c.is_err.result c.if-is_err.false c.is_err.ensures.value c.put.ensures.kept in
    sent (log_entries m) m.put_faults kept.0 c.args.piece.now kept.1 _ _ kept.2 c.put.ensures.put_faults ∙ ap (λ x. (twins_view m).sent ++ x) (sym (take-length c.args.piece.now))

pub returns-then-is_failing-clause-puts : goal.returns-then-is_failing-clause-puts
returns-then-is_failing-clause-puts c =
    let m = c.args.self.now.twins in
    puts_not (log_entries m) _ m.put_faults _ c.blame_put.ensures.same c.blame_put.ensures.later

pub returns-then-is_err-clause-puts : goal.returns-then-is_err-clause-puts
returns-then-is_err-clause-puts c =
    let m = c.args.self.now.twins in
    let same = where_err c.put.result c.is_err.result c.if-is_err.true c.is_err.ensures.value c.put.ensures.same in
    puts_not (log_entries m) _ m.put_faults _ (c.blame_put-then-is_err.ensures.same ∙ same) (omega (arith, c.put.ensures.put_faults, c.blame_put-then-is_err.ensures.later))
