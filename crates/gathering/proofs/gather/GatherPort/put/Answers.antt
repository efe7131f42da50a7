use Rattle.std.proofs.Common.{◌++◌, length, refl, sym, ◌∙◌, ap, arith}
use Rattle.std.proofs.lemmas.List.{take_all}
use Rattle.image_device.proofs.Outcomes.{unless_err}
use Rattle.image_device.specs.declared.event.Event.TheVariants.{Put}
use Rattle.gathering.specs.Gathered.{begun_on}
use Rattle.image_device.specs.History.{HistoryState, after}
use Rattle.gathering.proofs.Events.{pushed, whole_kept}
use Rattle.image_device.proofs.Pushes.{appends, includes}
use Rattle.gathering.proofs.gather.GatherPort.put.Goals as goal

pub invariant_of-self-else-is_err-clause-whole : goal.invariant_of-self-else-is_err-clause-whole
invariant_of-self-else-is_err-clause-whole g c told =
    let es = c.args.self.now.group.past.events in
    let kept = unless_err c.put.result c.is_err.result c.if-is_err.false c.is_err.ensures.value c.put.ensures.kept in
    whole_kept es _ (Put kept.0) kept.2 (λ s. refl) g.K.Began.start (c.args.self.now.whole told)

pub returns-clause-sent : goal.returns-clause-sent
returns-clause-sent g c told =
    let es = c.args.self.now.group.past.events in
    let s = begun_on g.K.Began.start in
    let kept = unless_err c.put.result c.is_err.result c.if-is_err.false c.is_err.ensures.value c.put.ensures.kept in
    ap (λ (z : HistoryState). z.sent) (pushed es _ (Put kept.0) kept.2 s)
    ∙ ap (λ p. (after es s).sent ++ p) (kept.1 ∙ sym (take_all (length c.args.piece.now) c.args.piece.now (omega arith)))

pub returns-clause-appends : goal.returns-clause-appends
returns-clause-appends g c told =
    let es = c.args.self.now.group.past.events in
    let kept = unless_err c.put.result c.is_err.result c.if-is_err.false c.is_err.ensures.value c.put.ensures.kept in
    appends (begun_on g.K.Began.start) es _ _ _ _ _ _ kept.0 _ refl c.args.piece.now kept.1 _ kept.2

pub returns-clause-includes : goal.returns-clause-includes
returns-clause-includes g c told =
    let es = c.args.self.now.group.past.events in
    let kept = unless_err c.put.result c.is_err.result c.if-is_err.false c.is_err.ensures.value c.put.ensures.kept in
    includes (begun_on g.K.Began.start) es 0 0 0 0 0 0 kept.0 _ refl c.args.piece.now kept.1 _ kept.2
