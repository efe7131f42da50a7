use Rattle.std.proofs.Common.{◌≡◌, sym, ◌∙◌, ap, subst, arith, Option}
use Rattle.tsd_core.proofs.Common.{slice_index_or, attained_from, Need, attained_at, attained_for, with_sessions, raised_need}
use Rattle.tsd_model.specs.declared.requests.Level.TheVariants as level
use Rattle.tsd_core.proofs.Rising.{attained_at_origin}
use Rattle.tsd_core.proofs.raise.raise_at.Goals as goal

pub returns-in-Some : goal.returns-in-Some
returns-in-Some c = λ w v same attained.
    let n = c.in-Some.need in
    let s = c.args.session in
    let here : c.args.origins.now ≡ attained_at w v s n.block n.shown = attained ∙ ap (attained_for w v s) c.in-Some.is in
    subst (λ (x : Option Need). c.raise.new.self ≡ with_sessions c.args.grants.now (raised_need w v s x c.args.grants.now.sessions)) (sym c.in-Some.is)
    (c.raise.ensures (attained_from w v s n.block n.shown) (λ o inside. attained_at_origin w v s n.block n.shown o (omega (arith, inside, same)) ∙ ap (λ os. slice_index_or os o level.Bare) (sym here)))
