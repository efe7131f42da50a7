use Rattle.std.proofs.Common.{sym, ◌∙◌, ap, ◌≡◌, not}
use Rattle.tsd_model.specs.Sessions.{greatest, level_le}
use Rattle.tsd_model.specs.Attained.{attained}
use Rattle.tsd_model.specs.declared.replies.Rule.TheVariants as rule
use Rattle.grant_table.proofs.LedLaws.{greatest-attained_at}
use Rattle.grant_table.proofs.grants.Grants.check_level.Goals as goal

pub returns-then-level_le-clause-suffices : goal.returns-then-level_le-clause-suffices
returns-then-level_le-clause-suffices g c =
    let w = g.F.DiskFacts.world c.args.facts.now in let v = c.args.self.now.sessions in let n = c.args.need.now in
    let e : c.greatest-found.result ≡ attained w v c.args.session n.block n.shown = c.greatest-found.ensures.value ∙ (ap greatest c.attained-origins.ensures ∙ greatest-attained_at w v c.args.session n.block n.shown) in
    ap (λ l. not (level_le n.level l)) (sym e) ∙ ap not (sym c.level_le.ensures ∙ c.if-level_le.true)

pub returns-else-level_le-clause-err : goal.returns-else-level_le-clause-err
returns-else-level_le-clause-err g c =
    let w = g.F.DiskFacts.world c.args.facts.now in let v = c.args.self.now.sessions in let n = c.args.need.now in
    let e : c.greatest-found.result ≡ attained w v c.args.session n.block n.shown = c.greatest-found.ensures.value ∙ (ap greatest c.attained-origins.ensures ∙ greatest-attained_at w v c.args.session n.block n.shown) in
    (ap (λ l. not (level_le n.level l)) (sym e) ∙ ap not (sym c.level_le.ensures ∙ c.if-level_le.false), ap (λ l. rule.Denied l n.level) (sym e))
