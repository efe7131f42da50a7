use Rattle.std.proofs.Common.{sym, ◌∙◌}
use Rattle.grant_table.proofs.LedLaws.{found_next, found_kept}
use Rattle.grant_table.proofs.attained.add_held.Goals as goal

pub returns-clause-found : goal.returns-clause-found
returns-clause-found g c =
    found_next c.args.holding.now (g.F.DiskFacts.world c.args.facts.now).pairs c.bare_until-next.result c.args.block c.args.start c.args.best.now c.add_to.new.best
    (sym c.has.ensures ∙ c.if-not-has.false) c.add_to.ensures.sized c.add_to.ensures.each c.requires.found
    (λ o b there from before. c.bare_until-next.ensures.bare o b from before)

pub returns-clause-kept : goal.returns-clause-kept
returns-clause-kept g c = λ n found.
    found_kept c.args.holding.now (g.F.DiskFacts.world c.args.facts.now).pairs c.bare_until-next.result c.args.block n c.args.best.now c.add_to.new.best
    (sym c.has.ensures ∙ c.if-not-has.false) c.add_to.ensures.sized c.add_to.ensures.each found
