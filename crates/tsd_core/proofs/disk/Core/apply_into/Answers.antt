use Rattle.std.proofs.Common.{◌≡◌, Some, None, Option, subst, sym}
use Rattle.std.specs.Prelude.{Result}
use Rattle.tsd_core.proofs.Common.{verdict, Reply, Rule, Failed, Volume, told_by, IsApplied, left_in, Core, told_world}
use Rattle.tsd_core.proofs.Applied.{refused_applied, granted_applied, refused_asks}
use Rattle.tsd_core.proofs.Operations.{if_map}
use Rattle.tsd_core.proofs.disk.Core.apply_into.Goals as goal

pub returns-in-Err-clause-applied : goal.returns-in-Err-clause-applied
returns-in-Err-clause-applied g c =
    let v = g.D.Device.view c.args.dev.now in
    subst (λ (r : Result Reply Failed). IsApplied g.D.Device.told c.args.placement.now.kind c.args.request.now c.args.self.now c.args.self.now v v r) (sym c.refused.ensures)
    (refused_applied g.D.Device.told c.args.placement.now.kind c.args.request.now c.args.self.now v c.in-Err.rule
    c.requires.ready c.check.ensures.volume c.check.ensures.table (g.met.D.Device.sound c.args.dev.now) c.requires.at
    (subst (λ (x : Core). verdict (told_world x) x.grants.sessions c.args.request.now ≡ Some c.in-Err.rule) c.self.view_is
    (subst (λ (x : Volume). verdict (told_by x) c.self.inside.grants.sessions c.args.request.now ≡ Some c.in-Err.rule) c.of.ensures c.in-Err.ensures.err)))

pub returns-in-Ok-clause-applied : goal.returns-in-Ok-clause-applied
returns-in-Ok-clause-applied g c =
    granted_applied g.D.Device.told c.args.placement.now.kind c.args.request.now c.args.self.now c.raise.new.self c.carry_out.new.self (g.D.Device.view c.args.dev.now) (g.D.Device.view c.carry_out.new.dev) (left_in c.carry_out.result c.carry_out.new.into)
    c.requires.ready c.check.ensures.volume c.check.ensures.table c.requires.at
    (subst (λ (x : Core). ◌≡◌ {A = Option Rule} (verdict (told_world x) x.grants.sessions c.args.request.now) None) c.self.view_is
    (subst (λ (x : Volume). ◌≡◌ {A = Option Rule} (verdict (told_by x) c.self.inside.grants.sessions c.args.request.now) None) c.of.ensures c.in-Ok.ensures.ok))
    c.raise.ensures.volume c.raise.ensures.grants c.carry_out.ensures.carried_out c.carry_out.ensures.volume c.carry_out.ensures.answered

pub returns-in-Ok-clause-asks_nothing : goal.returns-in-Ok-clause-asks_nothing
returns-in-Ok-clause-asks_nothing g c =
    let was = c.raise.new.self in
    if_map (left_in c.carry_out.result c.carry_out.new.into)
    (λ r kept e. c.carry_out.ensures.asks_nothing (refused_asks c.args.placement.now.kind (told_world was) was.grants c.carry_out.new.self.grants c.args.request.now r kept e))
    c.carry_out.ensures.carried_out.kept
