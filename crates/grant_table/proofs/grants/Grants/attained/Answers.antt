use Rattle.std.proofs.Common.{arith, ap}
use Rattle.grant_table.proofs.LedLaws.{led_is}
use Rattle.grant_table.proofs.grants.Grants.attained.Goals as goal

pub returns-else-block-geometry : goal.returns-else-block-geometry
returns-else-block-geometry g c =
    let w = g.F.DiskFacts.world c.args.facts.now in
    led_is w c.args.self.now.sessions c.args.session c.args.block c.args.shown.now c.led_origins.result c.led_origins.ensures.sized c.geometry.ensures.sized.lawful.primaries.1
    (omega (arith, ap (λ d. d.primaries) c.geometry.ensures.value, c.if-block-geometry.false)) c.led_origins.ensures.each c.led_origins.ensures.others
