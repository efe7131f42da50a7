use Rattle.std.proofs.Common.{sym, ◌∙◌, ap}
use Rattle.std.specs.Prelude.{slice_index_or}
use Rattle.tsd_model.specs.Sessions.{levels_in}
use Rattle.tsd_model.specs.Attained.{led_level}
use Rattle.tsd_model.specs.declared.requests.Level.TheVariants as level
use Rattle.tsd_model.proofs.LevelLaws.{led_level_nothing}
use Rattle.grant_table.proofs.LedLaws.{no_origins-bare}
use Rattle.grant_table.proofs.grants.Grants.led_origins.Goals as goal

pub returns-in-None-clause-each : goal.returns-in-None-clause-each
returns-in-None-clause-each g c = λ o h.
    let es = (g.F.DiskFacts.world c.args.facts.now).pairs in
    ap (λ ls. slice_index_or ls o level.Bare) c.bare.ensures
    ∙ (no_origins-bare o ∙ (led_level_nothing c.args.block es ∙ ap (λ x. led_level (levels_in x o) c.args.block es) (sym c.in-None.ensures.held)))
