use Rattle.std.proofs.Common.{◌∙◌, ap}
use Rattle.std.specs.Prelude.{slice_set, slice_index_or}
use Rattle.tsd_model.specs.Sessions.{greater}
use Rattle.tsd_model.specs.declared.requests.Level.TheVariants as level
use Rattle.grant_table.specs.Granted.{no_origins}
use Rattle.grant_table.proofs.LedLaws.{shown_is}
use Rattle.grant_table.proofs.attained.shown_origins.Goals as goal

pub returns : goal.returns
returns g c = λ v s.
    let w = g.F.DiskFacts.world c.args.facts.now in
    c.raise.ensures.value
    ∙ (ap (λ origins. slice_set origins c.args.block (greater (slice_index_or origins c.args.block level.Bare) c.shown_level.result)) c.bare-origins.ensures
    ∙ (ap (λ l. slice_set no_origins c.args.block (greater (slice_index_or no_origins c.args.block level.Bare) l)) c.shown_level.ensures ∙ shown_is w v s c.args.block c.args.shown.now c.geometry-geometry.ensures.sized.lawful.primaries.1 c.requires))
