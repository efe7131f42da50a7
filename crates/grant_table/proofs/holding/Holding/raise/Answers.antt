use Rattle.std.proofs.Common.{ℕ, ◌∙◌, ap, arith}
use Rattle.std.specs.Prelude.{slice_index_or}
use Rattle.tsd_model.specs.Sessions.{raised_held}
use Rattle.tsd_model.specs.declared.requests.Level.{Level}
use Rattle.tsd_model.specs.declared.requests.Level.TheVariants as level
use Rattle.grant_table.proofs.HeldLaws.{raised_all}
use Rattle.grant_table.proofs.holding.Holding.raise.Goals as goal

pub returns : goal.returns
returns c =
    let f : ℕ → Level = λ o. slice_index_or c.args.origins.now o level.Bare in
    raised_all c.args.block f c.self.inside.tables.items c.loop-origin.self-inside.tables.items c.loop-origin.origin c.loop-origin.invariant.sized (omega arith) c.loop-origin.invariant.done
    ∙ ap (raised_held c.args.block f) c.self.view_is
