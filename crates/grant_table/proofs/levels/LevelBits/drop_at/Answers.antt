use Rattle.std.proofs.Common.{◌∙◌, ap, false}
use Rattle.std.specs.Prelude.{slice_set}
use Rattle.tsd_model.specs.declared.requests.Level.TheVariants as level
use Rattle.grant_table.specs.Levels.{levels_of_bits}
use Rattle.grant_table.proofs.LevelLaws.{both_unset}
use Rattle.grant_table.proofs.levels.LevelBits.drop_at.Goals as goal

pub returns : goal.returns
returns c =
    let reads = c.self.inside.reads in let writes = c.self.inside.writes in let b = c.args.block in
    ap (λ rs. levels_of_bits rs c.set-2.new.self) c.set.ensures
    ∙ (ap (levels_of_bits (slice_set reads b false)) c.set-2.ensures
    ∙ (both_unset reads writes b c.self.invariant ∙ ap (λ levels. slice_set levels b level.Bare) c.self.view_is))
