use Rattle.std.proofs.Common.{sym, ◌∙◌, ap, false}
use Rattle.std.specs.Prelude.{slice_index_or}
use Rattle.tsd_model.specs.declared.requests.Level.TheVariants as level
use Rattle.grant_table.specs.Levels.{level_of_bits}
use Rattle.grant_table.proofs.LevelLaws.{get-levels_of_bits}
use Rattle.grant_table.proofs.levels.LevelBits.level.Goals as goal

pub returns-then-get : goal.returns-then-get
returns-then-get c =
    let reads = c.self.inside.reads in let writes = c.self.inside.writes in let b = c.args.block in
    sym (ap (λ levels. slice_index_or levels b level.Bare) (sym c.self.view_is) ∙ (get-levels_of_bits reads writes b c.self.invariant ∙ ap (level_of_bits (slice_index_or reads b false)) (sym c.if-get.ensures)))

pub returns-then-get-2 : goal.returns-then-get-2
returns-then-get-2 c =
    let reads = c.self.inside.reads in let writes = c.self.inside.writes in let b = c.args.block in
    sym (ap (λ levels. slice_index_or levels b level.Bare) (sym c.self.view_is) ∙ (get-levels_of_bits reads writes b c.self.invariant
    ∙ (ap (level_of_bits (slice_index_or reads b false)) (sym c.if-get.ensures) ∙ ap (λ r. level_of_bits r false) (sym c.if-get-2.ensures))))

pub returns-else-get-2 : goal.returns-else-get-2
returns-else-get-2 c =
    let reads = c.self.inside.reads in let writes = c.self.inside.writes in let b = c.args.block in
    sym (ap (λ levels. slice_index_or levels b level.Bare) (sym c.self.view_is) ∙ (get-levels_of_bits reads writes b c.self.invariant
    ∙ (ap (level_of_bits (slice_index_or reads b false)) (sym c.if-get.ensures) ∙ ap (λ r. level_of_bits r false) (sym c.if-get-2.ensures))))
