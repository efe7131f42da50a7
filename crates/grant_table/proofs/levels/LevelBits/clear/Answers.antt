use Rattle.std.proofs.Common.{sym, ◌∙◌, ap, length, replicate, false}
use Rattle.tsd_model.specs.declared.requests.Level.TheVariants as level
use Rattle.grant_table.specs.Levels.{levels_of_bits}
use Rattle.grant_table.proofs.LevelLaws.{all_unset, length-levels_of_bits}
use Rattle.grant_table.proofs.levels.LevelBits.clear.Goals as goal

pub returns : goal.returns
returns c =
    let reads = c.self.inside.reads in let writes = c.self.inside.writes in
    ap (λ rs. levels_of_bits rs c.clear-2.new.self) c.clear.ensures
    ∙ (ap (levels_of_bits (replicate (length reads) false)) c.clear-2.ensures
    ∙ (all_unset (length reads) (length writes)
    ∙ ap (λ n. replicate n level.Bare) (sym (ap length (sym c.self.view_is) ∙ length-levels_of_bits reads writes))))
