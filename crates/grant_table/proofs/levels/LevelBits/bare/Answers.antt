use Rattle.std.proofs.Common.{◌∙◌, ap}
use Rattle.std.proofs.Common.{replicate, false}
use Rattle.grant_table.specs.Levels.{levels_of_bits}
use Rattle.grant_table.proofs.LevelLaws.{all_unset}
use Rattle.grant_table.proofs.levels.LevelBits.bare.Goals as goal

pub returns : goal.returns
returns c =
    ap (λ reads. levels_of_bits reads c.in_ok-new-2.field-0) c.in_ok-new.ensures
    ∙ (ap (levels_of_bits (replicate c.args.blocks false)) c.in_ok-new-2.ensures ∙ all_unset c.args.blocks c.args.blocks)
