use Rattle.std.proofs.Common.{◌≡◌, ◌++◌, ◌∙◌, ap, length, false, ◌==◌}
use Rattle.script_text.proofs.TextsLaws.{targets_after}
use Rattle.script_text.proofs.short.targets_or_dash.Goals as goal

pub returns-else-is_empty-clause-text : goal.returns-else-is_empty-clause-text
returns-else-is_empty-clause-text c =
    let some : (length c.args.blocks.now == 0) ≡ false = cc in
    c.numbers.ensures.text ∙ ap (λ xs. c.args.line.now ++ xs) (targets_after c.args.blocks.now some)
