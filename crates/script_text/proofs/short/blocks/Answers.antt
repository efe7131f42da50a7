use Rattle.std.proofs.Common.{◌≡◌, ◌++◌, ◌∷◌, ◌∙◌, sym, ap, flat_map, decimal}
use Rattle.std.specs.Prelude.{codes}
use Rattle.script_text.proofs.TextsLaws.{numbers_after}
use Rattle.script_text.proofs.short.blocks.Goals as goal

pub returns-clause-text : goal.returns-clause-text
returns-clause-text c =
    let start : c.put.new.self ≡ codes "blocks" = c.put.ensures ∙ ap (λ xs. xs ++ c.as_slice.result.now) c.requires ∙ c.as_slice.ensures in
    c.numbers.ensures.text
    ∙ (λ i. start i ++ flat_map (λ n. 32 ∷ decimal n) (c.as_slice-2.ensures.value i))
    ∙ sym (numbers_after (codes "blocks") c.args.all.now)
