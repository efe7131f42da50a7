use Rattle.std.proofs.Common.{◌++◌, ◌∷◌, ◌∙◌, ap, decimal}
use Rattle.script_text.proofs.short.rule.Goals as goal

pub returns-in-PointersFull-clause-text : goal.returns-in-PointersFull-clause-text
returns-in-PointersFull-clause-text c =
    rw c.in-PointersFull.is (c.pair-in-PointersFull.ensures.text
    ∙ ap (λ name. c.args.line.now ++ (32 ∷ (name ++ (32 ∷ (decimal c.in-PointersFull.held ++ (32 ∷ decimal c.in-PointersFull.max)))))) c.as_slice-in-PointersFull.ensures)
