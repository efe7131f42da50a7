use Rattle.std.proofs.Common.{◌++◌, ◌∷◌, refl, ◌∙◌, ap, arith, decimal}
use Rattle.std.specs.Prelude.{codes}
use Rattle.script_text.specs.Pieces.{line_feeds}
use Rattle.fs_trees.specs.Answer.{refused}
use Rattle.fs_trees.specs.declared.refusal.FsRefusal.{FsRefusal}
use Rattle.shell_text.specs.Texts.{answer_text}
use Rattle.shell_text.proofs.RefusalLaws.{numbered_none}
use Rattle.shell_text.proofs.answers.put_refusal.Goals as goal

pub returns-in-PointersFull-clause-text : goal.returns-in-PointersFull-clause-text
returns-in-PointersFull-clause-text c =
    rw c.in-PointersFull.is (c.pair-in-PointersFull.ensures.text
    ∙ ap (λ name. c.args.into.now ++ (32 ∷ (name ++ (32 ∷ (decimal c.in-PointersFull.held ++ (32 ∷ decimal c.in-PointersFull.max)))))) c.as_slice-in-PointersFull.ensures)

pub returns-in-Full-clause-one_line : goal.returns-in-Full-clause-one_line
returns-in-Full-clause-one_line c = ap (λ (e : FsRefusal). line_feeds (answer_text (refused e))) c.in-Full.is ∙ numbered_none (codes "no") (codes "full") _ _ refl refl (omega arith) (omega arith)

pub returns-in-PointersFull-clause-one_line : goal.returns-in-PointersFull-clause-one_line
returns-in-PointersFull-clause-one_line c = ap (λ (e : FsRefusal). line_feeds (answer_text (refused e))) c.in-PointersFull.is ∙ numbered_none (codes "no") (codes "pointers-full") _ _ refl refl (omega arith) (omega arith)
