use Rattle.std.proofs.Common.{◌≡◌, [], ◌++◌, take, cond, sym, ◌∙◌, ap, refl}
use Rattle.script_text.specs.Grammar.{held_max}
use Rattle.script_text.specs.Lines.{rest}
use Rattle.script_text.proofs.CutLaws.{cuts_line, cuts_none}
use Rattle.script_text.proofs.cutter.LineCutter.feed.Goals as goal
use Rattle.script_text.proofs.cutter.LineCutter.feed.Goals.{then-self, else-self}

pub returns-in-Some-clause-cuts : goal.returns-in-Some-clause-cuts
returns-in-Some-clause-cuts c = λ text fed.
    let start : c.if-self.self-inside.line.items ≡ rest c.args.self.now = rw (← c.self.view_is) (elim c.if-self.branch [
      | then-self w ↦ ap (λ s. s.line.items) w.self-inside-is ∙ w.clear.ensures ∙ sym (ap (λ t. cond t [] c.self.inside.line.items) w.if-self.true)
      | else-self w ↦ ap (λ s. s.line.items) w.self-inside-is ∙ sym (ap (λ t. cond t [] c.self.inside.line.items) w.if-self.false)
    ]) in
    cuts_line text c.args.piece.now c.in-Some.i c.args.self.now _ (sym c.in-Some.ensures) refl (c.push_all.ensures ∙ ap (λ xs. take held_max (xs ++ take c.in-Some.i c.args.piece.now)) start) fed

pub returns-in-Some-clause-fed : goal.returns-in-Some-clause-fed
returns-in-Some-clause-fed c = λ text fed. ap (take held_max) (sym (returns-in-Some-clause-cuts c text fed).2)

pub returns-in-None-clause-cuts : goal.returns-in-None-clause-cuts
returns-in-None-clause-cuts c = λ text fed.
    let start : c.if-self.self-inside.line.items ≡ rest c.args.self.now = rw (← c.self.view_is) (elim c.if-self.branch [
      | then-self w ↦ ap (λ s. s.line.items) w.self-inside-is ∙ w.clear.ensures ∙ sym (ap (λ t. cond t [] c.self.inside.line.items) w.if-self.true)
      | else-self w ↦ ap (λ s. s.line.items) w.self-inside-is ∙ sym (ap (λ t. cond t [] c.self.inside.line.items) w.if-self.false)
    ]) in
    cuts_none text c.args.piece.now c.args.self.now _ (sym c.in-None.ensures) refl (c.push_all-in-None.ensures ∙ ap (λ xs. take held_max (xs ++ c.args.piece.now)) start) fed

pub returns-in-None-clause-fed : goal.returns-in-None-clause-fed
returns-in-None-clause-fed c = λ text fed. (returns-in-None-clause-cuts c text fed).1
