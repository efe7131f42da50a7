use Rattle.std.proofs.Common.{◌++◌, ◌∷◌, ℕ, List, flat_map, sym, ◌∙◌, ap}
use Rattle.image_copy.proofs.LineLaws.{path_is, root_is}
use Rattle.image_copy.proofs.lines.put_path.Goals.{then-len-eq0, else-len-eq0}
use Rattle.image_copy.proofs.lines.put_path.Goals as goal

pub returns-clause-text : goal.returns-clause-text
returns-clause-text c = elim c.if-len-eq0.branch [
  | then-len-eq0 w ↦
      c.put_names.ensures.text
      ∙ ap (λ (xs : List ℕ). xs ++ flat_map (λ n. 47 ∷ n) c.args.path.now) (w.into-is ∙ w.put.ensures ∙ ap (λ (xs : List ℕ). c.args.into.now ++ xs) w.as_slice.ensures)
      ∙ root_is c.args.path.now c.args.into.now (sym c.len.ensures.value ∙ w.if-len-eq0.true)
  | else-len-eq0 w ↦
      c.put_names.ensures.text
      ∙ ap (λ (xs : List ℕ). xs ++ flat_map (λ n. 47 ∷ n) c.args.path.now) w.into-is
      ∙ ap (λ (xs : List ℕ). c.args.into.now ++ xs) (path_is c.args.path.now (λ none. w.if-len-eq0.false (c.len.ensures.value ∙ none)))
]
