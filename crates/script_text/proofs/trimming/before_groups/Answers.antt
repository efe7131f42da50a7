use Rattle.std.proofs.Common.{◌≡◌, ◌==◌, ◌∙◌, ℕ, List, true, refl, sym, subst, arith}
use Rattle.std.specs.List.{list_all}
use Rattle.std.proofs.lemmas.Bool.{not-false}
use Rattle.std.proofs.lemmas.Bool.Decides.{Decides-eqb}
use Rattle.std.proofs.lemmas.Slice.Eq.{slice_eq-Decides}
use Rattle.script_text.proofs.TextsLaws.{zeros_less}
use Rattle.script_text.proofs.trimming.before_groups.Goals as goal

pub loop-front-preserved : goal.loop-front-preserved
loop-front-preserved c =
    let part = c.in-Some.ensures.cases in
    let zeros = (slice_eq-Decides Decides-eqb c.in-Some.group.now _ _ refl).0 (not-false _ (sym c.ne.ensures ∙ c.if-ne.false)) in
    record {
      shorter = omega (arith, part.2, c.loop-front.invariant.shorter);
      same = zeros_less c.loop-front.left.now c.in-Some.front.now c.in-Some.group.now _ part.0 part.1 (subst (λ (xs : List ℕ). list_all (λ x. x == 0) xs ≡ true) (sym zeros) refl) ∙ c.loop-front.invariant.same;
    }
