-- The first rule that applies.
use Rattle.std.proofs.Common.{◌≡◌, ℕ, Bool, true, false, cond, not, ◌||◌, List, [], ◌∷◌, ◌++◌, refl, ◌∙◌}
use Rattle.std.proofs.Common.{Option, Some, None}
use Rattle.std.specs.Prelude.{filter}
use Rattle.std.specs.List.{list_any}
use Rattle.tsd_model.specs.Verdict.{Check, first_rule, is_empty}
use Rattle.tsd_model.specs.declared.replies.Rule.{Rule}

abbrev NoRule : List Check → Type 0
NoRule cs = ◌≡◌ {A = Option Rule} (first_rule cs) None

-- where no rule of the first list applies, the second decides
pub first_rule_none : (cs ds : List Check) → ◌≡◌ {A = Option Rule} (first_rule cs) None → first_rule (cs ++ ds) ≡ first_rule ds
first_rule_none [] ds h = refl
first_rule_none (c ∷ cs) ds h =
    elim c.applies as (λ t. ◌≡◌ {A = Option Rule} (cond t (Some c.answer) (first_rule cs)) None → cond t (Some c.answer) (first_rule (cs ++ ds)) ≡ first_rule ds) [
      | true ↦ λ g. absurd (cc)
      | false ↦ λ g. first_rule_none cs ds g
    ] h

-- where one applies, the second list doesn't count
pub first_rule_some : (cs ds : List Check) (r : Rule) → first_rule cs ≡ Some r → first_rule (cs ++ ds) ≡ Some r
first_rule_some [] ds r h = absurd (cc)
first_rule_some (c ∷ cs) ds r h =
    elim c.applies as (λ t. cond t (Some c.answer) (first_rule cs) ≡ Some r → cond t (Some c.answer) (first_rule (cs ++ ds)) ≡ Some r) [
      | true ↦ λ g. g
      | false ↦ λ g. first_rule_some cs ds r g
    ] h

-- nothing passes exactly where none does
pub list_any_filter : (p : ℕ → Bool) (xs : List ℕ) → list_any p xs ≡ not (is_empty (filter p xs))
list_any_filter p [] = refl
list_any_filter p (x ∷ xs) =
    elim (p x) as (λ t. (t || list_any p xs) ≡ not (is_empty (cond t (x ∷ filter p xs) (filter p xs)))) [
      | true ↦ refl
      | false ↦ list_any_filter p xs
    ]

-- five lists of rules in a row, as they are tried
pub refused_by_first : (ss bs ls ps rs : List Check) (r : Rule) → first_rule ss ≡ Some r → first_rule ((ss ++ (bs ++ (ls ++ ps))) ++ rs) ≡ Some r
refused_by_first ss bs ls ps rs r h = first_rule_some (ss ++ (bs ++ (ls ++ ps))) rs r (first_rule_some ss (bs ++ (ls ++ ps)) r h)

pub refused_by_second : (ss bs ls ps rs : List Check) (r : Rule) → NoRule ss → first_rule bs ≡ Some r → first_rule ((ss ++ (bs ++ (ls ++ ps))) ++ rs) ≡ Some r
refused_by_second ss bs ls ps rs r s h = first_rule_some (ss ++ (bs ++ (ls ++ ps))) rs r (first_rule_none ss (bs ++ (ls ++ ps)) s ∙ first_rule_some bs (ls ++ ps) r h)

pub refused_by_third : (ss bs ls ps rs : List Check) (r : Rule) → NoRule ss → NoRule bs → first_rule ls ≡ Some r → first_rule ((ss ++ (bs ++ (ls ++ ps))) ++ rs) ≡ Some r
refused_by_third ss bs ls ps rs r s b h = first_rule_some (ss ++ (bs ++ (ls ++ ps))) rs r (first_rule_none ss (bs ++ (ls ++ ps)) s ∙ (first_rule_none bs (ls ++ ps) b ∙ first_rule_some ls ps r h))

pub refused_by_fourth : (ss bs ls ps rs : List Check) (r : Rule) → NoRule ss → NoRule bs → NoRule ls → first_rule ps ≡ Some r → first_rule ((ss ++ (bs ++ (ls ++ ps))) ++ rs) ≡ Some r
refused_by_fourth ss bs ls ps rs r s b l h = first_rule_some (ss ++ (bs ++ (ls ++ ps))) rs r (first_rule_none ss (bs ++ (ls ++ ps)) s ∙ (first_rule_none bs (ls ++ ps) b ∙ (first_rule_none ls ps l ∙ h)))

pub left_to_fifth : (ss bs ls ps rs : List Check) → NoRule ss → NoRule bs → NoRule ls → NoRule ps → first_rule ((ss ++ (bs ++ (ls ++ ps))) ++ rs) ≡ first_rule rs
left_to_fifth ss bs ls ps rs s b l p = first_rule_none (ss ++ (bs ++ (ls ++ ps))) rs (first_rule_none ss (bs ++ (ls ++ ps)) s ∙ (first_rule_none bs (ls ++ ps) b ∙ (first_rule_none ls ps l ∙ p)))
