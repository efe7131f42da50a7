-- One prompt answer more.
use Rattle.std.proofs.Common.{◌≡◌, ℕ, List, [], ◌∷◌, ◌++◌, refl, sym, ◌∙◌, ap, subst}
use Rattle.serving.specs.Service.{Service}
use Rattle.serving.specs.Work.{WorkCount}
use Rattle.serving.specs.Runs.{Run}
use Rattle.serving.specs.Prompt.{ArePrompt, IsPrompt, Mark}
use Rattle.serving.proofs.Runs.{run_next}

module _ {Q : Type 0} (k : Service Q) (w : WorkCount Q k.States) (port : Mark → Type 0) where
  pub prompt_next : (s m t : k.States) (qs : List Q) (xs : List (List ℕ)) (q : Q) (a : List ℕ) (run : Run k s qs xs m) (given : k.gives m q a t) (old mid new : Mark)
      → ArePrompt k w port s qs xs m run old mid → port new → new.sent ≡ mid.sent ++ a → IsPrompt k w port m q mid new → ArePrompt k w port s (qs ++ q ∷ []) (xs ++ a ∷ []) t (run_next k s m t qs xs q a run given) old new
  unfolding run_next
  prompt_next s m t [] [] q a run given old mid new were here sent prompt = (
    new,
    here,
    sent ∙ ap (λ (p : Mark). p.sent ++ a) were,
    subst (λ u. IsPrompt k w port u q old new) (sym run) (subst (λ p. IsPrompt k w port m q p new) were prompt),
    refl,
  )
  prompt_next s m t [] (o ∷ xs) q a run given old mid new were here sent prompt = absurd run
  prompt_next s m t (p ∷ qs) [] q a run given old mid new were here sent prompt = absurd run
  prompt_next s m t (p ∷ qs) (o ∷ xs) q a run given old mid new were here sent prompt =
      (were.0, were.1, were.2, were.3, prompt_next run.0 m t qs xs q a run.2 given were.0 mid new were.4 here sent prompt)
