-- The homes of patches.
use Rattle.std.proofs.Common.{◌≡◌, suc, List, [], ◌∷◌, ◌++◌, length, refl, ap}
use Rattle.intent_journal.proofs.Common.{Patch, homes_of}

pub homes_append : (ps qs : List Patch) → homes_of (ps ++ qs) ≡ homes_of ps ++ homes_of qs
homes_append [] qs = refl
homes_append (p ∷ ps) qs = ap (λ l. p.sector ∷ l) (homes_append ps qs)

pub length_homes : (ps : List Patch) → length (homes_of ps) ≡ length ps
length_homes [] = refl
length_homes (p ∷ ps) = ap suc (length_homes ps)
