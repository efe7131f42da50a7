-- The next source and the next target of the pairs that are held.
use Rattle.std.specs.Prelude.{ℕ, ◌<◌, ◌≤◌, Bool, List, Option, Some, None, IsTrue}
use Rattle.tsd_model.specs.Pairs.{holds}

-- the number has it, and is the least such number that is not below `start`
pub record IsLeast (has : ℕ → Bool) (start a : ℕ) : Type 0 where
  pub there : IsTrue (has a)
  pub from : start ≤ a
  pub least : (c : ℕ) → IsTrue (has c) → start ≤ c → a ≤ c

-- that number, or None exactly where there is none
abbrev pub IsNext : (ℕ → Bool) → ℕ → Option ℕ → Type 0
IsNext has start None = (a : ℕ) → IsTrue (has a) → a < start
IsNext has start (Some a) = IsLeast has start a

-- the least source of the pairs to b that is not below `start`, None exactly where there is none
abbrev pub IsNextSource : List (ℕ × ℕ) → ℕ → ℕ → Option ℕ → Type 0
IsNextSource es b start next = IsNext (λ a. holds es a b) start next

-- the least target of the pairs from a that is not below `start`, None exactly where there is none
abbrev pub IsNextTarget : List (ℕ × ℕ) → ℕ → ℕ → Option ℕ → Type 0
IsNextTarget es a start next = IsNext (λ b. holds es a b) start next
