-- What a run costs: each request by the state in which it comes.
use Rattle.std.specs.Prelude.{◌≡◌, ℕ, ◌+◌, ◌≤◌, List, [], ◌∷◌, ◌++◌, length, All}
use Rattle.serving.specs.Service.{Service}
use Rattle.serving.specs.Work.{WorkCount}
use Rattle.serving.specs.Runs.{Run, texts}

-- the sum of the costs of a run's requests
abbrev pub costs : {Q : Type 0} → (k : Service Q) → (k.States → Q → ℕ)
    → (s : k.States) (qs : List Q) (xs : List (List ℕ)) (t : k.States) → Run k s qs xs t → ℕ
costs k cost s [] xs t run = 0
costs k cost s (q ∷ qs) [] t run = 0
costs k cost s (q ∷ qs) (a ∷ xs) t run = cost s q + costs k cost run.0 qs xs t run.2

-- the cost of the first of these, if there is one
abbrev pub first_cost : {Q : Type 0} → (k : Service Q) → (k.States → Q → ℕ) → k.States → List Q → ℕ
first_cost k cost s [] = 0
first_cost k cost s (q ∷ qs) = cost s q

-- The first of these requests were answered: as many as there are whole answers among the bytes `f` sent after
-- `before`. Where the work of each is bounded, no more was used than the costs of those, each in the state to which the
-- answers sent led, and that of the next one.
pub record IsPaidFor {Q : Type 0} (k : Service Q) (w : WorkCount Q k.States) (s : k.States) (before : List ℕ)
    (qs : List Q) (f : List ℕ) (start now : ℕ) : Type 0 where
  pub answered : List Q
  pub rest : List Q
  pub parts : qs ≡ answered ++ rest
  pub answers : List (List ℕ)
  pub state : k.States
  pub run : Run k s answered answers state
  pub front : List ℕ
  pub sent : f ≡ before ++ (texts answers ++ front)
  pub count : k.acked (texts answers ++ front) ≡ length answered
  pub paid : All w.bounded qs
      → now ≤ start + costs k w.cost s answered answers state run + first_cost k w.cost state rest
