-- What is left to be done: how much of it each image may have, by the whole answers sent.
use Rattle.std.specs.Prelude.{◌≡◌, ℕ, ◌+◌, ◌-◌, ◌≤◌, List, [], ◌∷◌, ◌++◌, length}
use Rattle.image_device.specs.Image.{Image}
use Rattle.serving.specs.Service.{Service}
use Rattle.serving.specs.Work.{WorkCount}
use Rattle.serving.specs.Runs.{Run, texts}

-- how much is left after a run, and how much was left just after its last answer
pub record Debt : Type 0 where
  pub left : ℕ
  pub peak : ℕ

-- one request more makes so much, and then four are done
abbrev pub more_debt : ℕ → Debt → Debt
more_debt made d = record { left = d.left + made - 4; peak = d.left + made }

abbrev pub debt_after : {Q : Type 0} → (k : Service Q) → (k.States → Q → ℕ)
    → (s : k.States) (qs : List Q) (xs : List (List ℕ)) (t : k.States) → Run k s qs xs t → Debt → Debt
debt_after k made s [] xs t run d = d
debt_after k made s (q ∷ qs) [] t run d = d
debt_after k made s (q ∷ qs) (a ∷ xs) t run d = debt_after k made run.0 qs xs t run.2 (more_debt (made s q) d)

-- a run begins with this
abbrev pub debt_of : ℕ → Debt
debt_of start = record { left = start; peak = start }

-- what the first of these makes, if there is one
abbrev pub first_debt : {Q : Type 0} → (k : Service Q) → (k.States → Q → ℕ) → k.States → List Q → ℕ
first_debt k made s [] = 0
first_debt k made s (q ∷ qs) = made s q

-- A crash left an image in which so much is left to be done, with these bytes sent. With a the number of whole answers
-- among those after `before`, that is at most what was left just after the last of them, besides what request a+1
-- makes.
pub record IsOwing {Q : Type 0} (k : Service Q) (made : k.States → Q → ℕ) (s : k.States) (before : List ℕ) (start : ℕ)
    (qs : List Q) (debt : ℕ) (f : List ℕ) : Type 0 where
  pub answered : List Q
  pub rest : List Q
  pub parts : qs ≡ answered ++ rest
  pub answers : List (List ℕ)
  pub state : k.States
  pub run : Run k s answered answers state
  pub front : List ℕ
  pub sent : f ≡ before ++ (texts answers ++ front)
  pub count : k.acked (texts answers ++ front) ≡ length answered
  pub few : debt ≤ (debt_after k made s answered answers state run (debt_of start)).peak + first_debt k made state rest

-- the same of an image
abbrev pub HasDebt : {Q : Type 0} → (k : Service Q) → WorkCount Q k.States → k.States → List ℕ → ℕ → List Q → Image
    → List ℕ → Type 0
HasDebt k w s before start qs x f = IsOwing k w.made s before start qs (w.debt x) f
