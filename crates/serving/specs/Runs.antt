-- Requests answered one after another, and what of the answers was sent.
use Rattle.std.specs.Prelude.{◌≡◌, ℕ, ◌<◌, ◌⊎◌, List, [], ◌∷◌, ◌++◌, length}
use Rattle.image_device.specs.Image.{Image}
use Rattle.serving.specs.Service.{Service}

-- from the first state, these requests are given these answers, and lead to the last state
abbrev pub Run : {Q : Type 0} → (k : Service Q) → k.States → List Q → List (List ℕ) → k.States → Type 0
Run k s [] [] t = s ≡ t
Run k s [] (a ∷ xs) t = ⊥
Run k s (q ∷ qs) [] t = ⊥
Run k s (q ∷ qs) (a ∷ xs) t = (m : k.States) × k.gives s q a m × Run k m qs xs t

-- answers as they are sent, one behind the other
abbrev pub texts : List (List ℕ) → List ℕ
texts [] = []
texts (a ∷ xs) = a ++ texts xs

-- All these requests were answered, and the answers sent after `before`, which makes `now`.
pub record Served {Q : Type 0} (k : Service Q) (s : k.States) (before : List ℕ) (qs : List Q) (state : k.States)
    (now : List ℕ) : Type 0 where
  pub answers : List (List ℕ)
  pub run : Run k s qs answers state
  pub sent : now ≡ before ++ texts answers

-- The first of these requests were answered, and the answers sent whole.
pub record IsBroken {Q : Type 0} (k : Service Q) (s : k.States) (before : List ℕ) (qs : List Q)
    (now : List ℕ) : Type 0 where
  pub answered : List Q
  pub rest : List Q
  pub parts : qs ≡ answered ++ rest
  pub answers : List (List ℕ)
  pub state : k.States
  pub run : Run k s answered answers state
  pub sent : now ≡ before ++ texts answers
  pub count : k.acked (texts answers) ≡ length answered

-- The first of these requests were answered, and the answers sent whole; of an answer to the next one a proper front
-- was sent, which may be empty.
pub record IsCutOff {Q : Type 0} (k : Service Q) (s : k.States) (before : List ℕ) (qs : List Q)
    (now : List ℕ) : Type 0 where
  pub answered : List Q
  pub request : Q
  pub rest : List Q
  pub parts : qs ≡ answered ++ request ∷ rest
  pub answers : List (List ℕ)
  pub state : k.States
  pub run : Run k s answered answers state
  pub answer : List ℕ
  pub next : k.States
  pub given : k.gives state request answer next
  pub front : List ℕ
  pub back : List ℕ
  pub whole : answer ≡ front ++ back
  pub some : 0 < length back
  pub sent : now ≡ before ++ (texts answers ++ front)
  pub count : k.acked (texts answers ++ front) ≡ length answered

-- A crash left this image, with these bytes sent. With a the number of whole answers among those after `before`, the
-- image stands for the state after a requests, or where there is one more, for that or the one after it.
abbrev pub IsAcknowledged : {Q : Type 0} → (k : Service Q) → k.States → List ℕ → List Q → Image → List ℕ → Type 0
IsAcknowledged k s before qs x f =
    ((b : IsBroken k s before qs f) × k.stands b.state x)
    ⊎ ((c : IsCutOff k s before qs f) × (k.stands c.state x ⊎ k.stands c.next x))
