-- The states of a run, each of which some image has held.
use Rattle.std.specs.Prelude.{◌≡◌, ◌⊎◌, ℕ, ◌≤◌, List, [], ◌∷◌, ◌++◌}
use Rattle.image_device.specs.Image.{Image}
use Rattle.serving.specs.Service.{Service, IsAnswering, IsNotYetAfter}
use Rattle.serving.specs.Runs.{Run, texts, IsBroken, IsCutOff}

-- A crash may have left an image in which this state rests, with these bytes sent.
pub record IsSeen {Q : Type 0} (k : Service Q) (left : Image → List ℕ → Type 0) (s : k.States)
    (f : List ℕ) : Type 0 where
  pub image : Image
  pub was_left : left image f
  pub rests : k.rests s image

-- Each state of a run was seen with exactly the answers before it sent.
abbrev pub AreSeen : {Q : Type 0} → (k : Service Q) → (Image → List ℕ → Type 0) → List ℕ
    → (s : k.States) (qs : List Q) (xs : List (List ℕ)) (t : k.States) → Run k s qs xs t → Type 0
AreSeen k left before s [] xs t run = IsSeen k left s before
AreSeen k left before s (q ∷ qs) [] t run = IsSeen k left s before
AreSeen k left before s (q ∷ qs) (a ∷ xs) t run =
    IsSeen k left s before × AreSeen k left (before ++ a) run.0 qs xs t run.2

-- nothing, or a front of an answer that the state gives to the first of these requests: it may be the whole answer
abbrev pub IsOfNext : {Q : Type 0} → (k : Service Q) → k.States → List Q → List ℕ → Type 0
IsOfNext {Q = Q} k s qs front = (front ≡ []) ⊎ ((q : Q) × (more : List Q) × (qs ≡ q ∷ more)
    × IsAnswering k s q [] front)

-- The first of these requests were answered, and each state on the way was seen. Behind their answers a front of one
-- more may be sent, or all of it: of an answer that the last of these states gives.
pub record IsSeenRun {Q : Type 0} (k : Service Q) (left : Image → List ℕ → Type 0) (s : k.States) (before : List ℕ)
    (qs : List Q) (now : List ℕ) : Type 0 where
  pub answered : List Q
  pub rest : List Q
  pub parts : qs ≡ answered ++ rest
  pub answers : List (List ℕ)
  pub state : k.States
  pub run : Run k s answered answers state
  pub seen : AreSeen k left before s answered answers state run
  pub front : List ℕ
  pub sent : now ≡ before ++ (texts answers ++ front)
  pub one_more : k.acked front ≤ 1
  pub of_next : IsOfNext k state rest front

-- A crash left this image, with these bytes sent, as IsAcknowledged says. Where an answer was under way, the state in
-- which its request came is one that was seen, with exactly the answers before it sent; and the image stands for that
-- state, for the one that this very answer leads to from there, or for something between.
abbrev pub IsLeftInRun : {Q : Type 0} → (k : Service Q) → (Image → List ℕ → Type 0) → k.States → List ℕ → List Q
    → Image → List ℕ → Type 0
IsLeftInRun k left s before qs x f =
    ((b : IsBroken k s before qs f) × k.stands b.state x)
    ⊎ ((c : IsCutOff k s before qs f) × IsSeen k left c.state (before ++ texts c.answers)
    × (IsNotYetAfter k c.state c.request x ⊎ k.stands c.next x))
