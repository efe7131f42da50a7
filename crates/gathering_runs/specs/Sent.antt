-- What was sent of the answers to a run's requests.
use Rattle.std.specs.Prelude.{◌≡◌, ◌≢◌, ℕ, List, ◌++◌}
use Rattle.image_device.specs.View.{IsPart}
use Rattle.tsd_words.specs.declared.status.Status.{Status}
use Rattle.tsd_words.specs.declared.status.Status.TheVariants as status
use Rattle.serving.specs.Runs.{Run, Served, IsBroken, texts}
use Rattle.serving.specs.Service.{Service}

-- The first of these requests were answered, and all of their answers were sent after `before`, and nothing else.
pub record IsSentWhole {Q : Type 0} (k : Service Q) (s : k.States) (before : List ℕ) (qs : List Q)
    (now : List ℕ) : Type 0 where
  pub answered : List Q
  pub rest : List Q
  pub parts : qs ≡ answered ++ rest
  pub state : k.States
  pub served : Served k s before answered state now

-- The first of these requests were answered, and a front of their answers was sent after `before`: it may end inside
-- one.
pub record IsSentInPart {Q : Type 0} (k : Service Q) (s : k.States) (before : List ℕ) (qs : List Q)
    (now : List ℕ) : Type 0 where
  pub answered : List Q
  pub rest : List Q
  pub parts : qs ≡ answered ++ rest
  pub answers : List (List ℕ)
  pub state : k.States
  pub run : Run k s answered answers state
  pub sent : IsPart before (texts answers) now

-- What was sent of the answers to these requests where it stopped so: whole ones, unless a put failed.
pub record IsSentBy {Q : Type 0} (why : Status) (k : Service Q) (s : k.States) (before : List ℕ) (qs : List Q)
    (now : List ℕ) : Type 0 where
  pub part : IsSentInPart k s before qs now
  pub whole : why ≢ status.PutFault → IsSentWhole k s before qs now

-- What a run that ended so sent of the answers to its requests: all of them; where the device failed or there was no
-- memory, those to the first of the requests, each whole; where a put failed, a front of such.
abbrev pub SentInGroups : {Q : Type 0} → Status → (k : Service Q) → k.States → List ℕ → List Q → List ℕ → Type 0
SentInGroups status.PutFault k s before qs now = IsSentInPart k s before qs now
SentInGroups status.DeviceFault k s before qs now = IsBroken k s before qs now
SentInGroups status.NoMemory k s before qs now = IsBroken k s before qs now
SentInGroups r k s before qs now = (final : k.States) × Served k s before qs final now
