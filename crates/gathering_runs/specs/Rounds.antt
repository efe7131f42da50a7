-- How promptly a run of groups answered, round by round of its input.
use Rattle.std.specs.Prelude.{◌≡◌, ◌⊎◌, ℕ, ◌+◌, ◌≤◌, List, [], ◌∷◌, ◌++◌, length, take}
use Rattle.tsd_words.specs.declared.status.Status.{Status}
use Rattle.tsd_words.specs.declared.status.Status.TheVariants as status
use Rattle.serving.specs.Input.{Spelling, all_requests}
use Rattle.serving.specs.Prompt.{IsCutShort, Mark}
use Rattle.serving.specs.Ran.{Taking}
use Rattle.serving.specs.Service.{Service}
use Rattle.serving.specs.Work.{WorkCount}
use Rattle.gathering_runs.specs.ByTurns.{all_of, ByTurns, IsFinished}

-- the bytes that came in a round, and the requests of its turns
pub record Round (Q : Type 0) : Type 0 where
  pub more : List ℕ
  pub turns : List (List Q)

-- Behind these bytes, by which these requests were answered, more came: but for the last 65,536 at most, they make no
-- more than one request whole.
pub record IsNear {Q : Type 0} (p : Spelling Q) (limit : ℕ) (came : List ℕ) (answered : List Q)
    (more : List ℕ) : Type 0 where
  pub front : List ℕ
  pub back : List ℕ
  pub parts : take limit (came ++ more) ≡ front ++ back
  pub one_more : length (p.requests front) ≤ length answered + 1
  pub one_room : length back ≤ 65536

-- These are all requests that are whole in the bytes that came, or all of an input that has come to its end.
abbrev pub AreAll : {Q : Type 0} → Spelling Q → ℕ → List ℕ → List Q → Type 0
AreAll p limit came qs = (qs ≡ p.requests (take limit came)) ⊎ (qs ≡ all_requests p came)

-- Round by round: bytes came, and before more came, all requests were answered by turns that are whole in what had
-- come.
abbrev pub ByRounds : {Q : Type 0} → (k : Service Q) → WorkCount Q k.States → (Q → Type 0) → (Mark → Type 0)
    → Spelling Q → ℕ → k.States → List ℕ → List Q → List (Round Q) → k.States → List ℕ → List Q → Mark → Mark → Type 0
ByRounds k w waits port p limit s came qs [] t came_then qs_then old new =
    (s ≡ t) × (came ≡ came_then) × (qs ≡ qs_then) × (new ≡ old)
ByRounds k w waits port p limit s came qs (r ∷ rounds) t came_then qs_then old new =
    (m : k.States) × (mid : Mark) × IsNear p limit came qs r.more × ByTurns k w waits port s r.turns m old mid
    × AreAll p limit (came ++ r.more) (qs ++ all_of r.turns)
    × ByRounds k w waits port p limit m (came ++ r.more) (qs ++ all_of r.turns) rounds t came_then qs_then mid new

-- How a run that ended so went on from round to round. The journal was emptied first. Behind the last round that was
-- answered, more bytes came, and some requests were answered by turns; where the input was cut short, none, and nothing
-- was written. Where all went well, all that was left to be done was done in the end. By the clock no moment here is
-- before the one that it follows.
pub record RanByRounds {Q : Type 0} (r : Status) (k : Service Q) (w : WorkCount Q k.States) (waits : Q → Type 0)
    (port : Mark → Type 0) (p : Spelling Q) (limit : ℕ) (s : k.States) (source : Taking) (old new : Mark) : Type 0 where
  pub begun : Mark
  pub of_port : port begun
  pub not_before : old.clock ≤ begun.clock
  pub nothing_sent : begun.sent ≡ old.sent
  pub no_more_left : w.debt begun.reads ≤ w.debt old.reads
  pub rounds : List (Round Q)
  pub state : k.States
  pub came : List ℕ
  pub answered : List Q
  pub rested : Mark
  pub each : ByRounds k w waits port p limit s [] [] rounds state came answered begun rested
  pub more : List ℕ
  pub came_in : source.came (came ++ more)
  pub near : IsNear p limit came answered more
  pub turns : List (List Q)
  pub last : k.States
  pub stopped : Mark
  pub behind : ByTurns k w waits port state turns last rested stopped
  pub not_after : stopped.clock ≤ new.clock
  pub as_it_was : IsCutShort r → new ≡ rested
  pub done : r ≡ status.Done → IsFinished w port stopped new
