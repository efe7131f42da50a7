-- How promptly a run of groups answered, how often it wrote, and what it left to be done, turn by turn.
use Rattle.std.specs.Prelude.{◌≡◌, ◌⊎◌, ◌+◌, ◌≤◌, ◌<◌, ℕ, zero, suc, List, [], ◌∷◌, ◌++◌, All, Result, OnOk}
use Rattle.serving.specs.Debts.{debt_after, debt_of}
use Rattle.serving.specs.Prompt.{IsBetween, Mark}
use Rattle.serving.specs.Runs.{Served}
use Rattle.serving.specs.Service.{Service}
use Rattle.serving.specs.Work.{WorkCount}

-- Requests were one group: from its first call to the sending of its last answer, which isn't before that, no more was
-- written than what empties a full journal, a batch of 113 homes, its descriptor and its gate.
abbrev pub IsGroup : Mark → Mark → Type 0
IsGroup old new = (old.clock ≤ new.clock) × (new.writes ≤ old.writes + 236)

-- At a moment between these two the answer to a request was sent whole, and by then so often was written, where its
-- work is bounded.
pub record IsReplied {Q S : Type 0} (w : WorkCount Q S) (port : Mark → Type 0) (s : S) (q : Q)
    (old new : Mark) : Type 0 where
  pub replied : Mark
  pub of_port : port replied
  pub between : IsBetween replied old new
  pub sent : replied.sent ≡ new.sent
  pub before : w.bounded q → replied.writes ≤ old.writes + w.before_answer s (w.debt old.reads) q

-- One request was carried out on the device itself: first the journal was emptied, by a moment that isn't before the
-- start. It is one that may have to wait for what is left to be done.
pub record IsDirect {Q : Type 0} (k : Service Q) (w : WorkCount Q k.States) (waits : Q → Type 0) (port : Mark → Type 0)
    (s : k.States) (qs : List Q) (old new : Mark) : Type 0 where
  pub request : Q
  pub one : qs ≡ request ∷ []
  pub may_wait : waits request
  pub emptied : Mark
  pub of_port : port emptied
  pub not_before : old.clock ≤ emptied.clock
  pub nothing_sent : emptied.sent ≡ old.sent
  pub writes : emptied.writes ≤ old.writes + 121
  pub replied : IsReplied w port s request emptied new

-- Requests were answered, from the one moment to the other, and all their answers sent: as one group, or one request on
-- the device itself.
pub record IsAnswered {Q : Type 0} (k : Service Q) (w : WorkCount Q k.States) (waits : Q → Type 0)
    (port : Mark → Type 0) (s : k.States) (qs : List Q) (t : k.States) (old new : Mark) : Type 0 where
  pub of_port : port new
  pub served : Served k s old.sent qs t new.sent
  pub work : IsGroup old new ⊎ IsDirect k w waits port s qs old new

-- A group that only does what is left to be done: nothing is sent, and less is left then.
pub record IsReclaiming {Q S : Type 0} (w : WorkCount Q S) (port : Mark → Type 0) (old new : Mark) : Type 0 where
  pub of_port : port new
  pub nothing_sent : new.sent ≡ old.sent
  pub writes : IsGroup old new
  pub lowered : w.debt new.reads < w.debt old.reads

-- so many such groups, one behind the other
abbrev pub Reclaims : {Q S : Type 0} → WorkCount Q S → (Mark → Type 0) → ℕ → Mark → Mark → Type 0
Reclaims w port zero old new = new ≡ old
Reclaims w port (suc n) old new = (mid : Mark) × IsReclaiming w port old mid × Reclaims w port n mid new

-- How much is left to be done behind these answers, where each of the requests is served alone and four steps are made
-- behind it, and where so much was left before.
abbrev pub left_by : {Q : Type 0} → (k : Service Q) → WorkCount Q k.States → (s t : k.States)
    → (before now : List ℕ) (qs : List Q) → Served k s before qs t now → ℕ → ℕ
left_by k w s t before now qs served owed =
    (debt_after k w.made s qs served.answers t served.run (debt_of owed)).left

-- These requests were answered, and no more is left to be done then than where each is served alone, but for so many
-- steps that lack.
pub record LeavesBut {Q : Type 0} (k : Service Q) (w : WorkCount Q k.States) (s : k.States) (before : List ℕ)
    (qs : List Q) (t : k.States) (now : List ℕ) (owed left lacking : ℕ) : Type 0 where
  pub served : Served k s before qs t now
  pub few : All w.bounded qs → left ≤ left_by k w s t before now qs served owed + lacking

-- A turn, from the one moment to the other: these requests were answered, one at least. Only where the first of them
-- may have to wait for what is left to be done, groups before it do some of that; behind the answers at most four
-- groups do so. Then no more is left to be done than where each of the requests is served alone, with four steps behind
-- it.
pub record IsTurn {Q : Type 0} (k : Service Q) (w : WorkCount Q k.States) (waits : Q → Type 0) (port : Mark → Type 0)
    (s : k.States) (qs : List Q) (t : k.States) (old new : Mark) : Type 0 where
  pub first : Q
  pub more : List Q
  pub some : qs ≡ first ∷ more
  pub before : ℕ
  pub begun : Mark
  pub settled : Reclaims w port before old begun
  pub may_wait : 0 < before → waits first
  pub answered : Mark
  pub answers : IsAnswered k w waits port s qs t begun answered
  pub behind : ℕ
  pub few_behind : behind ≤ 4
  pub caught_up : Reclaims w port behind answered new
  pub left : All w.bounded qs
      → w.debt new.reads ≤ left_by k w s t begun.sent answered.sent qs answers.served (w.debt old.reads)

-- turns, one behind the other, by the requests of each
abbrev pub ByTurns : {Q : Type 0} → (k : Service Q) → WorkCount Q k.States → (Q → Type 0) → (Mark → Type 0) → k.States
    → List (List Q) → k.States → Mark → Mark → Type 0
ByTurns k w waits port s [] t old new = (s ≡ t) × (new ≡ old)
ByTurns k w waits port s (qs ∷ turns) t old new =
    (m : k.States) × (mid : Mark) × IsTurn k w waits port s qs m old mid × ByTurns k w waits port m turns t mid new

-- the requests of all turns
abbrev pub all_of : {Q : Type 0} → List (List Q) → List Q
all_of [] = []
all_of (qs ∷ turns) = qs ++ all_of turns

-- The first of these requests were answered by turns. Where that went well all were, and nothing was done behind the
-- last turn.
pub record AnswersByTurns {Q T E : Type 0} (r : Result T E) (k : Service Q) (w : WorkCount Q k.States)
    (waits : Q → Type 0) (port : Mark → Type 0) (s t : k.States) (qs : List Q) (old new : Mark) : Type 0 where
  pub turns : List (List Q)
  pub rest : List Q
  pub parts : qs ≡ all_of turns ++ rest
  pub state : k.States
  pub rested : Mark
  pub each : ByTurns k w waits port s turns state old rested
  pub not_after : rested.clock ≤ new.clock
  pub all : OnOk r ((rest ≡ []) × (state ≡ t) × (new ≡ rested))

-- The end of a run: all that is left to be done is done, in groups of its own, and then the journal is emptied.
pub record IsFinished {Q S : Type 0} (w : WorkCount Q S) (port : Mark → Type 0) (old new : Mark) : Type 0 where
  pub groups : ℕ
  pub settled : Mark
  pub reclaimed : Reclaims w port groups old settled
  pub nothing_left : w.debt settled.reads ≡ 0
  pub not_after : settled.clock ≤ new.clock
  pub nothing_sent : new.sent ≡ settled.sent
  pub writes : new.writes ≤ settled.writes + 121
  pub still_nothing : w.debt new.reads ≡ 0
