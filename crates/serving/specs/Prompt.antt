-- How promptly requests are answered: how often is written before an answer is sent, and behind it.
use Rattle.std.specs.Prelude.{◌≡◌, ◌≢◌, ℕ, ◌+◌, ◌≤◌, List, [], ◌∷◌, ◌++◌, length, ⊤}
use Rattle.image_device.specs.Image.{Image}
use Rattle.image_device.specs.Runs.{LeavesOnly}
use Rattle.image_device.specs.View.{View}
use Rattle.tsd_words.specs.declared.status.Status.{Status}
use Rattle.tsd_words.specs.declared.status.Status.TheVariants as status
use Rattle.serving.specs.Input.{Spelling}
use Rattle.serving.specs.Ran.{AskedBy, Taking}
use Rattle.serving.specs.Service.{Service}
use Rattle.serving.specs.Work.{WorkCount}
use Rattle.serving.specs.Runs.{Run}

-- what is seen of a port between two calls, and when
pub record Mark : Type 0 where
  pub reads : Image
  pub sent : List ℕ
  pub writes : ℕ
  pub clock : ℕ

abbrev pub mark : View → Mark
mark v = record { reads = v.reads; sent = v.sent; writes = v.writes; clock = v.clock }

-- this moment isn't before the one nor after the other
abbrev pub IsBetween : Mark → Mark → Mark → Type 0
IsBetween m old new = (old.clock ≤ m.clock) × (m.clock ≤ new.clock)

-- there is a port of which this is seen
abbrev pub IsOfPort : {P : Type 0} → (P → View) → Mark → Type 0
IsOfPort {P = P} view m = (p : P) × (mark (view p) ≡ m)

-- A request was answered from the one moment to the other. At a moment between them, by the clock too, its answer was
-- sent whole, and by then so often was written, where its work is bounded; behind it no more was written than is behind
-- an answer.
pub record IsPrompt {Q : Type 0} (k : Service Q) (w : WorkCount Q k.States) (port : Mark
    → Type 0) (s : k.States) (q : Q) (old new : Mark) : Type 0 where
  pub replied : Mark
  pub of_port : port replied
  pub between : IsBetween replied old new
  pub sent : replied.sent ≡ new.sent
  pub before : w.bounded q → replied.writes ≤ old.writes + w.before_answer s (w.debt old.reads) q
  pub behind : new.writes ≤ replied.writes + w.behind_answer

-- Each request of a run was answered so, one after another, from the one moment to the other.
abbrev pub ArePrompt : {Q : Type 0} → (k : Service Q) → WorkCount Q k.States → (Mark → Type 0)
    → (s : k.States) (qs : List Q) (xs : List (List ℕ)) (t : k.States) → Run k s qs xs t → Mark → Mark → Type 0
ArePrompt k w port s [] xs t run old new = new ≡ old
ArePrompt k w port s (q ∷ qs) [] t run old new = ⊥
ArePrompt k w port s (q ∷ qs) (a ∷ xs) t run old new =
    (next : Mark) × port next × (next.sent ≡ old.sent ++ a) × IsPrompt k w port s q old next
    × ArePrompt k w port run.0 qs xs t run.2 next new

-- the input was cut short, or is longer than what is served
abbrev pub IsCutShort : Status → Type 0
IsCutShort status.SourceFault = ⊤
IsCutShort status.TooLong = ⊤
IsCutShort status.Truncated = ⊤
IsCutShort r = ⊥

-- What a crash leaves where nothing is done behind an answer: no more was sent than is in the end, and once all of that
-- was, the disk is as it reads in the end.
pub record IsStill (new : View) (x : Image) (f : List ℕ) : Type 0 where
  pub few : length f ≤ length new.sent
  pub whole : f ≡ new.sent → x ≡ new.reads

-- Nothing is done between two moments behind what was sent last.
abbrev pub EndsBySending : View → View → Type 0
EndsBySending old new = LeavesOnly old new (IsStill new)

-- Where the input was cut short behind an answer that was sent, nothing is done behind the last one.
abbrev pub StopsBySending : Status → View → View → Type 0
StopsBySending r old new = IsCutShort r → new.sent ≢ old.sent → EndsBySending old new

-- How promptly a run answered that ended so. Bytes came in, and the first of the requests that they hold were answered,
-- each promptly: all of them, unless the device or the sending failed. Behind their answers a front of one more may be
-- sent, and all of that only where the device failed behind it. Where the input was cut short, nothing is done behind
-- the last answer and what is behind an answer.
pub record Promptly {Q : Type 0} (r : Status) (k : Service Q) (w : WorkCount Q k.States) (port : Mark → Type 0)
    (p : Spelling Q) (limit : ℕ) (s : k.States) (source : Taking) (old new : Mark) : Type 0 where
  pub bytes : List ℕ
  pub came_in : source.came bytes
  pub asked : List Q
  pub these : AskedBy r p limit bytes source.at_end asked
  pub answered : List Q
  pub rest : List Q
  pub parts : asked ≡ answered ++ rest
  pub none_left : r ≢ status.DeviceFault → r ≢ status.PutFault → rest ≡ []
  pub answers : List (List ℕ)
  pub state : k.States
  pub run : Run k s answered answers state
  pub rested : Mark
  pub each : ArePrompt k w port s answered answers state run old rested
  pub not_after : rested.clock ≤ new.clock
  pub front : List ℕ
  pub sent : new.sent ≡ rested.sent ++ front
  pub one_more : k.acked front ≤ 1
  pub all : r ≢ status.DeviceFault → k.acked front ≡ 0
  pub as_it_was : IsCutShort r → new ≡ rested
