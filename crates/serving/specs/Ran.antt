-- What one run took and sent.
use Rattle.std.specs.Prelude.{◌≡◌, ◌≢◌, ℕ, ◌+◌, ◌≤◌, ◌⊎◌, List, [], ◌++◌, length, take, All}
use Rattle.image_device.specs.View.{View}
use Rattle.image_device.specs.Runs.{LeavesOnly}
use Rattle.tsd_words.specs.declared.status.Status.{Status}
use Rattle.tsd_words.specs.declared.status.Status.TheVariants as status
use Rattle.serving.specs.declared.protocol.Ending.TheVariants.{CutOff}
use Rattle.serving.specs.Costs.{IsPaidFor}
use Rattle.serving.specs.Debts.{HasDebt}
use Rattle.serving.specs.Input.{Spelling, all_requests}
use Rattle.serving.specs.Runs.{Served, IsBroken, IsCutOff}
use Rattle.serving.specs.Seen.{IsLeftInRun, IsSeenRun}
use Rattle.serving.specs.Service.{Service}
use Rattle.serving.specs.Work.{WorkCount, used}

-- These bytes came in between two moments, where the source tells.
pub record Came (tells : Type 0) (taken_before taken_now left_before left_now bytes : List ℕ) : Type 0 where
  pub taken : tells → taken_now ≡ taken_before ++ bytes
  pub left : tells → left_before ≡ bytes ++ left_now

-- a source has come to its end
pub record IsAtEnd (tells ended : Type 0) (left : List ℕ) : Type 0 where
  pub found : ended
  pub nothing : tells → left ≡ []

-- What was taken of a source between two moments: which bytes came in, that it has come to its end, and that it is as
-- it was.
pub record Taking : Type 1 where
  pub came : List ℕ → Type 0
  pub at_end : Type 0
  pub untouched : Type 0

-- the same of a source that tells so much of itself
abbrev pub taking : {S : Type 0} → Type 0 → (S → List ℕ) → (S → List ℕ) → (S → Type 0) → S → S → Taking
taking tells taken left ended old new = record {
  came = Came tells (taken old) (taken new) (left old) (left new);
  at_end = IsAtEnd tells (ended new) (left new);
  untouched = new ≡ old;
}

-- The end of a source was found once at most between two moments: nothing more was taken behind it.
abbrev pub EndsOnce : ℕ → ℕ → Type 0
EndsOnce before now = now ≤ before + 1

-- What a port was at two moments, whether it tells that, and that it is as it was.
pub record Moments : Type 1 where
  pub tells : Type 0
  pub untouched : Type 0
  pub old : View
  pub new : View

abbrev pub moments : {P : Type 0} → Type 0 → (P → View) → P → P → Moments
moments tells view old new = record { tells = tells; untouched = new ≡ old; old = view old; new = view new }

-- Which requests a run that ended so was asked, by the bytes x that came in. At most `limit` bytes are served; after a
-- take that goes past them no more is taken, and it goes one byte past them. What the end of the input makes whole
-- counts only where the input has come to its end.
abbrev pub AskedBy : {Q : Type 0} → Status → Spelling Q → ℕ → List ℕ → Type 0 → List Q → Type 0
AskedBy status.Done p limit x ended qs = (length x ≤ limit) × ended × (p.ending x ≢ CutOff) × (qs ≡ all_requests p x)
AskedBy status.Truncated p limit x ended qs =
    (length x ≤ limit) × ended × (p.ending x ≡ CutOff) × (qs ≡ all_requests p x)
AskedBy status.SourceFault p limit x ended qs = (length x ≤ limit) × (qs ≡ p.requests x)
AskedBy status.TooLong p limit x ended qs = (length x ≡ limit + 1) × (qs ≡ p.requests (take limit x))
AskedBy status.DeviceFault p limit x ended qs =
    (qs ≡ p.requests (take limit x)) ⊎ ((length x ≤ limit) × ended × (qs ≡ all_requests p x))
AskedBy status.PutFault p limit x ended qs = (qs ≡ p.requests (take limit x))
    ⊎ ((length x ≤ limit) × ended × (qs ≡ all_requests p x))
AskedBy r p limit x ended qs = ⊥

-- What was sent by the time that a run ended so, of the answers to these requests. `final` is the state then: after a
-- put that failed, the one behind the request whose answer was cut off.
abbrev pub ByStatus : {Q : Type 0} → Status → (k : Service Q) → k.States → List ℕ → List Q → k.States → List ℕ → Type 0
ByStatus status.PutFault k s before qs final now = (c : IsCutOff k s before qs now) × (final ≡ c.next)
ByStatus status.DeviceFault k s before qs final now =
    IsBroken k s before qs now ⊎ ((c : IsCutOff k s before qs now) × k.in_parts c.request c.answer)
ByStatus r k s before qs final now = Served k s before qs final now

-- How a run over these requests ended: what was sent; what a crash may have left at any moment; how often a write was
-- called, where so many writes were due before; and how much is left to be done in each of those images. The states of
-- a run with these answers were all seen; where the device failed, the last one may not be. They were seen since the
-- start, and so since any earlier moment.
pub record Ends {Q : Type 0} (r : Status) (k : Service Q) (w : WorkCount Q k.States) (s final : k.States) (due : ℕ)
    (old new : View) (qs : List Q) : Type 0 where
  pub sent : ByStatus r k s old.sent qs final new.sent
  pub any_moment : (t : ℕ) → t ≤ old.clock → LeavesOnly old new (IsLeftInRun k (new.left t) s old.sent qs)
  pub most : IsPaidFor k w s old.sent qs new.sent (used due old) new.writes
  pub debt : All w.bounded qs → LeavesOnly old new (HasDebt k w s old.sent (w.debt old.reads) qs)
  pub seen : (t : ℕ) → t ≤ old.clock → IsSeenRun k (new.left t) s old.sent qs new.sent
  pub all_seen : r ≢ status.DeviceFault → (t : ℕ) (le : t ≤ old.clock) → k.acked (seen t le).front ≡ 0

-- Bytes that came in, the requests that they hold, and how the run over these ended, where the port tells.
pub record Ran {Q : Type 0} (r : Status) (k : Service Q) (w : WorkCount Q k.States) (p : Spelling Q)
    (s final : k.States) (limit : ℕ) (source : Taking) (due : ℕ) (port : Moments) : Type 0 where
  pub bytes : List ℕ
  pub came_in : source.came bytes
  pub asked : List Q
  pub these : AskedBy r p limit bytes source.at_end asked
  pub ends : port.tells → Ends r k w s final due port.old port.new asked
