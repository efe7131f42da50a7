-- What a run of calls leaves.
use Rattle.std.specs.Prelude.{ℕ, ◌<◌, ◌≤◌, ◌≡◌, ◌⊎◌, Bool, false, List, ◌++◌, length, take, Result, OnOk, OnErr}
use Rattle.image_device.specs.Image.{Image}
use Rattle.image_device.specs.View.{View, IsLeftWithin, IsLeftInPut}
use Rattle.image_device.specs.Calls.{Puts}
use Rattle.image_device.specs.Counts.{CountsFault}

-- A crash at any moment since old leaves what has P.
pub record LeavesOnly (old new : View) (P : Image → List ℕ → Type 0) : Type 0 where
  pub later : old.clock ≤ new.clock
  pub each : (x : Image) (f : List ℕ) → new.left old.clock x f → P x f
  -- for a run that began earlier
  pub before : (t : ℕ) (x : Image) (f : List ℕ) → t ≤ old.clock → new.left t x f → old.left t x f ⊎ P x f
  pub keeps : (t : ℕ) (x : Image) (f : List ℕ) → t ≤ old.clock → old.left t x f → new.left t x f

-- A run of calls that writes none but these sectors and puts nothing. Other sectors may become firm.
pub record IsConfined (some : ℕ → Bool) (old new : View) : Type 0 where
  pub reads : (n : ℕ) → some n ≡ false → new.reads n ≡ old.reads n
  pub loose : (n : ℕ) → some n ≡ false → old.loose n ≡ false → new.loose n ≡ false
  pub sent : new.sent ≡ old.sent
  pub leaves : LeavesOnly old new (IsLeftWithin some old)

-- nothing is loose
abbrev pub IsFirm : View → Type 0
IsFirm v = (n : ℕ) → v.loose n ≡ false

-- A text is put whole, or after a failure a shorter front of it, and the disk stays as it was.
pub record PutsAll {T E : Type 0} (told : Type 0) (text : List ℕ) (old new : View) (result : Result T E) : Type 0 where
  pub reads : told → new.reads ≡ old.reads
  pub loose : told → new.loose ≡ old.loose
  pub sent : told → OnOk result (new.sent ≡ old.sent ++ text)
  pub part : told → OnErr result ((count : ℕ) × (count < length text) × (new.sent ≡ old.sent ++ take count text))
  -- a crash at any moment leaves what a read gives, with a front of the text sent
  pub any_moment : told → LeavesOnly old new (IsLeftInPut text old)
  pub puts : Puts old new
  pub faults : CountsFault result old.put_faults new.put_faults

-- A crash at any moment leaves this part of what was read as it was.
abbrev pub LeavesPart : (Image → Image) → View → View → Type 0
LeavesPart part old new = LeavesOnly old new (λ x f. part x ≡ part old.reads)
