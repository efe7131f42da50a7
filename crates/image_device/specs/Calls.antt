-- What one call changes.
use Rattle.std.specs.Prelude.{ℕ, ◌+◌, ◌≤◌, ◌≡◌, ◌≢◌, ◌⊎◌, ◌==◌, false, List}
use Rattle.image_device.specs.Image.{Image}
use Rattle.image_device.specs.View.{View, IsLeftNow, IsLeftWithin, IsLeftInPut}

-- Time goes on over a call, inside which a crash leaves only this. What was left before counts after.
pub record Elapses (old new : View) (inside : Image → List ℕ → Type 0) : Type 0 where
  pub later : old.clock ≤ new.clock
  pub nothing_else : (t : ℕ) (x : Image) (f : List ℕ) → t ≤ old.clock → new.left t x f → old.left t x f ⊎ inside x f
  pub keeps : (t : ℕ) (x : Image) (f : List ℕ) → t ≤ old.clock → old.left t x f → new.left t x f

-- what a crash inside a call leaves counts from then on
abbrev pub Includes : View → View → (Image → List ℕ → Type 0) → Type 0
Includes old new inside = (t : ℕ) (x : Image) (f : List ℕ) → t ≤ old.clock → inside x f → new.left t x f

-- a call that changes neither what is read, nor what is loose, nor what is sent
pub record Rests (old new : View) : Type 0 where
  pub reads : new.reads ≡ old.reads
  pub loose : new.loose ≡ old.loose
  pub sent : new.sent ≡ old.sent
  pub time : Elapses old new (IsLeftNow old)

-- A call that may change what this sector reads as and whether it is loose. Inside it the sector counts as loose.
pub record Touches (sector : ℕ) (old new : View) : Type 0 where
  pub reads : (n : ℕ) → n ≢ sector → new.reads n ≡ old.reads n
  pub loose : (n : ℕ) → n ≢ sector → new.loose n ≡ old.loose n
  pub sent : new.sent ≡ old.sent
  pub time : Elapses old new (IsLeftWithin (λ n. n == sector) old)

-- a call that may make loose sectors firm
pub record Settles (old new : View) : Type 0 where
  pub reads : new.reads ≡ old.reads
  pub loose : (n : ℕ) → old.loose n ≡ false → new.loose n ≡ false
  pub sent : new.sent ≡ old.sent
  pub time : Elapses old new (IsLeftNow old)

-- A call that sends this piece, or a front of it. Inside it any front counts as sent.
pub record Appends (piece : List ℕ) (old new : View) : Type 0 where
  pub reads : new.reads ≡ old.reads
  pub loose : new.loose ≡ old.loose
  pub time : Elapses old new (IsLeftInPut piece old)

-- The counts, told or not, over calls that write at most so often and put nothing.
pub record Uses (limit : ℕ) (old new : View) : Type 0 where
  pub clock : old.clock ≤ new.clock
  pub faults : old.faults ≤ new.faults
  pub put_faults : new.put_faults ≡ old.put_faults
  pub writes : old.writes ≤ new.writes
  pub most : new.writes ≤ old.writes + limit

-- the counts, told or not, over calls that only put
pub record Puts (old new : View) : Type 0 where
  pub clock : old.clock ≤ new.clock
  pub faults : new.faults ≡ old.faults
  pub put_faults : old.put_faults ≤ new.put_faults
  pub writes : new.writes ≡ old.writes
