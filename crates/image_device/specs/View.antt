-- What a device is, as far as it tells.
use Rattle.std.specs.Prelude.{ℕ, ◌≤◌, ◌≡◌, ◌||◌, Bool, false, List, [], ◌++◌}
use Rattle.image_device.specs.Image.{Image, IsImage, zeros}

pub record View : Type 1 where
  -- what a read of each sector gives
  pub reads : Image
  -- the sectors that a crash now may change: those written since the last sync
  pub loose : ℕ → Bool
  -- the bytes put so far
  pub sent : List ℕ
  -- the time, which never falls
  pub clock : ℕ
  -- Whether a crash at some moment since then may have left this image, with these bytes sent. Moments inside calls
  -- count.
  pub left : ℕ → Image → List ℕ → Type 0
  -- how often a read, a write or a sync failed
  pub faults : ℕ
  -- how often a put failed
  pub put_faults : ℕ
  -- how often a write was called
  pub writes : ℕ

-- a device that tells nothing but its counts
abbrev pub untold : ℕ → ℕ → ℕ → View
untold faults put_faults writes = record {
  reads = λ n. zeros;
  loose = λ n. false;
  sent = [];
  clock = 0;
  left = λ t x f. Unit {0};
  faults = faults;
  put_faults = put_faults;
  writes = writes;
}

-- what a crash now leaves, and what is sent by now
abbrev pub IsLeftNow : View → Image → List ℕ → Type 0
IsLeftNow v x f = IsImage v.reads v.loose x × (f ≡ v.sent)

-- the same where these sectors are loose too
abbrev pub IsLeftWithin : (ℕ → Bool) → View → Image → List ℕ → Type 0
IsLeftWithin some v x f = IsImage v.reads (λ n. some n || v.loose n) x × (f ≡ v.sent)

-- some front of a piece has been sent behind what was sent before
pub record IsPart (before piece now : List ℕ) : Type 0 where
  pub front : List ℕ
  pub back : List ℕ
  pub sent : now ≡ before ++ front
  pub whole : piece ≡ front ++ back

-- what a crash inside a put leaves: a front of the piece is sent
abbrev pub IsLeftInPut : List ℕ → View → Image → List ℕ → Type 0
IsLeftInPut piece v x f = IsImage v.reads v.loose x × IsPart v.sent piece f

-- what holds of a device at each moment
pub record IsSound (v : View) : Type 0 where
  -- what a crash now leaves is among what may have been left since any earlier moment
  pub counts_now : (t : ℕ) (x : Image) (f : List ℕ) → t ≤ v.clock → IsLeftNow v x f → v.left t x f
  -- since now nothing else is left
  pub only_now : (x : Image) (f : List ℕ) → v.left v.clock x f → IsLeftNow v x f
  -- a device as it reads is one of its own images
  pub own : IsImage v.reads v.loose v.reads
