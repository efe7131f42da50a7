-- What a call on a volume does, and what it costs.
use Rattle.std.specs.Prelude.{◌≡◌, ℕ, true, false, List, Result, OnOk, OnErr}
use Rattle.tsd_model.specs.World.{World}
use Rattle.image_device.specs.Calls.{Uses}
use Rattle.image_device.specs.Counts.{CountsFault}
use Rattle.image_device.specs.View.{View}
use Rattle.image_device.specs.declared.device.Failed.{Failed}
use Rattle.volume_laws.specs.Data.{KeepsData}
use Rattle.volume_laws.specs.Moments.{LeavesEither, LeavesOwed}
use Rattle.volume_laws.specs.Volume.{Volume, IsVolumeAt, world_on}
use Rattle.volume_laws.specs.Writes.{IsPaid, Works}

-- A call that makes this change of the world, from one volume to another and between these devices, and gives bytes to
-- these blocks alone. A call that keeps the world makes the change `λ w. w`. What is said under `told` is said where
-- the device tells its contents.
pub record IsOperation {T : Type 0} (told : Type 0) (blocks : List ℕ) (change : World → World) (old new : Volume)
    (v w : View) (result : Result T Failed) : Type 0 where
  -- it is whole once it is answered, and at any moment before it is whole or absent
  pub at : told → OnOk result (IsVolumeAt new w)
  pub done : told → OnOk result (world_on w ≡ change (world_on v))
  pub any_moment : told → LeavesEither v w (change (world_on v))
  pub sent : told → w.sent ≡ v.sent
  -- the data of all other blocks stays, and so does what lies behind the image
  pub data_kept : told → KeepsData old.tables.geometry blocks v w result
  -- a volume is spent exactly where a call on its device failed
  pub unspent : OnOk result (new.is_spent ≡ false)
  pub spent : OnErr result (new.is_spent ≡ true)
  pub faults : CountsFault result v.faults w.faults
  pub works : Works v w
  pub geometry : new.tables.geometry ≡ old.tables.geometry

-- What a call costs: at any moment a crash leaves at most `owes` to be reclaimed; what it writes and what is due then
-- is at most what was due and `cost`; and it writes at most `most` times itself.
pub record IsWithin {T : Type 0} (told : Type 0) (owes cost most : ℕ) (old new : Volume) (v w : View)
    (result : Result T Failed) : Type 0 where
  pub any_owed : told → LeavesOwed v w owes
  pub paid : OnOk result (IsPaid cost old v new w)
  pub uses : Uses most v w
