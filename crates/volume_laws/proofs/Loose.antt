-- Data sectors of free blocks may hold anything.
use Rattle.std.proofs.Common.{◌≡◌, ℕ, Bool, refl}
use Rattle.volume_laws.proofs.Common.{View, IsLeftWithin, IsConfined, weakened, or_false, home, AreUnused, Stands, header_on, unused_stands, Volume, IsVolumeAt, world_on, LeavesWorld}

-- the images that a run of writes to such sectors leaves stand for the same world
pub unused_moments : (vol : Volume) (old new : View) (some : ℕ → Bool) → IsVolumeAt vol old → AreUnused (header_on (home old.reads)).geometry (home old.reads) some → IsConfined some old new → LeavesWorld old new
unused_moments vol old new some at unused run =
    weakened old new (IsLeftWithin some old) (λ x f. Stands x (world_on old) × (f ≡ old.sent)) run.leaves
    (λ x f left. (unused_stands old.reads x (world_on old) some (record { good = at.good; world = refl }) unused (λ n out. left.0.agrees n (or_false (some n) (old.loose n) out (at.firm n))), left.1))
