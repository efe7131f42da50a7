-- A part of what is read stays, from call to call.
use Rattle.std.proofs.Common.{◌≡◌, Bool, List, ℕ, ◌∙◌, ap}
use Rattle.image_device.specs.Image.{Image}
use Rattle.image_device.specs.View.{View, IsLeftInPut, IsLeftWithin, IsSound}
use Rattle.image_device.specs.Calls.{Rests}
use Rattle.image_device.specs.Runs.{LeavesOnly, LeavesPart, IsConfined, IsFirm}
use Rattle.image_device.proofs.Moments.{ends_in, firm_image, joined, rested, started, weakened}

-- nothing was called
pub part_stays : (part : Image → Image) (v : View) → IsSound v → IsFirm v → LeavesPart part v v
part_stays part v sound firm = started v (λ x f. part x ≡ part v.reads) sound (λ x f now. ap part (firm_image v firm x f now))

-- it reads as before at the end
pub part_at_end : (part : Image → Image) (old new : View) → IsSound new → LeavesPart part old new → part new.reads ≡ part old.reads
part_at_end part old new sound leaves = ends_in old new (λ x f. part x ≡ part old.reads) sound leaves

-- one run more
pub part_then : (part : Image → Image) (old mid new : View) → IsSound mid → LeavesPart part old mid → LeavesPart part mid new
    → LeavesPart part old new
part_then part old mid new sound so_far more =
    joined old mid new (λ x f. part x ≡ part old.reads) (λ x f. part x ≡ part mid.reads) so_far more
    (λ x f same. same ∙ part_at_end part old mid sound so_far)

-- calls that only read
pub part_rests : (part : Image → Image) (v new : View) → IsSound v → IsFirm v → Rests v new → LeavesPart part v new
part_rests part v new sound firm rests =
    rested v new (λ x f. part x ≡ part v.reads) sound rests (λ x f now. ap part (firm_image v firm x f now))

-- a text was put
pub part_put : (part : Image → Image) (text : List ℕ) (old new : View) → IsFirm old → LeavesOnly old new (IsLeftInPut text old)
    → LeavesPart part old new
part_put part text old new firm leaves =
    weakened old new (IsLeftInPut text old) (λ x f. part x ≡ part old.reads) leaves
    (λ x f left. ap part (λ i n. left.0.agrees n (firm n) i))

-- no sector was written that shows in the part
pub part_confined : (part : Image → Image) (some : ℕ → Bool) (old new : View)
    → ((x : Image) (f : List ℕ) → IsLeftWithin some old x f → part x ≡ part old.reads) → IsConfined some old new
    → LeavesPart part old new
part_confined part some old new shows confined =
    weakened old new (IsLeftWithin some old) (λ x f. part x ≡ part old.reads) confined.leaves shows
