-- What no request touches stays, from request to request.
use Rattle.std.proofs.Common.{◌≡◌, List, ℕ, subst}
use Rattle.image_device.specs.Image.{Image}
use Rattle.image_device.specs.View.{View, IsLeftInPut, IsSound}
use Rattle.image_device.specs.Runs.{IsFirm, LeavesOnly, LeavesPart}
use Rattle.image_device.proofs.Parts.{part_put, part_then}

-- one call more, whose part is the same
pub aside_then : (part now : Image → Image) (old mid new : View) → IsSound mid → now ≡ part → LeavesPart part old mid
    → LeavesPart now mid new → LeavesPart part old new
aside_then part now old mid new sound same so_far more =
    part_then part old mid new sound so_far (subst (λ p. LeavesPart p mid new) same more)

-- a text more was put
pub aside_put : (part : Image → Image) (text : List ℕ) (old mid new : View) → IsSound mid → IsFirm mid → LeavesPart part old mid
    → LeavesOnly mid new (IsLeftInPut text mid) → LeavesPart part old new
aside_put part text old mid new sound firm so_far puts =
    part_then part old mid new sound so_far (part_put part text mid new firm puts)
