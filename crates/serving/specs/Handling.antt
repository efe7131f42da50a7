-- A disk that carries out requests one after another, said apart from any code.
use Rattle.std.specs.Prelude.{◌≡◌, ◌≤◌, ◌⊎◌}
use Rattle.image_device.specs.Image.{Image}
use Rattle.image_device.specs.View.{View}
use Rattle.image_device.specs.Runs.{IsFirm}
use Rattle.tsd_model.specs.declared.requests.Request.{Request}
use Rattle.tsd_model.specs.declared.replies.Reply.{Reply}

-- A disk by its rules: its states, the replies to requests, and the images that stand for a state.
pub record DiskRules : Type 1 where
  pub States : Type 0
  -- in a state a request may be given this reply, and then the state is that
  pub gives : States → Request → Reply → States → Type 0
  pub stands : States → Image → Type 0

-- nothing is loose, and what is held in memory fits what a read gives
abbrev pub FitsDevice : (Image → Type 0) → View → Type 0
FitsDevice holds v = IsFirm v × holds v.reads

-- the image stands for the state, or for the one that a reply to the request leads to
abbrev pub StandsBeforeOrAfter : (k : DiskRules) → k.States → Request → Image → Type 0
StandsBeforeOrAfter k s q x = k.stands s x ⊎ ((r : Reply) × (t : k.States) × k.gives s q r t × k.stands t x)

-- the counts of failures over calls that put nothing
pub record CountsRise (old new : View) : Type 0 where
  pub faults : old.faults ≤ new.faults
  pub put_faults : new.put_faults ≡ old.put_faults
