-- What an image stands for: the sectors as they are once its records are in place.
use Rattle.std.specs.Prelude.{ℕ, ◌≡◌, ◌&&◌, nat_le, Bool, false, List, [], ◌∷◌}
use Rattle.image_device.specs.Image.{Image, put_at}
use Rattle.image_layout.specs.declared.offset.Patch.{Patch}
use Rattle.intent_journal.specs.Records.{patches_of, open_records}

-- an image with these patches put into place, one after another
abbrev pub overlaid : List Patch → Image → Image
overlaid [] image = image
overlaid (p ∷ ps) image = overlaid ps (put_at p.sector p.bytes image)

-- the image overlaid, in order, with the open records that come before the first one whose descriptor isn't valid
abbrev pub home : Image → Image
home image = overlaid (patches_of (open_records image)) image

-- the sectors of the journal
abbrev pub is_journal : ℕ → Bool
is_journal sector = nat_le 2 sector && nat_le sector 130

-- both have the same bytes everywhere but in these sectors
abbrev pub AgreeBut : (ℕ → Bool) → Image → Image → Type 0
AgreeBut some one other = (n : ℕ) → some n ≡ false → other n ≡ one n
