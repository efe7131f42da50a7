-- What `audit` says of an image.
use Rattle.std.specs.Prelude.{◌≡◌, ◌⊎◌, ℕ, List, [], ◌∷◌, ◌++◌, Option, drop, length}
use Rattle.image_device.specs.View.{IsPart}
use Rattle.image_layout.specs.Image.{Image}
use Rattle.image_world.specs.Faults.{IsGood, IsFirstFault}
use Rattle.image_world.specs.Stands.{world_of}
use Rattle.tsd_model.specs.World.{World, primary_blocks}
use Rattle.tsd_words.specs.declared.status.Status.{Status}
use Rattle.tsd_words.specs.declared.status.Status.TheVariants as status
use Rattle.tsd_words.specs.Lines.{line_of}
use Rattle.image_audit.specs.declared.entry.Entry.{Entry}
use Rattle.image_audit.specs.declared.listing.Listing.{Listing}
use Rattle.image_audit.specs.Depths.{AreReached}
use Rattle.image_audit.specs.Laws.{listings_from}
use Rattle.image_audit.specs.Texts.{listing_words}
use Rattle.image_runs.specs.Sending.{ProperFrontWasSent}

-- a line for each
abbrev pub listings_text : List Listing → List ℕ
listings_text [] = []
listings_text (l ∷ ls) = line_of (listing_words l) ++ listings_text ls

-- the lines of the blocks from b on
abbrev pub text_from : List (Option Entry) → ℕ → List ℕ
text_from entries b = listings_text (listings_from b (drop b entries))

-- The certificate of a world: of each block that the primary blocks lead to, ascending, the depth and the parent.
pub record IsAudit (w : World) (text : List ℕ) : Type 0 where
  pub entries : List (Option Entry)
  pub blocks : length entries ≡ w.geometry.blocks
  pub reached : AreReached w (primary_blocks w) entries
  pub lines : text ≡ listings_text (listings_from 0 entries)

-- an image stands for a world with this certificate
pub record IsAuditOf (image : Image) (text : List ℕ) : Type 0 where
  pub good : IsGood image
  pub audit : IsAudit (world_of image) text

-- What was sent by the time that it ended so: the certificate, whole or a proper front of it, or nothing.
abbrev pub HasAudited : Status → Image → List ℕ → List ℕ → Type 0
HasAudited status.Done image before now = (text : List ℕ) × IsAuditOf image text × (now ≡ before ++ text)
HasAudited status.PutFault image before now =
    (text : List ℕ) × IsAuditOf image text × ProperFrontWasSent before text now
HasAudited (status.NotImage why) image before now = IsFirstFault image why × (now ≡ before)
HasAudited status.DeviceFault image before now = now ≡ before
HasAudited status.NoMemory image before now = now ≡ before
HasAudited r image before now = ⊥

-- nothing was sent by then, or a front of the certificate
abbrev pub IsAuditing : Image → List ℕ → List ℕ → Type 0
IsAuditing image before now = (now ≡ before) ⊎ ((text : List ℕ) × IsAuditOf image text × IsPart before text now)
