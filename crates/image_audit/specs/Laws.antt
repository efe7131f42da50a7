-- What follows of the definitions.
use Rattle.std.specs.Prelude.{◌≡◌, ℕ, suc, ◌<◌, ◌↔◌, List, [], ◌∷◌, Option, Some, None, length, replicate, slice_set}
use Rattle.std.specs.Prelude.{IsTrue}
use Rattle.tsd_model.specs.Pairs.{holds}
use Rattle.tsd_model.specs.World.{World, is_live, has_number}
use Rattle.tsd_model.specs.Reach.{reach_from}
use Rattle.image_audit.specs.declared.entry.Entry.{Entry}
use Rattle.image_audit.specs.declared.listing.Listing.{Listing}
use Rattle.image_audit.specs.Depths.{IsPath}
use Rattle.image_audit.specs.Listing.{IsListing, MayFollow}

-- a world whose blocks have the sizes that its geometry says, and whose pairs lead to live blocks
pub record IsWholeWorld (w : World) : Type 0 where
  pub each_block : length w.blocks ≡ w.geometry.blocks
  pub targets : (a b : ℕ) → IsTrue (holds w.pairs a b) → IsTrue (is_live w b)

-- What is reached from roots is what a path leads to from one of them.
abbrev pub ReachedByPaths : Type 0
ReachedByPaths =
    (w : World) (roots : List ℕ) → IsWholeWorld w → ((b : ℕ) → IsTrue (has_number roots b) → b < w.geometry.blocks)
    → (b : ℕ) → IsTrue (has_number (reach_from w roots) b) ↔ ((n : ℕ) × IsPath w roots n b)

-- ---- the lines of a certificate

-- what the lines of these entries say, the first of them that of block b: of each listed block, ascending, its entry
abbrev pub listings_from : ℕ → List (Option Entry) → List Listing
listings_from b [] = []
listings_from b (None ∷ es) = listings_from (suc b) es
listings_from b (Some e ∷ es) = record { block = b; entry = e } ∷ listings_from (suc b) es

-- none of these is refused, one after another, and they leave the new entries
abbrev pub AreTaken : List Listing → List (Option Entry) → List (Option Entry) → Type 0
AreTaken [] old new = new ≡ old
AreTaken (l ∷ ls) old new = MayFollow old l.block × AreTaken ls (slice_set old l.block (Some l.entry)) new

-- A new certificate takes the lines of any entries, and has these entries then.
abbrev pub ListingsAreTaken : Type 0
ListingsAreTaken = (entries : List (Option Entry))
    → AreTaken (listings_from 0 entries) (replicate (length entries) None) entries

-- A line spells one listing at most.
abbrev pub ListingsAreOne : Type 0
ListingsAreOne = (line : List ℕ) (k l : Listing) → IsListing line k → IsListing line l → k ≡ l
