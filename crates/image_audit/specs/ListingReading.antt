-- What a line of a certificate says as a function that computes.
use Rattle.std.specs.Prelude.{ℕ, cond, List, [], ◌∷◌, Option, Some, None, codes, bytes_eq}
use Rattle.tsd_model.specs.declared.requests.Hint.{Hint}
use Rattle.tsd_model.specs.declared.requests.Hint.TheVariants.{Null, At}
use Rattle.script_text.specs.Pieces.{pieces}
use Rattle.script_text.specs.Reading.{◌>>=◌, reads, num_of, hint_of}
use Rattle.image_audit.specs.declared.listing.Listing.{Listing}

abbrev pub keyword : List ℕ → List ℕ → Option (Unit {0})
keyword name w = cond (bytes_eq w name) (Some tt) None

-- a block, or none
abbrev pub block_in : Hint → Option ℕ
block_in Null = None
block_in (At b) = Some b

abbrev pub parent_of : List ℕ → Option (Option ℕ)
parent_of w = hint_of w >>= λ h. Some (block_in h)

abbrev pub if_last : List (List ℕ) → Listing → Option Listing
if_last [] l = Some l
if_last (w ∷ ws) l = None

unfoldable pub listing_in : List (List ℕ) → Option Listing
listing_in ws = do
  n ← reads (keyword (codes "block")) ws
  b ← reads num_of n.1
  m ← reads (keyword (codes "depth")) b.1
  d ← reads num_of m.1
  o ← reads (keyword (codes "parent")) d.1
  p ← reads parent_of o.1
  if_last p.1 (record { block = b.0; entry = record { depth = d.0; parent = p.0 } })

-- what a line says
abbrev pub listing_of : List ℕ → Option Listing
listing_of line = listing_in (pieces 32 line)
