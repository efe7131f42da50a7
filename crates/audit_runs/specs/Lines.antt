-- The lines of an input as what they say of blocks.
use Rattle.std.specs.Prelude.{ℕ, List, [], ◌∷◌, Option, map}
use Rattle.script_text.specs.Pieces.{lines, unended}
use Rattle.image_audit.specs.declared.listing.Listing.{Listing}
use Rattle.image_audit.specs.ListingReading.{listing_of}
use Rattle.serving.specs.Input.{Spelling}
use Rattle.serving.specs.declared.protocol.Ending.{Ending}
use Rattle.serving.specs.declared.protocol.Ending.TheVariants.{Nothing, One}

-- what stands after the last line feed is one more line, where it is something
abbrev pub listing_ending : List ℕ → Ending (Option Listing)
listing_ending [] = Nothing
listing_ending (b ∷ bs) = One (listing_of (b ∷ bs))

abbrev pub listing_spelling : Spelling (Option Listing)
listing_spelling = record { requests = λ x. map listing_of (lines x); ending = λ x. listing_ending (unended x) }
