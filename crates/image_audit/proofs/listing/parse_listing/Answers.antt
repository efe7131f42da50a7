use Rattle.std.proofs.Common.{◌≡◌, sym, ◌∙◌, ap, ℕ, List, Option, Some, None}
use Rattle.image_audit.proofs.Common.{IfSome, pieces, Listing, IsListing, listing_in, listing_of}
use Rattle.image_audit.proofs.ListingLaws.{line_is, line_back, listing_of-cut}
use Rattle.image_audit.proofs.listing.parse_listing.Goals as goal

if_read : (line : List ℕ) (o : Option Listing) → o ≡ listing_in (pieces 32 line) → IfSome o (IsListing line)
if_read line None h = tt
if_read line (Some l) h = line_is line l (sym h)

pub returns-clause-spelled : goal.returns-clause-spelled
returns-clause-spelled c = if_read c.args.line.now c.read_listing.result (c.read_listing.ensures ∙ ap listing_in c.of.ensures)

pub returns-clause-only : goal.returns-clause-only
returns-clause-only c l h = c.read_listing.ensures ∙ (ap listing_in c.of.ensures ∙ line_back c.args.line.now l h)

pub returns-clause-value : goal.returns-clause-value
returns-clause-value c = c.read_listing.ensures ∙ ap listing_in c.of.ensures

pub returns-clause-cut : goal.returns-clause-cut
returns-clause-cut c whole is = c.read_listing.ensures ∙ ap listing_in c.of.ensures ∙ ap listing_of is ∙ listing_of-cut whole
