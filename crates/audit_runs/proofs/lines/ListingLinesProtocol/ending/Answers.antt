use Rattle.std.proofs.Common.{◌≡◌, ◌<◌, ◌∙◌, ℕ, List, [], ◌∷◌, Option, length, take, ap, arith}
use Rattle.std.proofs.lemmas.Bool.Decides.{nat_tests}
use Rattle.script_text.specs.Grammar.{held_max}
use Rattle.script_text.specs.Pieces.{unended}
use Rattle.image_audit.specs.declared.listing.Listing.{Listing}
use Rattle.image_audit.specs.ListingReading.{listing_of}
use Rattle.serving.specs.declared.protocol.Ending.TheVariants.{One}
use Rattle.audit_runs.specs.Lines.{listing_ending}
use Rattle.audit_runs.proofs.lines.ListingLinesProtocol.ending.Goals as goal

ending_of : (left rest : List ℕ) (said : Option Listing) → rest ≡ take held_max left → 0 < length rest → said ≡ listing_of left → One said ≡ listing_ending left
ending_of [] rest said same some is = let none = ap length same in absurd (omega (arith, none, some))
ending_of (b ∷ bs) rest said same some is = ap (λ o. One o) is

pub returns : goal.returns
returns c x fed =
    let some : 0 < length c.rest-rest.result.now = grind (arith, nat_tests, c.is_empty.ensures, c.if-is_empty.false) in
    ending_of (unended x) c.rest-rest.result.now c.parse_listing.result (c.rest-rest.ensures.value ∙ fed) some (c.parse_listing.ensures.cut (unended x) (c.rest-rest.ensures.value ∙ fed))
