-- The lines of an audit, word by word.
use Rattle.std.specs.Prelude.{ℕ, List, [], ◌∷◌, Option, Some, None, codes, decimal}
use Rattle.image_audit.specs.declared.certificate.FormFault.{FormFault}
use Rattle.image_audit.specs.declared.listing.Listing.{Listing}
use Rattle.image_audit.specs.declared.verdict.Verdict.{Verdict}
use Rattle.image_audit.specs.declared.verdict.Verdict.TheVariants as verdict

-- a parent's number, or a dash for none
abbrev pub parent_text : Option ℕ → List ℕ
parent_text None = codes "-"
parent_text (Some a) = decimal a

-- of a block in a certificate
abbrev pub listing_words : Listing → List (List ℕ)
listing_words l =
    codes "block" ∷ decimal l.block ∷ codes "depth" ∷ decimal l.entry.depth
    ∷ codes "parent" ∷ parent_text l.entry.parent ∷ []

-- of what a certificate shows
abbrev pub verdict_words : Verdict → List (List ℕ)
verdict_words (verdict.Yes n) = codes "yes" ∷ decimal n ∷ []
verdict_words (verdict.Primary b) = codes "no" ∷ codes "primary" ∷ decimal b ∷ []
verdict_words (verdict.Entry b) = codes "no" ∷ codes "entry" ∷ decimal b ∷ []
verdict_words (verdict.Open a b) = codes "no" ∷ codes "open" ∷ decimal a ∷ decimal b ∷ []

-- of a line that a certificate refuses, by its number from 1
abbrev pub fault_words : FormFault → List (List ℕ)
fault_words f = codes "no" ∷ codes "form" ∷ decimal f.line ∷ []
