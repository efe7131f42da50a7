-- A certificate takes what the lines of an input say, one after another.
use Rattle.std.specs.Prelude.{◌≡◌, ℕ, suc, List, ◌∷◌, ◌++◌, Option, Some, None, MatchOption, length, map, replicate}
use Rattle.image_audit.specs.declared.certificate.FormFault.{FormFault}
use Rattle.image_audit.specs.declared.entry.Entry.{Entry}
use Rattle.image_audit.specs.declared.listing.Listing.{Listing}
use Rattle.image_audit.specs.Laws.{AreTaken}
use Rattle.image_audit.specs.Listing.{IsNotTaken, Listed}
use Rattle.audit_runs.specs.Certificate.{IsCertificate, IsFirstRefused}

-- all that was said was taken
pub record TakenAll (blocks : ℕ) (said : List (Option Listing)) (c : Listed) : Type 0 where
  pub listings : List Listing
  pub say : said ≡ map (λ l. Some l) listings
  pub taken : AreTaken listings (replicate blocks None) c.entries
  pub lines : c.lines ≡ length said

-- of what was said this is the first that wasn't
pub record RefusedAt (blocks : ℕ) (said : List (Option Listing)) (fault : FormFault) : Type 0 where
  pub listings : List Listing
  pub one : Option Listing
  pub behind : List (Option Listing)
  pub say : said ≡ map (λ l. Some l) listings ++ one ∷ behind
  pub entries : List (Option Entry)
  pub taken : AreTaken listings (replicate blocks None) entries
  pub refused : IsNotTaken one entries
  pub line : fault.line ≡ suc (length listings)

abbrev pub HasTaken : ℕ → List (Option Listing) → Option FormFault → Listed → Type 0
HasTaken blocks said fault c = MatchOption fault (TakenAll blocks said c) (RefusedAt blocks said)

-- what the lines of an input are to a certificate: one with these entries, or a line is refused
abbrev pub IsReadAs : ℕ → List (List ℕ) → Option FormFault → List (Option Entry) → Type 0
IsReadAs blocks lines fault entries =
    MatchOption fault (IsCertificate lines blocks entries) (λ f. IsFirstRefused lines blocks f.line)
