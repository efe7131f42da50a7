-- Lines as a certificate.
use Rattle.std.specs.Prelude.{◌≡◌, ℕ, suc, List, [], ◌∷◌, ◌++◌, Option, None, length, replicate}
use Rattle.image_audit.specs.declared.entry.Entry.{Entry}
use Rattle.image_audit.specs.declared.listing.Listing.{Listing}
use Rattle.image_audit.specs.Laws.{AreTaken}
use Rattle.image_audit.specs.Listing.{IsListing, ListsNone}

-- the lines spell these, one each
abbrev pub AreSpelled : List (List ℕ) → List Listing → Type 0
AreSpelled [] [] = Unit {0}
AreSpelled [] (l ∷ ls) = ⊥
AreSpelled (x ∷ xs) [] = ⊥
AreSpelled (x ∷ xs) (l ∷ ls) = IsListing x l × AreSpelled xs ls

-- The lines are a certificate with these entries, for a disk of so many blocks: none is refused.
pub record IsCertificate (lines : List (List ℕ)) (blocks : ℕ) (entries : List (Option Entry)) : Type 0 where
  pub listings : List Listing
  pub spelled : AreSpelled lines listings
  pub taken : AreTaken listings (replicate blocks None) entries

-- Of these lines the one with this number, from 1, is the first that is refused.
pub record IsFirstRefused (lines : List (List ℕ)) (blocks number : ℕ) : Type 0 where
  pub before : List (List ℕ)
  pub line : List ℕ
  pub behind : List (List ℕ)
  pub parts : lines ≡ before ++ line ∷ behind
  pub entries : List (Option Entry)
  pub taken : IsCertificate before blocks entries
  pub refused : ListsNone line entries
  pub at : number ≡ suc (length before)
