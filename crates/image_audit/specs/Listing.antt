-- A line of a certificate, and what is listed once it was taken.
use Rattle.std.specs.Prelude.{◌≡◌, ℕ, suc, ◌<◌, List, [], ◌∷◌, Option, Some, None, length, codes, option_map, slice_set}
use Rattle.std.specs.Prelude.{IsTrue}
use Rattle.std.specs.List.{join_with_byte}
use Rattle.tsd_model.specs.declared.requests.Hint.{Hint}
use Rattle.tsd_model.specs.declared.requests.Hint.TheVariants.{Null, At}
use Rattle.script_text.specs.Grammar.{Field, Verb, Number, Near, AreFields}
use Rattle.image_audit.specs.declared.entry.Entry.{Entry}
use Rattle.image_audit.specs.declared.listing.Listing.{Listing}
use Rattle.image_audit.specs.Entries.{entry_at, is_listed}

-- a parent's number, or a dash for none
abbrev pub parent_word : Option ℕ → Hint
parent_word None = Null
parent_word (Some a) = At a

-- what the words of a line are: `block`, the block, `depth`, its depth, `parent`, its parent
abbrev pub listing_fields : Listing → List Field
listing_fields l =
    Verb (codes "block") ∷ Number l.block ∷ Verb (codes "depth") ∷ Number l.entry.depth
    ∷ Verb (codes "parent") ∷ Near (parent_word l.entry.parent) ∷ []

-- what a certificate with these entries says of block b, if it is listed
abbrev pub listing_at : List (Option Entry) → ℕ → Option Listing
listing_at entries b = option_map (λ e. record { block = b; entry = e }) (entry_at entries b)

-- The line spells it: its words are parted by one space each.
pub record IsListing (line : List ℕ) (l : Listing) : Type 0 where
  pub words : List (List ℕ)
  pub spelled : AreFields (listing_fields l) words
  pub parted : line ≡ join_with_byte 32 words

-- what a certificate has taken: the entries by block, and how many lines there were
pub record Listed : Type 0 where
  pub entries : List (Option Entry)
  pub lines : ℕ

-- the block is one of the disk, and above each that is listed
pub record MayFollow (entries : List (Option Entry)) (b : ℕ) : Type 0 where
  pub inside : b < length entries
  pub above : (c : ℕ) → IsTrue (is_listed entries c) → c < b

-- the line lists a block that may follow
pub record IsAdded (line : List ℕ) (old new : List (Option Entry)) : Type 0 where
  pub listing : Listing
  pub spelled : IsListing line listing
  pub follows : MayFollow old listing.block
  pub entries : new ≡ slice_set old listing.block (Some listing.entry)

-- it lists none
abbrev pub ListsNone : List ℕ → List (Option Entry) → Type 0
ListsNone line old = (l : Listing) → IsListing line l → MayFollow old l.block → ⊥

-- what a line says is taken: it lists a block that may follow
pub record IsListingTaken (said : Option Listing) (old new : List (Option Entry)) : Type 0 where
  pub listing : Listing
  pub says : said ≡ Some listing
  pub follows : MayFollow old listing.block
  pub entries : new ≡ slice_set old listing.block (Some listing.entry)

-- it lists none
abbrev pub IsNotTaken : Option Listing → List (Option Entry) → Type 0
IsNotTaken said old = (l : Listing) → said ≡ Some l → MayFollow old l.block → ⊥

-- each listed block is below this one, and the one right below it is listed, if there is one
pub record IsNextBlock (entries : List (Option Entry)) (next : ℕ) : Type 0 where
  pub below : (c : ℕ) → IsTrue (is_listed entries c) → c < next
  pub last : (p : ℕ) → next ≡ suc p → IsTrue (is_listed entries p)
