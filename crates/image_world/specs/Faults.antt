-- The tests of an image, and the first that it fails. Those from the third on are made on its home.
use Rattle.std.specs.Prelude.{◌≡◌, ◌≢◌, ℕ, ◌<◌, ◌&&◌, Bool, true, false, Ok, Err}
use Rattle.tsd_model.specs.declared.geometry.Geometry.{Geometry}
use Rattle.tsd_model.specs.Pairs.{count_to, holds, pair_lt}
use Rattle.image_layout.specs.declared.fault.ImageFault.{ImageFault}
use Rattle.image_layout.specs.declared.fault.ImageFault.TheVariants as fault
use Rattle.image_layout.specs.Areas.{header_sector, format_gate}
use Rattle.image_layout.specs.Header.{IsHeaderReading}
use Rattle.image_layout.specs.Image.{Image, says_open, is_bit_set, stored_count}
use Rattle.pointer_table.specs.Slots.{pairs_in}
use Rattle.pointer_table.specs.Loading.{HasNoBad, IsLeastBadSlot, IsRepeatedOn, IsLeastRepeated}
use Rattle.intent_journal.specs.Home.{home}
use Rattle.intent_journal.specs.Records.{has_valid_records}
use Rattle.image_world.specs.Tables.{header_on, slots_on}

-- ---- the tests one by one

-- 1: the format gate is open
abbrev pub IsFormatGateOpen : Image → Type 0
IsFormatGateOpen image = says_open (image format_gate) ≡ true

-- 2: each open record of the journal has a valid descriptor
abbrev pub HasJournal : Image → Type 0
HasJournal image = has_valid_records image ≡ true

-- 3: the header is right
abbrev pub HasHeader : Image → Type 0
HasHeader x = IsHeaderReading (x header_sector) (Ok (header_on x))

-- 4: no slot is bad, which is `HasNoBad`. 5: no pair stands in two slots
abbrev pub HasNoRepeated : Image → Geometry → Type 0
HasNoRepeated x g = (e : ℕ × ℕ) → ¬ IsRepeatedOn x g e

-- 6: the primary blocks are live
abbrev pub HasPrimaries : Image → Geometry → Type 0
HasPrimaries x g = (b : ℕ) → b < g.primaries → is_bit_set x g b ≡ true

-- this is the least primary block that isn't live
pub record IsLeastPrimary (x : Image) (g : Geometry) (b : ℕ) : Type 0 where
  pub inside : b < g.primaries
  pub free : is_bit_set x g b ≡ false
  pub least : (a : ℕ) → a < b → is_bit_set x g a ≡ true

-- whether both ends of a pair are live
abbrev pub are_marked : Image → Geometry → (ℕ × ℕ) → Bool
are_marked x g e = is_bit_set x g e.0 && is_bit_set x g e.1

-- 7: both ends of each pair are live
abbrev pub HasEnds : Image → Geometry → Type 0
HasEnds x g = (e : ℕ × ℕ) → holds (pairs_in (slots_on x g)) e.0 e.1 ≡ true → are_marked x g e ≡ true

-- this is the least pair with an end that isn't live
pub record IsLeastEnd (x : Image) (g : Geometry) (e : ℕ × ℕ) : Type 0 where
  pub held : holds (pairs_in (slots_on x g)) e.0 e.1 ≡ true
  pub free : are_marked x g e ≡ false
  pub least : (f : ℕ × ℕ) → holds (pairs_in (slots_on x g)) f.0 f.1 ≡ true → are_marked x g f ≡ false
      → pair_lt f e ≡ false

-- the number of pairs that lead to a block
abbrev pub found_count : Image → Geometry → ℕ → ℕ
found_count x g b = count_to (pairs_in (slots_on x g)) b

-- 8: each block's stored count is that number
abbrev pub HasCounts : Image → Geometry → Type 0
HasCounts x g = (b : ℕ) → b < g.blocks → stored_count x g b ≡ found_count x g b

-- this is the least block whose count is wrong, with both numbers
pub record IsLeastCount (x : Image) (g : Geometry) (b stored found : ℕ) : Type 0 where
  pub inside : b < g.blocks
  pub stored_is : stored ≡ stored_count x g b
  pub found_is : found ≡ found_count x g b
  pub wrong : stored ≢ found
  pub least : (a : ℕ) → a < b → stored_count x g a ≡ found_count x g a

-- ---- all of them

-- tests 4 to 8 pass
pub record AreRight (x : Image) (g : Geometry) : Type 0 where
  pub no_bad : HasNoBad x g
  pub none_repeated : HasNoRepeated x g
  pub primaries : HasPrimaries x g
  pub ends : HasEnds x g
  pub counts : HasCounts x g

-- The first of tests 4 to 8 that fails, with what fails it. Each fault comes exactly where its line holds, since no two
-- of them hold together.
abbrev pub IsTableFault : Image → Geometry → ImageFault → Type 0
IsTableFault x g fault.NotFormatted = ⊥
IsTableFault x g fault.Descriptor = ⊥
IsTableFault x g (fault.Header why) = ⊥
IsTableFault x g (fault.Slot k source target) = IsLeastBadSlot x g k source target
IsTableFault x g (fault.Repeated a b) = HasNoBad x g × IsLeastRepeated x g (a, b)
IsTableFault x g (fault.Primary b) = HasNoBad x g × HasNoRepeated x g × IsLeastPrimary x g b
IsTableFault x g (fault.EndNotLive a b) = HasNoBad x g × HasNoRepeated x g × HasPrimaries x g × IsLeastEnd x g (a, b)
IsTableFault x g (fault.Count b stored found) =
    HasNoBad x g × HasNoRepeated x g × HasPrimaries x g × HasEnds x g × IsLeastCount x g b stored found

-- all eight pass
pub record IsGood (image : Image) : Type 0 where
  pub formatted : IsFormatGateOpen image
  pub journal : HasJournal image
  pub header : HasHeader (home image)
  pub tables : AreRight (home image) (header_on (home image)).geometry

-- the first three pass, and of the others this is the first fault
pub record IsDamaged (image : Image) (why : ImageFault) : Type 0 where
  pub formatted : IsFormatGateOpen image
  pub journal : HasJournal image
  pub header : HasHeader (home image)
  pub tables : IsTableFault (home image) (header_on (home image)).geometry why

-- the first test that an image fails, with what fails it
abbrev pub IsFirstFault : Image → ImageFault → Type 0
IsFirstFault image fault.NotFormatted = says_open (image format_gate) ≡ false
IsFirstFault image fault.Descriptor = IsFormatGateOpen image × (has_valid_records image ≡ false)
IsFirstFault image (fault.Header why) = IsFormatGateOpen image × HasJournal image
    × IsHeaderReading (home image header_sector) (Err why)
IsFirstFault image (fault.Slot k source target) = IsDamaged image (fault.Slot k source target)
IsFirstFault image (fault.Repeated a b) = IsDamaged image (fault.Repeated a b)
IsFirstFault image (fault.Primary b) = IsDamaged image (fault.Primary b)
IsFirstFault image (fault.EndNotLive a b) = IsDamaged image (fault.EndNotLive a b)
IsFirstFault image (fault.Count b stored found) = IsDamaged image (fault.Count b stored found)

-- ---- laws

-- Two faults of one image are the same, and an image that passes has none.
abbrev pub FaultsAreOne : Type 0
FaultsAreOne = (image : Image) (one other : ImageFault) → IsFirstFault image one → IsFirstFault image other
    → one ≡ other

abbrev pub GoodHasNoFault : Type 0
GoodHasNoFault = (image : Image) (why : ImageFault) → IsGood image → ¬ IsFirstFault image why
