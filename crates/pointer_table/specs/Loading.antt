-- What the slots of an image say, right or not.
use Rattle.std.specs.Prelude.{◌≡◌, ℕ, ◌<◌, ◌==◌, ◌&&◌, ◌||◌, not, nat_lt, nat_le, Bool, false, Result, Ok, Err, IsTrue}
use Rattle.std.specs.Prelude.{⊤}
use Rattle.tsd_model.specs.declared.geometry.Geometry.{Geometry}
use Rattle.tsd_model.specs.Pairs.{pair_lt}
use Rattle.image_layout.specs.Image.{Image, source_field, target_field}
use Rattle.pointer_table.specs.Slots.{IsRepeated}
use Rattle.pointer_table.specs.Table.{Table}
use Rattle.pointer_table.specs.Sectors.{stored_slot, IsStored}
use Rattle.pointer_table.specs.declared.fault.TableFault.{TableFault}
use Rattle.pointer_table.specs.declared.fault.TableFault.TheVariants as fault

-- A slot with these two numbers is bad: it isn't empty, and its source is no block, or its target is no block or is
-- primary.
abbrev pub is_bad_slot : Geometry → ℕ → ℕ → Bool
is_bad_slot g source target =
    not (source == 0) && (nat_lt g.blocks source || nat_le g.blocks target || nat_lt target g.primaries)

abbrev pub is_bad_at : Image → Geometry → ℕ → Bool
is_bad_at image g k = is_bad_slot g (source_field image g k) (target_field image g k)

-- this is the least bad slot, and these are its two numbers
pub record IsLeastBadSlot (image : Image) (g : Geometry) (k source target : ℕ) : Type 0 where
  pub inside : k < g.slots
  pub source_is : source ≡ source_field image g k
  pub target_is : target ≡ target_field image g k
  pub bad : IsTrue (is_bad_slot g source target)
  pub least : (j : ℕ) → j < k → is_bad_at image g j ≡ false

abbrev pub HasNoBad : Image → Geometry → Type 0
HasNoBad image g = (k : ℕ) → k < g.slots → is_bad_at image g k ≡ false

-- two slots of an image hold this pair
abbrev pub IsRepeatedOn : Image → Geometry → (ℕ × ℕ) → Type 0
IsRepeatedOn image g e = IsRepeated g.slots (stored_slot image g) e

-- this is the least pair that two slots hold
pub record IsLeastRepeated (image : Image) (g : Geometry) (e : ℕ × ℕ) : Type 0 where
  pub repeated : IsRepeatedOn image g e
  pub least : (f : ℕ × ℕ) → IsRepeatedOn image g f → pair_lt f e ≡ false

-- no slot is bad, no pair is repeated, and the table has this size and these slots
pub record IsLoaded (image : Image) (g : Geometry) (t : Table) : Type 0 where
  pub size : t.geometry ≡ g
  pub no_bad : HasNoBad image g
  pub none_repeated : (e : ℕ × ℕ) → ¬ IsRepeatedOn image g e
  pub stored : IsStored t.slots g image

-- What a loading answers. Where neither memory nor the device is at fault, each answer comes exactly where its line
-- holds, since no two of them hold together.
abbrev pub AnswersPointers : Image → Geometry → Result Table TableFault → Type 0
AnswersPointers image g (Ok t) = IsLoaded image g t
AnswersPointers image g (Err fault.NoMemory) = ⊤
AnswersPointers image g (Err fault.Device) = ⊤
AnswersPointers image g (Err (fault.Slot k source target)) = IsLeastBadSlot image g k source target
AnswersPointers image g (Err (fault.Repeated a b)) = HasNoBad image g × IsLeastRepeated image g (a, b)

-- neither memory nor the device was at fault
abbrev pub WasDecided : Result Table TableFault → Type 0
WasDecided (Ok t) = ⊤
WasDecided (Err fault.NoMemory) = ⊥
WasDecided (Err fault.Device) = ⊥
WasDecided (Err (fault.Slot k source target)) = ⊤
WasDecided (Err (fault.Repeated a b)) = ⊤
