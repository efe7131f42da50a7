-- How far the slots of an image were read.
use Rattle.std.specs.Prelude.{◌≡◌, ℕ, ◌+◌, ◌*◌, ◌<◌, min, false, List, Option, Some, Result, Ok, Err, OnOk, MatchResult}
use Rattle.std.specs.Prelude.{⊤}
use Rattle.tsd_model.specs.declared.geometry.Geometry.{Geometry}
use Rattle.image_layout.specs.Areas.{slots_start}
use Rattle.image_layout.specs.Image.{Image}
use Rattle.pointer_table.specs.Slots.{slot_at}
use Rattle.pointer_table.specs.Table.{MayBeHeld}
use Rattle.pointer_table.specs.Sectors.{per_sector, stored_slot}
use Rattle.pointer_table.specs.Loading.{is_bad_at, IsLeastBadSlot}
use Rattle.pointer_table.specs.declared.load.BadSlot.{BadSlot}
use Rattle.pointer_table.specs.declared.fault.TableFault.{TableFault}
use Rattle.pointer_table.specs.declared.fault.TableFault.TheVariants as fault

-- the slots of the image before this one are these, and none of them is bad
pub record AreReadTo (image : Image) (g : Geometry) (end : ℕ) (slots : List (Option (ℕ × ℕ))) : Type 0 where
  pub each : (k : ℕ) → k < end → stored_slot image g k ≡ slot_at slots k
  pub no_bad : (k : ℕ) → k < end → is_bad_at image g k ≡ false

-- the pairs in the slots before this one may be held
pub record AreWithinTo (g : Geometry) (end : ℕ) (slots : List (Option (ℕ × ℕ))) : Type 0 where
  pub each : (k : ℕ) (e : ℕ × ℕ) → k < end → slot_at slots k ≡ Some e → MayBeHeld g e

-- what comes of reading all slots
abbrev pub IsSlotReading : Image → Geometry → List (Option (ℕ × ℕ)) → Result (Unit {0}) TableFault → Type 0
IsSlotReading image g slots (Ok done) = AreReadTo image g g.slots slots
IsSlotReading image g slots (Err fault.NoMemory) = ⊥
IsSlotReading image g slots (Err fault.Device) = ⊤
IsSlotReading image g slots (Err (fault.Slot k source target)) = IsLeastBadSlot image g k source target
IsSlotReading image g slots (Err (fault.Repeated a b)) = ⊥

-- the end of the slots that this one of their sectors has
abbrev pub part_end : Geometry → ℕ → ℕ
part_end g part = min g.slots (per_sector * part + per_sector)

-- what comes of taking this sector's slots, which an image has as this one of its slots' sectors, behind those before
-- it
abbrev pub IsTaking : Geometry → ℕ → List ℕ → List (Option (ℕ × ℕ)) → List (Option (ℕ × ℕ))
    → Result (Unit {0}) BadSlot → Type 0
IsTaking g part sector old new result =
    (image : Image) → image (slots_start g + part) ≡ sector → AreReadTo image g (per_sector * part) old
    → MatchResult result (λ _. AreReadTo image g (part_end g part) new)
    (λ bad. IsLeastBadSlot image g bad.slot bad.source bad.target)

-- the pairs in the slots that were taken may be held
abbrev pub TakesWithin : Geometry → ℕ → List (Option (ℕ × ℕ)) → List (Option (ℕ × ℕ))
    → Result (Unit {0}) BadSlot → Type 0
TakesWithin g part old new result = AreWithinTo g (per_sector * part) old
    → OnOk result (AreWithinTo g (part_end g part) new)
