-- What a pointer table tells: the size of its disk, and its slots.
use Rattle.std.specs.Prelude.{◌≡◌, ℕ, ◌<◌, ◌≤◌, List, length, Option, Some, IsTrue}
use Rattle.tsd_model.specs.declared.geometry.Geometry.{Geometry}
use Rattle.tsd_model.specs.Geometry.{IsLawful}
use Rattle.tsd_model.specs.Pairs.{holds, is_rising}
use Rattle.pointer_table.specs.Slots.{slot_at, pairs_in}

pub record Table : Type 0 where
  pub geometry : Geometry
  pub slots : List (Option (ℕ × ℕ))

-- the pairs that it holds, ascending
abbrev pub pairs : Table → List (ℕ × ℕ)
pairs t = pairs_in t.slots

-- the pair may be held: its source is a block, and its target is a block that isn't primary
abbrev pub MayBeHeld : Geometry → (ℕ × ℕ) → Type 0
MayBeHeld g e = (e.0 < g.blocks) × (g.primaries ≤ e.1) × (e.1 < g.blocks)

-- There are as many slots as the geometry says. No slot is bad, and no pair stands in two.
pub record IsTable (t : Table) : Type 0 where
  pub lawful : IsLawful t.geometry
  pub count : length t.slots ≡ t.geometry.slots
  pub ends : (k : ℕ) (e : ℕ × ℕ) → slot_at t.slots k ≡ Some e → MayBeHeld t.geometry e
  pub apart : (i j : ℕ) (e : ℕ × ℕ) → slot_at t.slots i ≡ Some e → slot_at t.slots j ≡ Some e → i ≡ j

-- what follows of the pairs of a table
pub record ArePairs (t : Table) : Type 0 where
  pub rising : IsTrue (is_rising (pairs t))
  pub ends : (a b : ℕ) → IsTrue (holds (pairs t) a b) → MayBeHeld t.geometry (a, b)
  pub room : length (pairs t) ≤ t.geometry.slots
