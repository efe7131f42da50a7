-- The things of an image stand apart, and inside it.
use Rattle.std.proofs.Common.{◌≢◌, ℕ, ◌+◌, ◌*◌, ◌<◌, ◌≤◌, inl, inr, arith, rules}
use Rattle.std.proofs.Math.Nat.{mul-le-mul_left}
use Rattle.std.proofs.lemmas.Bool.{cases_lt}
use Rattle.std.proofs.lemmas.Grind.{common_steps}
use Rattle.tsd_model.specs.declared.geometry.Geometry.{Geometry}
use Rattle.tsd_model.specs.Geometry.{IsLawful}
use Rattle.image_layout.specs.Offsets.{data_sector}
use Rattle.image_layout.specs.Things.{Thing, IsOn, IsInside, DontOverlap}

-- all of a thing is on its image
pub things_inside : (version : ℕ) (g : Geometry) (thing : Thing) → IsLawful g → IsOn g thing → IsInside version g thing
things_inside = search rules

-- no two things share a bit
pub things_apart : (version : ℕ) (g : Geometry) (one other : Thing) → IsLawful g → IsOn g one → IsOn g other → one ≢ other → DontOverlap version g one other
things_apart version g one other lawful here there apart = grind (arith, common_steps)

-- so do data sectors of different blocks, whatever the geometry
pub parts_apart : (g : Geometry) (a b i j : ℕ) → i < g.sectors → j < g.sectors → a ≢ b → data_sector g a i ≢ data_sector g b j
parts_apart g a b i j inside within apart same = elim (cases_lt a b) [
  | inl h ↦ let more : g.sectors * (a + 1) ≤ g.sectors * b = mul-le-mul_left g.sectors (omega arith) in omega (arith, more)
  | inr h ↦ let more : g.sectors * (b + 1) ≤ g.sectors * a = mul-le-mul_left g.sectors (omega arith) in omega (arith, more)
]
