-- The slots of a fresh disk.
use Rattle.std.specs.Prelude.{ℕ, List, replicate, Option, None}
use Rattle.tsd_model.specs.declared.geometry.Geometry.{Geometry}

-- all of them are empty
abbrev pub fresh_slots : Geometry → List (Option (ℕ × ℕ))
fresh_slots g = replicate g.slots None
