-- The table of counts.
use Rattle.std.specs.Prelude.{◌≡◌, ℕ, List, length}
use Rattle.tsd_model.specs.declared.geometry.Geometry.{Geometry}
use Rattle.tsd_model.specs.Geometry.{IsLawful}

-- the size of the disk, and at index b the count of block b
pub record Table : Type 0 where
  pub geometry : Geometry
  pub counts : List ℕ

-- what a table's value must be: the size is lawful, and each block has a count
pub record IsTable (t : Table) : Type 0 where
  pub lawful : IsLawful t.geometry
  pub each : length t.counts ≡ t.geometry.blocks
