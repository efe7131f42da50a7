-- The counts of a fresh disk.
use Rattle.std.specs.Prelude.{ℕ, List, replicate}
use Rattle.tsd_model.specs.declared.geometry.Geometry.{Geometry}

-- no pointer leads to any block
abbrev pub fresh_counts : Geometry → List ℕ
fresh_counts g = replicate g.blocks 0
