-- The blocks of a fresh disk.
use Rattle.std.specs.Prelude.{◌-◌, Bool, true, false, List, ◌++◌, replicate}
use Rattle.tsd_model.specs.declared.geometry.Geometry.{Geometry}

-- the primary blocks are live, and all others are free
abbrev pub fresh_live : Geometry → List Bool
fresh_live g = replicate g.primaries true ++ replicate (g.blocks - g.primaries) false
