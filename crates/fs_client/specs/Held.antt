-- Whether a block points to what it names.
use Rattle.std.specs.Prelude.{ℕ, Bool, ◌&&◌, List}
use Rattle.std.specs.List.{list_all}
use Rattle.tsd_model.specs.World.{World, are_apart}
use Rattle.tsd_model.specs.Pairs.{holds}

-- each of these blocks is pointed to from there, and none stands twice
abbrev pub are_held : World → ℕ → List ℕ → Bool
are_held w b names = are_apart names && list_all (holds w.pairs b) names
