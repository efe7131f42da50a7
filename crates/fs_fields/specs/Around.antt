-- The entries of a directory before a name, and those behind it; they ascend.
use Rattle.std.specs.Prelude.{ℕ, ◌+◌, cond, List, [], ◌∷◌, drop, length}
use Rattle.fs_trees.specs.Names.{Name, name_lt}
use Rattle.fs_trees.specs.Fields.{Entry}

-- those below the name
abbrev pub listed_before : Name → List Entry → List Entry
listed_before n [] = []
listed_before n (f ∷ fs) = cond (name_lt f.name n) (f ∷ listed_before n fs) []

-- those behind them, without one of the name itself
abbrev pub listed_behind : Name → List Entry → List Entry
listed_behind n [] = []
listed_behind n (f ∷ fs) = cond (name_lt f.name n) (listed_behind n fs) (cond (name_lt n f.name) (f ∷ fs) fs)

-- how many stand before it
abbrev pub place_in : Name → List Entry → ℕ
place_in n es = length (listed_before n es)

-- how many of these, which don't stand before the name, are the name's: 1, or 0
abbrev pub skipped : Name → List Entry → ℕ
skipped n [] = 0
skipped n (f ∷ fs) = cond (name_lt n f.name) 0 1

-- where those behind begin, where so many stand before the name
abbrev pub behind_in : Name → ℕ → List Entry → ℕ
behind_in n position es = position + skipped n (drop position es)
