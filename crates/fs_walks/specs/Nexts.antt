-- Names in order.
use Rattle.std.specs.Prelude.{List, [], ◌∷◌, Some, None}
use Rattle.fs_trees.specs.Names.{Name}
use Rattle.fs_trees.specs.Answer.{Answer}
use Rattle.fs_port.specs.Files.{TellsNext}

-- by what is answered, each of these names is the next one after the one before it
abbrev pub AreBehind : Name → List Name → Answer → Type 0
AreBehind after [] answer = Unit {0}
AreBehind after (n ∷ ns) answer = TellsNext after (Some n) answer × AreBehind n ns answer

-- some of the names that come next after one, or none where none comes
abbrev pub TellsNames : Name → List Name → Answer → Type 0
TellsNames after [] answer = TellsNext after None answer
TellsNames after (n ∷ ns) answer = AreBehind after (n ∷ ns) answer
