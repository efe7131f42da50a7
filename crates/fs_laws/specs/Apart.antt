-- What hangs from one root stays while another is written.
use Rattle.std.specs.Prelude.{◌≡◌, ℕ, ◌<◌, false, IsTrue}
use Rattle.tsd_model.specs.World.{World}
use Rattle.tsd_model.specs.Valid.{IsValid}
use Rattle.fs_trees.specs.Layouts.{tree_at, named_at, IsTidy}
use Rattle.fs_trees.specs.Outside.{is_under, OthersStay}
use Rattle.fs_trees.specs.Tree.{is_there}
use Rattle.fs_trees.specs.declared.ask.ShellKind.{ShellKind}
use Rattle.fs_laws.specs.Reading.{SameTree}
use Rattle.fs_laws.specs.Stays.{Keeps}

-- no block is reached from both roots
abbrev pub AreApart : World → ℕ → ℕ → Type 0
AreApart w root other = (b : ℕ) → IsTrue (is_under w root b) → is_under w other b ≡ false

-- The root reaches the same blocks in both worlds, and still none that the other reaches; its tree is the same, at the
-- same blocks and with the same bytes.
pub record StaysApart (kind : ShellKind) (root other : ℕ) (w next : World) : Type 0 where
  pub reach : (b : ℕ) → is_under next root b ≡ is_under w root b
  pub apart : AreApart next root other
  pub keeps : Keeps w next (named_at kind w root)
  pub same : SameTree kind root w next
  pub tidy : IsTidy kind w root → IsTidy kind next root

-- So it is where no block is reached from both, and what the other doesn't reach stays.
abbrev pub ApartStays : Type 0
ApartStays =
    (kind : ShellKind) (w next : World) (root other : ℕ)
    → IsValid w → IsValid next → next.geometry ≡ w.geometry → root < w.geometry.primaries
    → IsTrue (is_there (tree_at kind w root)) → AreApart w root other → OthersStay other w next
    → StaysApart kind root other w next
