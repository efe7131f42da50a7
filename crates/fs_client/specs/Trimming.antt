-- Pairs that contents don't name are deleted.
use Rattle.std.specs.Prelude.{◌≡◌, ℕ, ◌⊎◌, ◌==◌, false, List, [], ◌∷◌, Result, IfErr, OnOk, IsTrue}
use Rattle.tsd_model.specs.World.{World, contents, is_live, has_number}
use Rattle.tsd_model.specs.Pairs.{holds}
use Rattle.tsd_model.specs.Valid.{IsValid}
use Rattle.fs_trees.specs.Layouts.{Named}
use Rattle.fs_trees.specs.Outside.{OthersStay}
use Rattle.fs_trees.specs.declared.refusal.FsRefusal.{FsRefusal}
use Rattle.fs_trees.specs.declared.refusal.FsRefusal.TheVariants as no
use Rattle.fs_laws.specs.Stays.{IsUnder, Keeps}
use Rattle.fs_laws.specs.Ways.{HoldsWrite}
use Rattle.fs_port.specs.View.{DiskView, state_of}
use Rattle.fs_port.specs.Calls.{IsValidNow}
use Rattle.fs_client.specs.declared.client.Client.{Client}
use Rattle.fs_client.specs.May.{MayWrite}
use Rattle.fs_port.specs.Runs.{Runs}

-- what is named where nothing but the root is
abbrev pub root_alone : ℕ → Named
root_alone root = record { blocks = root ∷ []; pairs = [] }

-- the way to a named block: it is the root, or what is named to point to it may be written
abbrev pub IsWay : Client → Named → DiskView → ℕ → Type 0
IsWay c n v a = (a ≡ c.root) ⊎ ((z : ℕ) × IsTrue (holds n.pairs z a) × HoldsWrite (state_of v) c.session z)

-- A named block under the client's root that it may write, and of which these are the names: all other pairs out of it
-- may go.
pub record MayTrim (c : Client) (n : Named) (v : DiskView) (a : ℕ) (names : List ℕ) : Type 0 where
  pub under : IsUnder v.world c.root n
  pub named : IsTrue (has_number n.blocks a)
  pub all : (b : ℕ) → IsTrue (holds n.pairs a b) → IsTrue (has_number names b)
  pub way : IsWay c n v a
  pub may : MayWrite c v a

-- before the pairs out of it that it doesn't name are deleted, on a disk that may tell its world
pub record MayDelete (told : Type 0) (c : Client) (n : Named) (v : DiskView) (a : ℕ) (names : List ℕ) : Type 0 where
  pub unspent : v.spent ≡ false
  pub valid : told → IsValidNow v
  pub trim : told → MayTrim c n v a names

-- what is named is kept, what the root doesn't reach stays, and nothing is added
pub record Trimmed (c : Client) (n : Named) (old new : DiskView) : Type 0 where
  pub valid : IsValidNow new
  pub version : new.world.version ≡ old.world.version
  pub keeps : Keeps old.world new.world n
  pub others : OthersStay c.root old.world new.world
  pub fewer : (a b : ℕ) → IsTrue (holds new.world.pairs a b) → IsTrue (holds old.world.pairs a b)
  pub bytes : (b : ℕ) → IsTrue (is_live new.world b) → contents new.world b ≡ contents old.world b
  pub ways : (s b : ℕ) → HoldsWrite (state_of old) s b → IsTrue (is_live new.world b) → HoldsWrite (state_of new) s b

-- what a crash meanwhile leaves
pub record IsTrim (c : Client) (n : Named) (old : DiskView) (w : World) : Type 0 where
  pub valid : IsValid w
  pub keeps : Keeps old.world w n
  pub others : OthersStay c.root old.world w
  pub fewer : (a b : ℕ) → IsTrue (holds w.pairs a b) → IsTrue (holds old.world.pairs a b)
  pub bytes : (b : ℕ) → IsTrue (is_live w b) → contents w b ≡ contents old.world b

-- Deletions on a disk that may tell its world: what holds whatever came of them.
pub record Trims {X : Type 0} (told : Type 0) (c : Client) (n : Named) (old new : DiskView)
    (result : Result X FsRefusal) : Type 0 where
  pub trimmed : told → OnOk result (Trimmed c n old new)
  pub only : told → IfErr result (λ e. e ≡ no.Device)
  pub runs : Runs told old new (IsTrim c n old) result

-- ---- of one block

-- other pairs from the block are held still
abbrev pub OthersHeld : World → World → ℕ → ℕ → Type 0
OthersHeld w next a t = (b : ℕ) → IsTrue (holds w.pairs a b) → (t == b) ≡ false → IsTrue (holds next.pairs a b)

-- pairs lead there from the block
abbrev pub AreLedTo : World → ℕ → List ℕ → Type 0
AreLedTo w a targets = (b : ℕ) → IsTrue (has_number targets b) → IsTrue (holds w.pairs a b)

-- no pair leads to those of them that aren't named
abbrev pub AreGone : World → ℕ → List ℕ → List ℕ → Type 0
AreGone w a targets names = (b : ℕ) → IsTrue (has_number targets b) → has_number names b ≡ false
    → holds w.pairs a b ≡ false

-- pairs from the block lead to what it names alone
abbrev pub OnlyNamed : World → ℕ → List ℕ → Type 0
OnlyNamed w a names = (b : ℕ) → IsTrue (holds w.pairs a b) → IsTrue (has_number names b)

-- ---- of all

-- out of a block only named pairs lead, if it is a named block
abbrev pub IsClean : Named → World → ℕ → Type 0
IsClean n w a = IsTrue (has_number n.blocks a) → (b : ℕ) → IsTrue (holds w.pairs a b) → IsTrue (holds n.pairs a b)
