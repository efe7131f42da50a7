-- What a call of a file system does.
use Rattle.std.specs.Prelude.{◌≡◌, ◌≢◌, ℕ, ◌+◌, ◌<◌, ◌≤◌, ◌⊎◌, Bool, true, false, cond, List, length, take, drop, find}
use Rattle.std.specs.Prelude.{slice_get, Option, Result, IfOk, IfErr, OnOk, IsTrue}
use Rattle.tsd_model.specs.World.{World, contents, is_live, is_free, free_count, has_number}
use Rattle.tsd_model.specs.Pairs.{holds}
use Rattle.tsd_model.specs.Records.{kept_of}
use Rattle.tsd_model.specs.Sessions.{sessions_max, is_open}
use Rattle.tsd_model.specs.Attained.{record_level}
use Rattle.tsd_model.specs.Valid.{IsValid}
use Rattle.tsd_model.specs.declared.caps.Cap.{Cap}
use Rattle.tsd_model.specs.declared.requests.Level.TheVariants as level
use Rattle.fs_trees.specs.Names.{Name, name_lt}
use Rattle.fs_trees.specs.Tree.{Tree, nothing, is_there}
use Rattle.fs_trees.specs.Answer.{Answer, bytes, listed, refused}
use Rattle.fs_trees.specs.Step.{AskOutcome}
use Rattle.fs_trees.specs.Needs.{need_of}
use Rattle.fs_trees.specs.Refusals.{RoomNeed}
use Rattle.fs_trees.specs.Outside.{OthersStay}
use Rattle.fs_trees.specs.Layouts.{tree_at, named_at, IsTidy, step_in}
use Rattle.fs_trees.specs.declared.ask.ShellAsk.{ShellAsk}
use Rattle.fs_trees.specs.declared.ask.ShellKind.{ShellKind}
use Rattle.fs_trees.specs.declared.ask.ShellKind.TheVariants.{Inode, Chain}
use Rattle.fs_trees.specs.declared.refusal.FsRefusal.{FsRefusal}
use Rattle.fs_trees.specs.declared.refusal.FsRefusal.TheVariants as no
use Rattle.fs_port.specs.View.{DiskView}

-- A file system: its layout, the block that its tree hangs from, what it shows there, as which session it asks, and
-- whether a tree is mounted.
pub record FilesView : Type 0 where
  pub kind : ShellKind
  pub root : ℕ
  pub cap : Cap
  pub session : ℕ
  pub mounted : Bool

-- its layout has directories other than `/`
abbrev pub has_dirs : ShellKind → Bool
has_dirs Inode = true
has_dirs Chain = false

-- ---- before a call

-- the disk isn't spent, the session is open there, the root is primary, and what is shown attains write at it
pub record IsClientReady (f : FilesView) (v : DiskView) : Type 0 where
  pub unspent : v.spent ≡ false
  pub number : f.session ≤ sessions_max
  pub begun : IsTrue (is_open v.sessions f.session)
  pub primary : f.root < v.geometry.primaries
  pub attains : record_level (slice_get v.records f.root) (kept_of v.version f.cap) ≡ level.Write

-- where a tree is mounted, it is there
abbrev pub HasTree : FilesView → DiskView → Type 0
HasTree f v = f.mounted ≡ true → IsTrue (is_there (tree_at f.kind v.world f.root))

-- ---- what a call answers

-- the tree of a file system on a disk
abbrev pub tree_on : FilesView → DiskView → Tree
tree_on f v = cond f.mounted (tree_at f.kind v.world f.root) nothing

-- the step of an ask there
abbrev pub step_on : FilesView → DiskView → ShellAsk → AskOutcome
step_on f v a = step_in f.kind v.world f.root (tree_on f v) a

-- the blocks and pairs that it needs there
abbrev pub need_on : FilesView → DiskView → ShellAsk → RoomNeed
need_on f v a = need_of f.kind v.world f.root (tree_on f v) a

-- The answer is that of the step, and so is the tree afterwards. A refusal leaves the disk as it was, also where
-- nothing is mounted. Nothing is said of Device.
pub record Answers {X : Type 0} (f : FilesView) (old new : DiskView) (a : ShellAsk) (result : Result X FsRefusal)
    (tells : X → Answer → Type 0) : Type 0 where
  pub ok : IfOk result (λ x. tells x (step_on f old a).answer
      × (tree_at f.kind new.world f.root ≡ (step_on f old a).tree))
  pub err : IfErr result (λ e. e ≢ no.Device → ((step_on f old a).answer ≡ refused e) × (new.world ≡ old.world))

-- ---- what a call leaves

-- after every answer but Device
abbrev pub OnAnswer : {X : Type 0} → Result X FsRefusal → Type 0 → Type 0
OnAnswer result P = OnOk result P × IfErr result (λ e. e ≢ no.Device → P)

-- The world afterwards: tidy if it was, what the root didn't reach is as it was, and what was free is the tree's.
pub record LeavesTidyWorld (f : FilesView) (old new : DiskView) : Type 0 where
  pub unspent : new.spent ≡ false
  pub tidy : IsTidy f.kind old.world f.root → IsTidy f.kind new.world f.root
  pub others : OthersStay f.root old.world new.world
  pub taken : (b : ℕ) → IsTrue (is_free old.world b) → IsTrue (is_live new.world b)
      → IsTrue (has_number (named_at f.kind new.world f.root).blocks b)

-- Room is kept to: no more blocks are taken than this, and no more pairs are added.
pub record KeepsRoom (need : RoomNeed) (w next : World) : Type 0 where
  pub blocks : free_count w ≤ free_count next + need.blocks
  pub pairs : length next.pairs ≤ length w.pairs + need.pairs

-- the tree of a step, or the tree that was there before where the step refuses
abbrev pub unless_refused : Answer → Tree → Tree → Tree
unless_refused (refused r) after before = before
unless_refused answer after before = after

-- the tree under the root once an ask is answered
abbrev pub tree_after : FilesView → DiskView → ShellAsk → Tree
tree_after f old a = unless_refused (step_on f old a).answer (step_on f old a).tree (tree_at f.kind old.world f.root)

-- what every crash within a call leaves: a valid world of the same size, and what the root didn't reach as it was
pub record IsLeft (f : FilesView) (old : DiskView) (w : World) : Type 0 where
  pub valid : IsValid w
  pub geometry : w.geometry ≡ old.world.geometry
  pub others : OthersStay f.root old.world w

-- what a crash within the call leaves: the tree before or the tree after
abbrev pub IsEitherTree : FilesView → DiskView → ShellAsk → World → Type 0
IsEitherTree f old a w =
    ((tree_at f.kind w f.root ≡ tree_at f.kind old.world f.root) ⊎ (tree_at f.kind w f.root ≡ tree_after f old a))
    × IsLeft f old w

-- Only pairs are deleted, with what they held: what is live was live with the same bytes, and what the tree names is at
-- the same blocks. Nothing is deleted where no tree is there.
pub record OnlyDeletes (f : FilesView) (old new : World) : Type 0 where
  pub pairs : (a b : ℕ) → IsTrue (holds new.pairs a b) → IsTrue (holds old.pairs a b)
  pub bytes : (b : ℕ) → IsTrue (is_live new b) → contents new b ≡ contents old b
  pub named : named_at f.kind new f.root ≡ named_at f.kind old f.root
  pub none : is_there (tree_at f.kind old f.root) ≡ false → new ≡ old

-- what a crash within mounting leaves: the tree as it was, and no more than was there
abbrev pub IsTreeAlone : FilesView → DiskView → World → Type 0
IsTreeAlone f old w =
    (tree_at f.kind w f.root ≡ tree_at f.kind old.world f.root) × IsLeft f old w × OnlyDeletes f old.world w

-- ---- making and mounting

abbrev pub mounted_now : FilesView → FilesView
mounted_now f = record f { mounted = true }

abbrev pub unmounted_now : FilesView → FilesView
unmounted_now f = record f { mounted = false }

-- ---- what a reading call tells

abbrev pub TellsSize : ℕ → Answer → Type 0
TellsSize n answer = (x : List ℕ) × (answer ≡ bytes x) × (n ≡ length x)

-- the bytes from an offset on, at most 4,096
abbrev pub TellsPart : ℕ → List ℕ → Answer → Type 0
TellsPart start part answer = (x : List ℕ) × (answer ≡ bytes x) × (part ≡ take 4096 (drop start x))

-- the first of ascending names that stands above one
abbrev pub above : Name → List Name → Option Name
above n ns = find (name_lt n) ns

abbrev pub TellsNext : Name → Option Name → Answer → Type 0
TellsNext after next answer = (ns : List Name) × (answer ≡ listed ns) × (next ≡ above after ns)
