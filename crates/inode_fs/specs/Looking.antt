-- What a look at a tree of inodes comes to, block by block, as the call goes.
use Rattle.std.specs.Prelude.{◌≡◌, ℕ, zero, suc, ◌≤◌, ◌==◌, Bool, true, false, cond, ◌&&◌, ◌||◌, List, [], ◌∷◌, length}
use Rattle.std.specs.Prelude.{Option, Some, None, IsTrue, is_some}
use Rattle.std.specs.Option.{option_and_then}
use Rattle.tsd_model.specs.World.{World, has_number}
use Rattle.tsd_model.specs.Pairs.{holds}
use Rattle.fs_trees.specs.Names.{path_max}
use Rattle.fs_trees.specs.Tree.{is_there}
use Rattle.fs_trees.specs.Fields.{only_if}
use Rattle.fs_trees.specs.Inode.{Inode, directory, regular, inode_in}
use Rattle.fs_trees.specs.InodeTree.{inode_at, inode_tree}
use Rattle.fs_trees.specs.Layouts.{named_at}
use Rattle.fs_trees.specs.declared.ask.ShellKind.TheVariants as kind
use Rattle.inode_layout.specs.Block.{inode_of}
use Rattle.inode_layout.specs.Said.{blocks_said, is_directory}
use Rattle.inode_walks.specs.declared.finding.Found.{Found}
use Rattle.fs_laws.specs.Ways.{HoldsWrite}
use Rattle.fs_port.specs.View.{DiskView, state_of}
use Rattle.fs_client.specs.declared.client.Client.{Client}
use Rattle.fs_client.specs.Held.{are_held}
use Rattle.inode_fs.specs.Marked.{is_inode, is_data_block, has_leftovers}
use Rattle.inode_fs.specs.declared.marks.Marks.{Marks}
use Rattle.inode_fs.specs.declared.looking.Seen.{Seen}

-- ---- one inode

abbrev pub if_held : World → ℕ → Inode → Option Inode
if_held w b i = only_if (are_held w b (blocks_said i)) (λ _. Some i)

-- the inode in a block, where it points to all that it names, and names none twice
abbrev pub held_at : World → ℕ → Option Inode
held_at w b = option_and_then (if_held w b) (inode_at w b)

abbrev pub blocks_in : Option Inode → List ℕ
blocks_in None = []
blocks_in (Some i) = blocks_said i

-- what the inode in a block names
abbrev pub names_at : World → ℕ → List ℕ
names_at w b = blocks_in (inode_at w b)

-- ---- several

-- the inodes and the blocks of bytes that a look has come to
pub record Come : Type 0 where
  pub inodes : List ℕ
  pub bytes : List ℕ

abbrev pub is_come : Come → ℕ → Bool
is_come s b = has_number s.inodes b || has_number s.bytes b

abbrev pub with_inode : Come → ℕ → Come
with_inode s b = record { inodes = b ∷ s.inodes; bytes = s.bytes }

abbrev pub with_data : Come → ℕ → Come
with_data s b = record { inodes = s.inodes; bytes = b ∷ s.bytes }

-- a file's blocks, none of which is an inode so far
abbrev pub come_data : List ℕ → Come → Option Come
come_data [] s = Some s
come_data (b ∷ bs) s = cond (has_number s.inodes b) None (come_data bs (with_data s b))

-- one block after the other
abbrev pub come_each : (ℕ → Come → Option Come) → List ℕ → Come → Option Come
come_each visit [] s = Some s
come_each visit (b ∷ bs) s = option_and_then (come_each visit bs) (visit b s)

abbrev pub come_on : (ℕ → Come → Option Come) → Inode → Come → Option Come
come_on visit (directory es) s = come_each visit (blocks_said (directory es)) s
come_on visit (regular size blocks) s = come_data blocks s

abbrev pub come_by : (ℕ → Come → Option Come) → ℕ → Option Inode → Come → Option Come
come_by visit b None s = None
come_by visit b (Some i) s = come_on visit i (with_inode s b)

-- A look from a block on, with so many levels: what it has come to then, where all is right.
abbrev pub come_from : World → ℕ → ℕ → Come → Option Come
come_from w zero b s = None
come_from w (suc levels) b s = cond (is_come s b) None (come_by (come_from w levels) b (held_at w b) s)

abbrev pub is_dir_in : Option Inode → Bool
is_dir_in None = false
is_dir_in (Some i) = is_directory i

-- only what is an entry may be a file
abbrev pub come_as : Bool → World → ℕ → ℕ → Come → Option Come
come_as true w levels b s = come_from w levels b s
come_as false w levels b s = cond (is_dir_in (inode_at w b)) (come_from w levels b s) None

abbrev pub nothing_yet : Come
nothing_yet = record { inodes = []; bytes = [] }

-- from the root on, which is a directory
abbrev pub come_under : World → ℕ → Option Come
come_under w root = come_as false w (suc path_max) root nothing_yet

-- ---- marked

-- a block of bytes is marked
pub record NamesData (old new : Marks) (b : ℕ) : Type 0 where
  pub inodes : (a : ℕ) → is_inode new a ≡ is_inode old a
  pub bytes : (a : ℕ) → is_data_block new a ≡ ((b == a) || is_data_block old a)

-- these bytes of a block are read as this inode, or as none
abbrev pub IsReadAt : List ℕ → ℕ → Option Found → Type 0
IsReadAt bytes b None = 16 ≤ length bytes → inode_in (length bytes) bytes ≡ None
IsReadAt bytes b (Some found) = (found.block ≡ b)
    × (16 ≤ length bytes → inode_in (length bytes) bytes ≡ Some (inode_of found.inode))

-- what is marked is what a look has come to
pub record IsMarkedAs (m : Marks) (s : Come) : Type 0 where
  pub inodes : (b : ℕ) → is_inode m b ≡ has_number s.inodes b
  pub bytes : (b : ℕ) → is_data_block m b ≡ has_number s.bytes b

-- the result tells whether all is right, and then the marks tell what it has come to
abbrev pub Comes : Marks → Option Come → Bool → Type 0
Comes m None result = result ≡ false
Comes m (Some s) result = (result ≡ true) × IsMarkedAs m s

-- Of each marked block it is marked whether its pairs lead to more than it names; each inode may be written.
pub record Noted (c : Client) (v : DiskView) (m : Marks) : Type 0 where
  pub ways : (b : ℕ) → IsTrue (is_inode m b) → HoldsWrite (state_of v) c.session b
  pub inodes : (b d : ℕ) → IsTrue (is_inode m b) → has_leftovers m b ≡ false → IsTrue (holds v.world.pairs b d)
      → IsTrue (has_number (names_at v.world b) d)
  pub bytes : (b d : ℕ) → IsTrue (is_data_block m b) → has_leftovers m b ≡ false → holds v.world.pairs b d ≡ false

-- an inode was read that is right by itself
pub record IsInodeSeen (c : Client) (old new : DiskView) (b : ℕ) (seen : Seen) : Type 0 where
  pub is : held_at old.world b ≡ Some (inode_of seen.found.inode)
  pub held : HoldsWrite (state_of new) c.session b
  pub others : seen.has_others ≡ false → (d : ℕ) → IsTrue (holds old.world.pairs b d)
      → IsTrue (has_number (names_at old.world b) d)

abbrev pub IsSeenAt : Client → DiskView → DiskView → ℕ → Option Seen → Type 0
IsSeenAt c old new b None = held_at old.world b ≡ None
IsSeenAt c old new b (Some seen) = IsInodeSeen c old new b seen × (seen.found.block ≡ b)

-- ---- all

-- Exactly what the tree under a root names is marked, and inodes as such.
pub record MarksTree (w : World) (root : ℕ) (m : Marks) : Type 0 where
  pub there : IsTrue (is_there (inode_tree w root))
  pub blocks : (b : ℕ) → has_number (named_at kind.Inode w root).blocks b ≡ (is_inode m b || is_data_block m b)
  pub pairs : (a b : ℕ) → holds (named_at kind.Inode w root).pairs a b ≡ (is_inode m a && has_number (names_at w a) b)
  pub targets : (a b : ℕ) → IsTrue (holds (named_at kind.Inode w root).pairs a b)
      → IsTrue (has_number (named_at kind.Inode w root).blocks b)
  pub inodes : (b : ℕ) → IsTrue (is_inode m b) → IsTrue (is_some (inode_at w b))

-- the result tells whether there is a tree, and then it is marked
abbrev pub TellsTree : World → ℕ → Marks → Bool → Type 0
TellsTree w root m false = is_there (inode_tree w root) ≡ false
TellsTree w root m true = MarksTree w root m
