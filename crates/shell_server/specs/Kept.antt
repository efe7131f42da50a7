-- What the server keeps from one ask to the next.
use Rattle.std.proofs.Common.{◌≡◌, true, ◌<◌, ◌≤◌, IsTrue, refl}
use Rattle.std.specs.Prelude.{slice_get}
use Rattle.tsd_model.specs.World.{World}
use Rattle.tsd_model.specs.Step.{State}
use Rattle.tsd_model.specs.Records.{kept_of}
use Rattle.tsd_model.specs.Sessions.{sessions_max, is_open, Fits}
use Rattle.tsd_model.specs.Attained.{record_level}
use Rattle.tsd_model.specs.declared.requests.Level.TheVariants as level
use Rattle.image_device.specs.View.{View}
use Rattle.image_layout.specs.Image.{Image}
use Rattle.image_world.specs.Stands.{world_of}
use Rattle.fs_trees.specs.Tree.{is_there}
use Rattle.fs_port.specs.Files.{FilesView}
use Rattle.gathered_tasks.specs.Rooms.{IsFree}
use Rattle.gathered_tasks.specs.declared.room.AskRoom.{AskRoom}
use Rattle.tsd_core.specs.Core.{Core, FitsReads, IsCoreReady, told_world, sessions_of}
use Rattle.shell_server.specs.Shell.{ShellState, IsKeptSince, IsLeftOf, RestsIn, resting, tree_under}

-- The session is open at the core, the root is primary, and what is shown attains write at it.
pub record IsClient (f : FilesView) (c : Core) : Type 0 where
  pub number : f.session ≤ sessions_max
  pub begun : IsTrue (is_open (sessions_of c) f.session)
  pub primary : f.root < (told_world c).geometry.primaries
  pub attains : record_level (slice_get (told_world c).records f.root) (kept_of (told_world c).version f.cap)
      ≡ level.Write

-- the core and the file system may be used
pub record AreReady (f : FilesView) (c : Core) : Type 0 where
  pub core : IsCoreReady c
  pub client : IsClient f c

-- the core and the file system may be used, and the room of asks is free
pub record IsServerReady (f : FilesView) (c : Core) (a : AskRoom) : Type 0 where
  pub disk : AreReady f c
  pub room : IsFree a

-- the state, where the device reads so
abbrev pub shell_state : FilesView → Image → ShellState
shell_state f x = resting f (world_of x)

-- the state of the disk of a core at its device
abbrev pub disk_state : Core → View → State
disk_state c v = record { world = world_of v.reads; sessions = sessions_of c }

-- The core has its tables of an image of a world that is kept, and where a tree is mounted, it is there.
pub record FitsShell (start : World) (f : FilesView) (c : Core) (x : Image) : Type 0 where
  pub core : FitsReads c x
  pub kept : IsKeptSince start (shell_state f x)
  pub fits : Fits (world_of x) (sessions_of c)
  pub there : f.mounted ≡ true → IsTrue (is_there (tree_under f (world_of x)))

pub shell_stands : (start : World) (f : FilesView) (c : Core) (x : Image) → FitsShell start f c x
    → IsLeftOf start (shell_state f x) x
shell_stands start f c x keeps = record {
  world = world_of x;
  stands = record { good = keeps.core.good; world = refl };
  valid = keeps.kept.valid;
  geometry = keeps.kept.geometry;
  tree = refl;
  others = keeps.kept.others;
  still = λ none. refl;
}

pub shell_rests : (start : World) (f : FilesView) (c : Core) (x : Image) → FitsShell start f c x
    → RestsIn start (shell_state f x) x
shell_rests start f c x keeps = record {
  at_rest = refl;
  stands = record { good = keeps.core.good; world = refl };
  kept = keeps.kept;
}
