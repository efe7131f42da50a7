-- A run over what a crash left of another.
use Rattle.std.specs.Prelude.{◌≡◌, ◌⊎◌, ℕ, true, List}
use Rattle.tsd_model.specs.World.{World}
use Rattle.image_layout.specs.Image.{Image}
use Rattle.fs_trees.specs.Tree.{is_there}
use Rattle.fs_trees.specs.Layouts.{IsTidy}
use Rattle.fs_trees.specs.Outside.{OthersStay}
use Rattle.fs_port.specs.Files.{FilesView}
use Rattle.shell_text.specs.declared.file_ask.FileAsk.{FileAsk}
use Rattle.serving.specs.Runs.{IsBroken, IsCutOff}
use Rattle.serving.specs.Service.{IsNotYetAfter}
use Rattle.image_world.specs.Stands.{world_of}
use Rattle.shell_server.specs.Shell.{ShellState, IsLeftOf, shell_service, tree_of, tree_under}
use Rattle.image_shell.specs.Served.{IsFirstState}

-- The tree of a state of the one run is the tree that the other begins with: mounted where it is there, in a tidy world
-- of the same size, and with what the root didn't reach at the start of the first run as it was then.
pub record IsFoundAgain (start : World) (s second : ShellState) : Type 0 where
  pub tree : tree_under second.files second.world ≡ tree_of s
  pub mounted : second.files.mounted ≡ is_there (tree_of s)
  pub tidy : second.files.mounted ≡ true → IsTidy second.files.kind second.world second.files.root
  pub geometry : second.world.geometry ≡ start.geometry
  pub others : OthersStay s.files.root start second.world

-- A crash of a run from this world left this image, with these bytes sent, in one of the two cases of IsLeftInRun. A
-- run over that image, of the same layout and root, begins with the tree after as many asks as whole answers were sent;
-- where an answer was under way, with the tree of the very state in which its ask came, or with the one that it tells.
abbrev pub WhatACrashLeftIsMounted : Type 0
WhatACrashLeftIsMounted =
    (f : FilesView) (start : World) (first second : ShellState) (before : List ℕ) (asked : List FileAsk) (x : Image)
    (sent : List ℕ)
    → IsFirstState f start first → IsFirstState f (world_of x) second
    → ((b : IsBroken (shell_service start) first before asked sent) → IsLeftOf start b.state x
    → IsFoundAgain start b.state second)
    × ((c : IsCutOff (shell_service start) first before asked sent)
    → IsNotYetAfter (shell_service start) c.state c.request x ⊎ IsLeftOf start c.next x
    → IsFoundAgain start c.state second ⊎ IsFoundAgain start c.next second)
