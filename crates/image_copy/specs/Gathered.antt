-- What a copy does on the disk in memory, before it is committed.
use Rattle.std.specs.Prelude.{◌≡◌, true, ℕ, List, [], Result, OnOk, is_some}
use Rattle.tsd_model.specs.Sessions.{Fits}
use Rattle.tsd_model.specs.Valid.{IsValid}
use Rattle.tsd_model.specs.declared.requests.Level.TheVariants as level
use Rattle.tsd_model.specs.declared.requests.PlaceKind.{PlaceKind}
use Rattle.image_device.specs.View.{View}
use Rattle.tsd_words.specs.declared.status.Status.{Status}
use Rattle.tsd_core.specs.Core.{Core, sessions_of, told_world}
use Rattle.fs_laws.specs.Apart.{AreApart}
use Rattle.fs_port.specs.Files.{FilesView}
use Rattle.gathered_tasks.specs.Blocks.{There, blocks_view, held_world}
use Rattle.gathered_tasks.specs.Held.{IsInMemory, IsReadyInMemory}
use Rattle.gathered_tasks.specs.Rooms.{gathered}
use Rattle.gathered_tasks.specs.declared.asked.Before.{Before}
use Rattle.gathered_tasks.specs.declared.room.AskRoom.{AskRoom}
use Rattle.image_shell.specs.Served.{level_at}
use Rattle.image_copy.specs.Copied.{source_session, target_session}
use Rattle.image_copy.specs.Steps.{AreBothOpen, CopiesBetween}
use Rattle.image_copy.specs.declared.ending.CopyEnd.{CopyEnd}

-- Both sides may be asked of a core: their sessions are open, and both capabilities attain write at their roots.
pub record IsCopyist (f g : FilesView) (c : Core) : Type 0 where
  pub source : level_at (told_world c) f.root f.cap ≡ level.Write
  pub target : level_at (told_world c) g.root g.cap ≡ level.Write
  pub source_asks : f.session ≡ source_session
  pub target_asks : g.session ≡ target_session
  pub begun : AreBothOpen c

-- A copy may begin in memory: both sides may be asked, and what is in memory is a valid world, in which no block is
-- reached from both roots.
pub record IsCopyReady {D : Type 0} (told : Type 0) (view : D → View) (f g : FilesView) (c : Core) (room : AskRoom)
    (dev : D) : Type 0 where
  pub copyist : IsCopyist f g c
  pub at : told → IsInMemory c room.ring (gathered room) (view dev)
  pub valid : told → IsValid (held_world view room dev)
  pub fits : told → Fits (held_world view room dev) (sessions_of c)
  pub apart : told → AreApart (held_world view room dev) f.root g.root

-- It was made by these requests, as a copy promises over a disk of blocks, and after an answer what there is then may
-- be committed.
pub record IsCopyGathered {D : Type 0} (told : Type 0) (view : D → View) (start : View) (f g : FilesView)
    (old new : There D) (result : Result CopyEnd Status) : Type 0 where
  pub lenders : ℕ × ℕ
  pub lenders_now : ℕ × ℕ
  pub kind : PlaceKind
  pub kind_now : PlaceKind
  pub asked : List (Before D)
  pub copies : CopiesBetween told f g (blocks_view view lenders kind start old [])
      (blocks_view view lenders_now kind_now start new asked) result
  pub here : OnOk result (is_some new.room.room ≡ true)
  pub ready : OnOk result (IsReadyInMemory new.core)
  pub at : told → OnOk result (IsInMemory new.core new.room.ring (gathered new.room) (view new.dev))
