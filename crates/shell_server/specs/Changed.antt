-- What an ask that changes the tree does on a disk of blocks, and in memory before it is committed.
use Rattle.std.specs.Prelude.{◌≡◌, ◌≢◌, ◌+◌, ◌≤◌, ℕ, Bool, true, false, List, [], Result, OnOk, MatchResult, is_some}
use Rattle.tsd_model.specs.declared.requests.PlaceKind.{PlaceKind}
use Rattle.image_device.specs.View.{View}
use Rattle.fs_trees.specs.Answer.{done}
use Rattle.fs_trees.specs.Layouts.{IsTidy}
use Rattle.fs_trees.specs.declared.ask.ShellAsk.{ShellAsk}
use Rattle.fs_trees.specs.declared.ask.ShellAsk.TheVariants as ask
use Rattle.fs_trees.specs.declared.refusal.FsRefusal.{FsRefusal}
use Rattle.fs_port.specs.Calls.{LeavesWorldsOnly}
use Rattle.fs_port.specs.Files.{Answers, FilesView, IsEitherTree, KeepsRoom, LeavesTidyWorld, OnAnswer, need_on}
use Rattle.fs_port.specs.Runs.{Runs}
use Rattle.fs_port.specs.View.{DiskView}
use Rattle.gathered_tasks.specs.Blocks.{AllHaveRoom, AllWentBelow, There, blocks_view}
use Rattle.gathered_tasks.specs.Held.{IsInMemory, IsReadyInMemory}
use Rattle.gathered_tasks.specs.Rooms.{gathered}
use Rattle.gathered_tasks.specs.declared.asked.Before.{Before}
use Rattle.shell_server.specs.Shell.{files_after}

-- it changes the tree where it isn't refused
abbrev pub is_change : ShellAsk → Bool
is_change ask.Make = true
is_change (ask.Put path x) = true
is_change (ask.Append path x) = true
is_change (ask.MakeDir path) = true
is_change (ask.Rm path) = true
is_change (ask.Copy path new) = true
is_change q = false

-- As a file system promises of each: the answer and the tree are those of the step; a stop at any moment leaves the
-- tree before or the tree after. Where none is mounted, all but making an empty tree leave the world as it was.
pub record IsChanged {X : Type 0} (told : Type 0) (f0 f1 : FilesView) (old new : DiskView) (q : ShellAsk)
    (result : Result X FsRefusal) : Type 0 where
  pub answer : told → Answers f0 old new q result (λ _ answer. answer ≡ done)
  pub world : told → OnAnswer result (LeavesTidyWorld f0 old new)
  pub made : told → q ≡ ask.Make → OnOk result (IsTidy f0.kind new.world f0.root)
  pub room : told → OnOk result (KeepsRoom (need_on f0 old q) old.world new.world)
  pub unmounted : told → q ≢ ask.Make → f0.mounted ≡ false → LeavesWorldsOnly old new (λ w. w ≡ old.world)
  pub runs : Runs told old new (IsEitherTree f0 old q) result
  pub files : MatchResult result (λ _. f1 ≡ files_after f0 q) (λ _. f1 ≡ f0)

-- It was carried out by some requests, as a file system promises over a disk of blocks, and but for Device what there
-- is then may go on, or be committed.
pub record IsGathered {D X : Type 0} (told : Type 0) (view : D → View) (start : View) (f0 f1 : FilesView)
    (old new : There D) (q : ShellAsk) (result : Result X FsRefusal) : Type 0 where
  pub lenders : ℕ × ℕ
  pub lenders_now : ℕ × ℕ
  pub kind : PlaceKind
  pub kind_now : PlaceKind
  pub asked : List (Before D)
  pub changed : IsChanged told f0 f1 (blocks_view view lenders kind start old [])
      (blocks_view view lenders_now kind_now start new asked) q result
  pub here : OnAnswer result (is_some new.room.room ≡ true)
  pub ready : OnAnswer result (IsReadyInMemory new.core)
  pub at : told → OnAnswer result (IsInMemory new.core new.room.ring (gathered new.room) (view new.dev))

-- It is one commit where what was gathered has room for each of its requests: they did so to the device, one after the
-- other, and then 236 sectors are written at most.
pub record IsOneCommit {D : Type 0} (view : D → View) (v w : View) : Type 0 where
  pub kind : PlaceKind
  pub asked : List (Before D)
  pub last : There D
  pub went : AllWentBelow view kind v asked last
  pub few : AllHaveRoom view asked → w.writes ≤ v.writes + 236
