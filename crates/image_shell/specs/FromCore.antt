-- A run of the shell from a core that was opened, by its steps: the level, the session, mounting, and the loop.
use Rattle.std.specs.Prelude.{◌≡◌, ◌≢◌, ◌⊎◌, ℕ, ◌≤◌, Bool, true, false, List, [], Result}
use Rattle.std.specs.Prelude.{Err, OnOk, IfErr, IsTrue, None, length, ⊤}
use Rattle.tsd_model.specs.World.{World}
use Rattle.tsd_model.specs.Sessions.{Fits, Sessions, is_open}
use Rattle.tsd_model.specs.Valid.{IsValid}
use Rattle.tsd_model.specs.declared.caps.Cap.{Cap}
use Rattle.tsd_model.specs.declared.requests.Level.{Level}
use Rattle.tsd_model.specs.declared.requests.Level.TheVariants as level
use Rattle.disk_laws.specs.Bytes.{AreLike}
use Rattle.image_device.specs.Counts.{CountsFaultOf, Rose}
use Rattle.image_device.specs.View.{View}
use Rattle.image_device.specs.Runs.{LeavesOnly}
use Rattle.image_layout.specs.Image.{Image}
use Rattle.image_world.specs.Stands.{Stands, world_of}
use Rattle.tsd_words.specs.declared.status.Status.{Status}
use Rattle.tsd_words.specs.declared.status.Status.TheVariants as status
use Rattle.fs_trees.specs.declared.refusal.FsRefusal.{FsRefusal}
use Rattle.fs_trees.specs.declared.refusal.FsRefusal.TheVariants as no
use Rattle.fs_port.specs.Files.{FilesView, OnAnswer}
use Rattle.shell_text.specs.declared.file_ask.FileAsk.{FileAsk}
use Rattle.serving.specs.Handling.{FitsDevice}
use Rattle.serving.specs.Input.{Spelling}
use Rattle.serving.specs.Prompt.{StopsBySending}
use Rattle.serving.specs.Ran.{AskedBy, ByStatus, Moments, Taking}
use Rattle.serving.specs.Seen.{IsLeftInRun, IsSeenRun}
use Rattle.tsd_core.specs.Core.{Core, IsCoreAt, IsCoreReady, sessions_of, told_world}
use Rattle.core_blocks.specs.Behind.{KeepsBehind}
use Rattle.image_runs.specs.Served.{IsAtEase}
use Rattle.shell_server.specs.Shell.{ShellState, IsLeftOf, resting, shell_service}
use Rattle.shell_server.specs.Kept.{AreReady, FitsShell, shell_state}
use Rattle.image_shell.specs.Served.{IsRootDenied, IsFirstState, IsNotServed, level_at}

-- ---- before the loop

-- The core is at a device that stands for this world, which is valid, and its sessions fit it.
pub record IsAtStart (start : World) (c : Core) (v : View) : Type 0 where
  pub core : IsCoreAt c v
  pub world : world_of v.reads ≡ start
  pub valid : IsValid start
  pub fits : Fits start (sessions_of c)

-- this session is open, and those that were, and no other
pub record IsOneMore (session : ℕ) (v u : Sessions) : Type 0 where
  pub this : IsTrue (is_open u session)
  pub others : (n : ℕ) → IsTrue (is_open v n) → IsTrue (is_open u n)
  pub only : (n : ℕ) → IsTrue (is_open u n) → (n ≡ session) ⊎ IsTrue (is_open v n)
  pub count : length u ≡ length v

-- This session was begun, beside those that were open. The world stays, and the device wasn't called unless it failed.
pub record IsSessionBegun {X : Type 0} (told : Type 0) (session : ℕ) (c0 c1 : Core) (v w : View)
    (result : Result X Status) : Type 0 where
  pub ready : OnOk result (IsCoreReady c1)
  pub begun : OnOk result (IsOneMore session (sessions_of c0) (sessions_of c1))
  pub like : OnOk result (AreLike (told_world c1) (told_world c0))
  pub at : told → OnOk result (IsAtStart (world_of v.reads) c1 w)
  pub sent : told → w.sent ≡ v.sent
  pub any_moment : told → LeavesOnly v w (λ x f. Stands x (world_of v.reads) × (f ≡ v.sent))
  pub behind : KeepsBehind told c0 c1 v w
  pub stops : IfErr result (λ why. (why ≡ status.DeviceFault) ⊎ (why ≡ status.NoMemory))
  pub clock : v.clock ≤ w.clock
  pub put_faults : w.put_faults ≡ v.put_faults
  pub faults : CountsFaultOf status.DeviceFault result v.faults w.faults
  pub idle : result ≢ Err status.DeviceFault → w.writes ≡ v.writes

-- A tree was mounted where one is there. The core may be used but after Device.
pub record IsMounted {X : Type 0} (told : Type 0) (start : World) (f0 f1 : FilesView) (c0 c1 : Core) (v w : View)
    (result : Result X FsRefusal) : Type 0 where
  pub ready : OnAnswer result (AreReady f1 c1)
  pub at : told → OnAnswer result (FitsDevice (FitsShell start f1 c1) w)
  pub first : told → OnAnswer result (IsFirstState f0 start (shell_state f1 w.reads))
  pub sent : told → w.sent ≡ v.sent
  pub any_moment : told → LeavesOnly v w (λ x f. IsLeftOf start (resting f0 start) x × (f ≡ v.sent))
  pub behind : KeepsBehind told c0 c1 v w
  pub clock : v.clock ≤ w.clock
  pub put_faults : w.put_faults ≡ v.put_faults
  pub faultless : OnAnswer result (w.faults ≡ v.faults)
  pub cause : IfErr result (λ e. e ≡ no.Device → Rose v.faults w.faults)

-- it isn't write
abbrev pub is_below_write : Level → Bool
is_below_write level.Write = false
is_below_write l = true

-- the disk failed
abbrev pub is_device : {X : Type 0} → Result X FsRefusal → Bool
is_device (Err no.Device) = true
is_device r = false

-- ---- the run

-- who may come in, of a disk that was opened
abbrev pub IsAdmitted : ℕ → Cap → World → Status → Type 0
IsAdmitted root cap start (status.RootDenied attained) = IsRootDenied start root cap attained
IsAdmitted root cap start (status.NotImage why) = ⊥
IsAdmitted root cap start status.DeviceFault = ⊤
IsAdmitted root cap start status.NoMemory = ⊤
IsAdmitted root cap start r = level_at start root cap ≡ level.Write

-- the image stands for the world at the start, or where the device failed, for one that mounting may leave of it
abbrev pub IsAsAtStart : Status → FilesView → World → Image → Type 0
IsAsAtStart r f start x = Stands x start ⊎ ((r ≡ status.DeviceFault)
    × IsLeftOf start (resting f start) x)

-- No ask was served.
pub record NoAskServedFrom (r : Status) (f : FilesView) (source : Taking) (start : World) (port : Moments)
    (asked : List FileAsk) : Type 0 where
  pub why : IsNotServed r
  pub untouched : source.untouched
  pub none : asked ≡ []
  pub sent : port.tells → port.new.sent ≡ port.old.sent
  pub alike : port.tells → LeavesOnly port.old port.new (λ x sent. IsAsAtStart r f start x × (sent ≡ port.old.sent))

-- How a run over these asks ended.
pub record EndsFrom (r : Status) (f : FilesView) (start : World) (old new : View) (asked : List FileAsk) : Type 0 where
  pub first : ShellState
  pub is_first : IsFirstState f start first
  -- an image of the world at the start is one of the first state
  pub at_start : (x : Image) → Stands x start → IsLeftOf start first x
  pub final : ShellState
  pub at_rest : final.under_way ≡ None
  pub sent : ByStatus r (shell_service start) first old.sent asked final new.sent
  pub any_moment : (t : ℕ) → t ≤ old.clock
      → LeavesOnly old new (IsLeftInRun (shell_service start) (new.left t) first old.sent asked)
  pub seen : (t : ℕ) → t ≤ old.clock → IsSeenRun (shell_service start) (new.left t) first old.sent asked new.sent
  pub all_seen : r ≢ status.DeviceFault → (t : ℕ) (le : t ≤ old.clock)
      → (shell_service start).acked (seen t le).front ≡ 0
  pub still : StopsBySending r old new
  pub done : r ≡ status.Done → IsAtEase new final.world

-- Bytes that came in, the asks that they spell, and how the run over these ended, where the port tells.
pub record RanFrom (r : Status) (f : FilesView) (p : Spelling FileAsk) (limit : ℕ) (source : Taking) (start : World)
    (port : Moments) : Type 0 where
  pub bytes : List ℕ
  pub came_in : source.came bytes
  pub asked : List FileAsk
  pub these : NoAskServedFrom r f source start port asked
      ⊎ (AskedBy r p limit bytes source.at_end asked
      × (port.tells → EndsFrom r f start port.old port.new asked))
