-- What one run of the shell over an image did, from its start to its end.
use Rattle.std.specs.Prelude.{◌≡◌, ◌≢◌, ◌⊎◌, ℕ, ◌+◌, ◌≤◌, cond, nat_lt, List, [], None, slice_get, ⊤}
use Rattle.tsd_model.specs.World.{World}
use Rattle.tsd_model.specs.Records.{kept_of}
use Rattle.tsd_model.specs.Attained.{record_level}
use Rattle.tsd_model.specs.declared.caps.Cap.{Cap}
use Rattle.tsd_model.specs.declared.requests.Level.{Level}
use Rattle.tsd_model.specs.declared.requests.Level.TheVariants as level
use Rattle.image_device.specs.View.{View}
use Rattle.image_device.specs.Runs.{IsFirm, LeavesOnly}
use Rattle.image_layout.specs.Image.{Image}
use Rattle.image_world.specs.Faults.{IsGood}
use Rattle.image_world.specs.Stands.{world_of}
use Rattle.recovery.specs.Opening.{StandAlike, opening_writes}
use Rattle.volume_laws.specs.Quiet.{IsQuiet}
use Rattle.tsd_words.specs.declared.status.Status.{Status}
use Rattle.tsd_words.specs.declared.status.Status.TheVariants as status
use Rattle.fs_trees.specs.Tree.{is_there}
use Rattle.fs_trees.specs.declared.ask.ShellKind.{ShellKind}
use Rattle.fs_port.specs.Files.{FilesView, OnlyDeletes}
use Rattle.shell_text.specs.declared.file_ask.FileAsk.{FileAsk}
use Rattle.serving.specs.Input.{Spelling}
use Rattle.serving.specs.Prompt.{Mark, Promptly, StopsBySending}
use Rattle.serving.specs.Ran.{AskedBy, ByStatus, Moments, Taking}
use Rattle.serving.specs.Seen.{IsLeftInRun, IsSeenRun}
use Rattle.image_runs.specs.Opened.{IsJudged}
use Rattle.image_runs.specs.Served.{IsAtEase}
use Rattle.shell_server.specs.Shell.{ShellState, IsKeptSince, IsLeftOf, resting, shell_service, shell_work}
use Rattle.shell_server.specs.Shell.{tree_under, unmounted}

-- ---- who may come in

-- what a capability attains at a block of a world: nothing where that isn't primary
abbrev pub level_at : World → ℕ → Cap → Level
level_at w root cap =
    cond (nat_lt root w.geometry.primaries) (record_level (slice_get w.records root) (kept_of w.version cap)) level.Bare

-- it doesn't attain write, but this
abbrev pub IsRootDenied : World → ℕ → Cap → Level → Type 0
IsRootDenied w root cap attained = (attained ≡ level_at w root cap) × (attained ≢ level.Write)

-- What a status says of the image at the start: NotImage comes exactly where it stands for no world, and RootDenied
-- exactly where the capability doesn't attain write at the root.
abbrev pub IsShellJudged : ℕ → Cap → Image → Status → Type 0
IsShellJudged root cap image (status.RootDenied attained) =
    IsGood image × IsRootDenied (world_of image) root cap attained
IsShellJudged root cap image (status.NotImage why) = IsJudged image (status.NotImage why)
IsShellJudged root cap image status.DeviceFault = ⊤
IsShellJudged root cap image status.NoMemory = ⊤
IsShellJudged root cap image r = IsGood image × (level_at (world_of image) root cap ≡ level.Write)

-- ---- where the run begins

-- The tree of the world at the start is mounted where one is there: the world has the same tree, what the root doesn't
-- reach is as it was, and it is tidy. Pairs were deleted alone, with what they held, and nothing moved. Where none is
-- there, nothing is mounted, and the world is as it was.
pub record IsFirstState (f : FilesView) (w : World) (s : ShellState) : Type 0 where
  pub at_rest : s.under_way ≡ None
  pub files : s.files ≡ record f { mounted = is_there (tree_under f w) }
  pub tree : tree_under f s.world ≡ tree_under f w
  pub deletes : OnlyDeletes f w s.world
  pub kept : IsKeptSince w s

-- ---- the whole

-- no ask may have been served
abbrev pub IsNotServed : Status → Type 0
IsNotServed (status.NotImage why) = ⊤
IsNotServed (status.RootDenied attained) = ⊤
IsNotServed status.NoMemory = ⊤
IsNotServed status.DeviceFault = ⊤
IsNotServed r = ⊥

-- The image stands for the world of the one at the start, or for none where that stands for none. Where the device
-- failed, which it may while a tree is mounted, that stood for a world, and the tree is as it was, and what the root
-- doesn't reach.
abbrev pub IsAsItWas : Status → FilesView → Image → Image → Type 0
IsAsItWas r f old x = StandAlike old x ⊎ ((r ≡ status.DeviceFault) × IsGood old
    × IsLeftOf (world_of old) (resting f (world_of old)) x)

-- No ask was served: none was taken, and nothing was sent. A crash at any moment leaves all as it was.
pub record NoAskServed (r : Status) (f : FilesView) (source : Taking) (port : Moments)
    (asked : List FileAsk) : Type 0 where
  pub why : IsNotServed r
  pub untouched : source.untouched
  pub none : asked ≡ []
  pub sent : port.tells → port.new.sent ≡ port.old.sent
  pub alike : port.tells → IsFirm port.old → LeavesOnly port.old port.new (λ x sent. IsAsItWas r f port.old.reads x
      × (sent ≡ port.old.sent))

-- How a run over these asks ended that began in that state, over an image that stood for a world: what was sent; where
-- the disk was firm, what a crash at any moment may have left, opening and mounting included: within an ask, the tree
-- before it or the one that its very answer tells, by a state that was seen, so that an ask that is refused changes
-- nothing at any moment; in which images the states of the run rested; that nothing is done behind the last answer of
-- an input that was cut short; and after Done, what the disk is.
pub record ShellEnds (r : Status) (f : FilesView) (old new : View) (asked : List FileAsk) : Type 0 where
  pub good : IsGood old.reads
  pub first : ShellState
  pub is_first : IsFirstState f (world_of old.reads) first
  pub final : ShellState
  pub at_rest : final.under_way ≡ None
  pub sent : ByStatus r (shell_service (world_of old.reads)) first old.sent asked final new.sent
  pub any_moment : IsFirm old
      → LeavesOnly old new
      (IsLeftInRun (shell_service (world_of old.reads)) (new.left old.clock) first old.sent asked)
  pub seen : IsSeenRun (shell_service (world_of old.reads)) (new.left old.clock) first old.sent asked new.sent
  pub all_seen : r ≢ status.DeviceFault → (shell_service (world_of old.reads)).acked seen.front ≡ 0
  pub still : IsFirm old → StopsBySending r old new
  pub done : r ≡ status.Done → IsAtEase new final.world

-- Bytes that came in, the asks that they spell, and how the run over these ended, where the port tells.
pub record ShellRan (r : Status) (kind : ShellKind) (p : Spelling FileAsk) (root : ℕ) (cap : Cap) (limit : ℕ)
    (source : Taking) (port : Moments) : Type 0 where
  pub bytes : List ℕ
  pub came_in : source.came bytes
  pub asked : List FileAsk
  pub these : NoAskServed r (unmounted kind root cap) source port asked
      ⊎ (AskedBy r p limit bytes source.at_end asked
      × (port.tells → ShellEnds r (unmounted kind root cap) port.old port.new asked))

-- ---- how much is done

-- the image was opened at most, and no ask was served
abbrev pub IsOpeningAlone : Status → Type 0
IsOpeningAlone (status.NotImage why) = ⊤
IsOpeningAlone (status.RootDenied attained) = ⊤
IsOpeningAlone status.NoMemory = ⊤
IsOpeningAlone r = ⊥

-- No more was written than opening writes: what is replayed, and what is left to be swept and reclaimed. Where nothing
-- was left to be done, nothing was written.
pub record OpensNoMore (old new : View) : Type 0 where
  pub most : new.writes ≤ old.writes + opening_writes old.reads
  pub quiet : IsQuiet old.reads → new.writes ≤ old.writes

-- How promptly the asks were answered, from a moment at which the tree was mounted, with nothing sent.
pub record IsPromptShell (r : Status) (f : FilesView) (port : Mark → Type 0) (p : Spelling FileAsk) (limit : ℕ)
    (start : World) (source : Taking) (old new : Mark) : Type 0 where
  pub first : ShellState
  pub is_first : IsFirstState f start first
  pub mounted : Mark
  pub of_port : port mounted
  pub not_before : old.clock ≤ mounted.clock
  pub sent : mounted.sent ≡ old.sent
  pub prompt : Promptly r (shell_service start) shell_work port p limit first source mounted new
