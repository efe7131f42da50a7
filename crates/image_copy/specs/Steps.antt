-- One copy over an image by its steps: the blocks that both roots reach, the sessions, mounting and copying, and the
-- end.
use Rattle.std.specs.Prelude.{◌≡◌, ◌⊎◌, ℕ, ◌≤◌, false, List, Option, Some, None, Result, Ok, Err, OnOk, IfOk}
use Rattle.std.specs.Prelude.{IfErr, IsTrue, ⊤}
use Rattle.tsd_model.specs.World.{World}
use Rattle.tsd_model.specs.Sessions.{is_open, no_sessions}
use Rattle.tsd_model.specs.declared.requests.Level.{Level}
use Rattle.tsd_model.specs.declared.requests.Level.TheVariants as level
use Rattle.image_device.specs.Counts.{CountsFault, CountsFaultOf, Rose}
use Rattle.image_device.specs.View.{View}
use Rattle.image_device.specs.Runs.{IsFirm, LeavesOnly}
use Rattle.image_audit.specs.declared.entry.Entry.{Entry}
use Rattle.image_audit.specs.Entries.{is_listed}
use Rattle.image_layout.specs.Image.{Image}
use Rattle.image_world.specs.Behind.{LeavesBehind, size_of_image}
use Rattle.image_world.specs.Stands.{Stands, world_of}
use Rattle.image_world.specs.Faults.{IsGood}
use Rattle.recovery.specs.Opening.{IsForeign, IsUntouched, SparesDamaged, StandAlike}
use Rattle.image_runs.specs.Looking.{OnlyLooks}
use Rattle.volume_laws.specs.Volume.{Volume, told_by}
use Rattle.tsd_words.specs.declared.status.Status.{Status}
use Rattle.tsd_words.specs.declared.status.Status.TheVariants as status
use Rattle.tsd_core.specs.Core.{Core, IsCoreAt, IsCoreReady, sessions_of, told_world}
use Rattle.fs_trees.specs.declared.refusal.FsRefusal.{FsRefusal}
use Rattle.fs_trees.specs.declared.refusal.FsRefusal.TheVariants as fs
use Rattle.fs_laws.specs.Apart.{AreApart}
use Rattle.fs_port.specs.View.{DiskView as Disk}
use Rattle.fs_port.specs.Calls.{Counts, LeavesWorldsOnly}
use Rattle.fs_port.specs.Files.{FilesView}
use Rattle.fs_copy.specs.declared.copied.Copied.{Copied}
use Rattle.fs_copy.specs.declared.refusal.CopyRefusal.{CopyRefusal}
use Rattle.fs_copy.specs.declared.refusal.CopyRefusal.TheVariants as no
use Rattle.image_shell.specs.FromCore.{IsAtStart}
use Rattle.image_shell.specs.Served.{level_at}
use Rattle.image_copy.specs.Copied.{AreAdmitted, HasEnded, IsCopyJudged, IsKeptOut, IsNotBegun, IsSideDenied}
use Rattle.image_copy.specs.Copied.{source}
use Rattle.image_copy.specs.Copied.{source_session, target, target_session}
use Rattle.image_copy.specs.Ends.{EndsAs, IsFirstShared, IsUnderWay}
use Rattle.image_copy.specs.Lines.{HasWords}
use Rattle.image_copy.specs.declared.ending.CopyEnd.{CopyEnd}
use Rattle.image_copy.specs.declared.ending.CopyEnd.TheVariants as end
use Rattle.tsd_words.specs.declared.commands.CopyFs.{CopyFs}

-- ---- before a session is opened

-- the level that keeps a side out, if one does
abbrev pub IsDenial : World → CopyFs → Option Level → Type 0
IsDenial w words (Some attained) = IsSideDenied w words attained
IsDenial w words None = AreAdmitted w words

-- the least block that both list, if they list one
abbrev pub IsFirstInBoth : List (Option Entry) → List (Option Entry) → Option ℕ → Type 0
IsFirstInBoth one other (Some b) = IsTrue (is_listed one b) × IsTrue (is_listed other b)
    × ((c : ℕ) → IsTrue (is_listed one c) → IsTrue (is_listed other c) → b ≤ c)
IsFirstInBoth one other None = (c : ℕ) → IsTrue (is_listed one c) → is_listed other c ≡ false

-- the least block that both roots reach, if there is one
abbrev pub IsSharing : World → ℕ → ℕ → Option ℕ → Type 0
IsSharing w root other (Some b) = IsFirstShared w root other b
IsSharing w root other None = AreApart w root other

-- ---- sessions

-- the source's is open, and the target's, and no other
pub record AreBothOpen (c : Core) : Type 0 where
  pub source : IsTrue (is_open (sessions_of c) source_session)
  pub target : IsTrue (is_open (sessions_of c) target_session)
  pub others : (n : ℕ) → IsTrue (is_open (sessions_of c) n) → (n ≡ source_session) ⊎ (n ≡ target_session)

-- ---- mounting and copying

-- what an answer of the copy is to the command
abbrev pub copy_end : Result Copied CopyRefusal → Result CopyEnd Status
copy_end (Ok copied) = Ok (end.Whole copied)
copy_end (Err (no.Nested path)) = Ok (end.Nested path)
copy_end (Err (no.Into e)) = Ok (end.Refused e)
copy_end (Err no.Device) = Err status.DeviceFault

-- what a refusal to mount the source is
abbrev pub unmounted_end : FsRefusal → Result CopyEnd Status
unmounted_end fs.Device = Err status.DeviceFault
unmounted_end e = Ok end.NotThisFs

-- The source was mounted on a disk, and its tree copied. A failure comes only where the count of faults rose.
pub record CopiesBetween (told : Type 0) (f g : FilesView) (old new : Disk)
    (result : Result CopyEnd Status) : Type 0 where
  pub ends : told → IfOk result (λ e. EndsAs f g old.world e new.world)
  pub words : IfOk result HasWords
  pub crash : told → LeavesWorldsOnly old new (IsUnderWay f g old.world)
  pub counts : Counts old new
  pub unspent : OnOk result (new.spent ≡ false)
  pub stops : IfErr result (λ why. why ≡ status.DeviceFault)
  pub faults : CountsFault result old.faults new.faults

-- ---- on a core

-- Where a copy begins on a core: both capabilities attain write at their roots. The core is at its device.
pub record IsStartOf (told : Type 0) (f g : FilesView) (c : Core) (v : View) : Type 0 where
  pub ready : IsCoreReady c
  pub source : level_at (told_world c) f.root f.cap ≡ level.Write
  pub target : level_at (told_world c) g.root g.cap ≡ level.Write
  pub source_asks : f.session ≡ source_session
  pub target_asks : g.session ≡ target_session
  pub at : told → IsAtStart (world_of v.reads) c v

-- what a crash leaves before the line: the world at the start, one on the way, or one in which the copy has ended
abbrev pub IsLeftBy : FilesView → FilesView → World → Image → Type 0
IsLeftBy f g start x = Stands x start ⊎ ((w : World) × Stands x w
    × (IsUnderWay f g start w ⊎ ((e : CopyEnd) × EndsAs f g start e w)))

-- The copy has this end on a core, which may be used.
pub record IsEndedOn (told : Type 0) (f g : FilesView) (c1 : Core) (v w : View) (e : CopyEnd) : Type 0 where
  pub ready : IsCoreReady c1
  pub at : told → IsCoreAt c1 w
  pub size : told → (told_world c1).geometry ≡ size_of_image v.reads
  pub ends : told → EndsAs f g (world_of v.reads) e (world_of w.reads)
  pub words : HasWords e
  pub faults : w.faults ≡ v.faults

-- It stopped without an end: the count of faults rose; or without memory no step of it was made.
abbrev pub IsStoppedBy : Type 0 → View → View → Status → Type 0
IsStoppedBy told v w status.DeviceFault = Rose v.faults w.faults
IsStoppedBy told v w status.NoMemory =
    (w.faults ≡ v.faults) × (told → LeavesOnly v w (λ x s. Stands x (world_of v.reads) × (s ≡ v.sent)))
IsStoppedBy told v w r = ⊥

-- The copy was made on a core, and nothing is sent yet.
pub record CopiesOn (told : Type 0) (f g : FilesView) (c1 : Core) (v w : View)
    (result : Result CopyEnd Status) : Type 0 where
  pub ended : IfOk result (IsEndedOn told f g c1 v w)
  pub stopped : IfErr result (IsStoppedBy told v w)
  pub sent : told → w.sent ≡ v.sent
  pub any_moment : told → LeavesOnly v w (λ x s. IsLeftBy f g (world_of v.reads) x × (s ≡ v.sent))
  pub behind : told → LeavesBehind v w
  pub put_faults : w.put_faults ≡ v.put_faults

-- ---- on a volume that was opened

-- a copy has no end, or no image was opened
abbrev pub IsUnended : Status → Type 0
IsUnended (status.NotImage why) = ⊤
IsUnended (status.RootDenied attained) = ⊤
IsUnended status.NoMemory = ⊤
IsUnended status.DeviceFault = ⊤
IsUnended r = ⊥

-- both capabilities attain write: a core of the volume, with no session open, and the least block that both roots reach
pub record IsAdmitted (volume : Volume) (words : CopyFs) (c : Core) (shared : Option ℕ) : Type 0 where
  pub of : c.volume ≡ volume
  pub none : c.grants.sessions ≡ no_sessions
  pub ready : IsCoreReady c
  pub both : AreAdmitted (told_by volume) words
  pub sharing : IsSharing (told_by volume) words.from.root words.into.root shared

-- why none is made: a capability that doesn't attain write, or no memory
abbrev pub IsRefused : World → CopyFs → Status → Type 0
IsRefused w words (status.RootDenied attained) = IsSideDenied w words attained
IsRefused w words status.NoMemory = ⊤
IsRefused w words r = ⊥

-- ---- over an image

-- What a crash leaves before the line, of an image: the world at the start, or none where there was none; or one that
-- the copy leaves.
abbrev pub IsLeftFrom : CopyFs → Image → Image → Type 0
IsLeftFrom words image x = StandAlike image x
    ⊎ (IsGood image × IsLeftBy (source words) (target words) (world_of image) x)

-- A copy was made over an image, and nothing is sent yet. Where none was begun, all is as it was.
pub record CarriesOut (told : Type 0) (words : CopyFs) (v w : View) (result : Result CopyEnd Status) : Type 0 where
  pub has_words : IfOk result HasWords
  pub ends : told → IfOk result (HasEnded words v w)
  pub stops : IfErr result IsUnended
  pub read : told → OnOk result (IsCopyJudged words v.reads status.Done)
  pub judged : told → IfErr result (IsCopyJudged words v.reads)
  pub sent : told → w.sent ≡ v.sent
  pub any_moment : told → IsFirm v → LeavesOnly v w (λ x s. IsLeftFrom words v.reads x × (s ≡ v.sent))
  pub behind : told → IsFirm v → LeavesBehind v w
  pub not_begun : told → IfErr result (λ why. IsNotBegun why → IsFirm v
      → LeavesOnly v w (λ x s. StandAlike v.reads x × (s ≡ v.sent)))
  pub looked : told → IfErr result (λ why. IsKeptOut why → OnlyLooks v w)
  pub untouched : told → IsForeign v.reads → IsUntouched v w
  pub spared : told → SparesDamaged v w
  pub put_faults : w.put_faults ≡ v.put_faults
  pub faults : CountsFaultOf status.DeviceFault result v.faults w.faults
