-- What a command did, from its start to its end.
use Rattle.std.specs.Prelude.{◌≡◌, ◌≢◌, ◌⊎◌, ◌^◌, Option, Some, None}
use Rattle.tsd_model.specs.declared.requests.PlaceKind.{PlaceKind}
use Rattle.tsd_model.specs.declared.requests.Request.{Request}
use Rattle.image_device.specs.Runs.{IsFirm, LeavesOnly}
use Rattle.image_layout.specs.declared.fault.ImageFault.{ImageFault}
use Rattle.recovery.specs.Opening.{LeavesData, StandAlike}
use Rattle.recovery.specs.Spared.{SparesImage as Spares}
use Rattle.tsd_words.specs.declared.commands.CopyFs.{CopyFs}
use Rattle.tsd_words.specs.declared.commands.Format.{Format}
use Rattle.tsd_words.specs.declared.commands.Fresh.{Fresh}
use Rattle.tsd_words.specs.declared.commands.Load.{Load}
use Rattle.tsd_words.specs.declared.commands.Shell.{Shell}
use Rattle.tsd_words.specs.declared.commands.Command.{Command}
use Rattle.tsd_words.specs.declared.commands.Command.TheVariants as command
use Rattle.tsd_words.specs.declared.status.Status.{Status}
use Rattle.tsd_words.specs.declared.status.Status.TheVariants as status
use Rattle.serving.specs.FrameSpelling.{frame_spelling, frame_voice}
use Rattle.serving.specs.Input.{Spelling}
use Rattle.serving.specs.LineSpelling.{line_spelling, line_voice}
use Rattle.serving.specs.Ran.{Moments, Taking}
use Rattle.serving.specs.Voice.{Voice}
use Rattle.audit_runs.specs.Audit.{HasAudited, IsAuditing}
use Rattle.audit_runs.specs.Verify.{VerifyRan}
use Rattle.image_copy.specs.Copied.{HasCopied, IsCopyEnding, IsCopyJudged, IsKeptOut, IsLeftOfCopy, IsNotBegun}
use Rattle.image_runs.specs.Behind.{LeavesSameBehind, LeavesSectorsBehind}
use Rattle.image_runs.specs.Check.{HasChecked, IsSaying}
use Rattle.image_runs.specs.declared.check.Telling.{Telling}
use Rattle.image_runs.specs.declared.check.Telling.TheVariants as telling
use Rattle.image_runs.specs.Format.{HasFormatted, IsLeftOfFormat}
use Rattle.image_runs.specs.Load.{HasLoaded, IsLeftOfLoad}
use Rattle.image_runs.specs.Sending.{IsEnding}
use Rattle.image_runs.specs.Upgrade.{HasUpgraded, IsLeftOfUpgrade}
use Rattle.image_runs.specs.Fresh.{FreshRan, single_world}
use Rattle.image_runs.specs.Looking.{OnlyLooks}
use Rattle.image_runs.specs.Opened.{IsJudged}
use Rattle.image_runs.specs.Served.{ImageRan}
use Rattle.shell_text.specs.declared.file_ask.FileAsk.{FileAsk}
use Rattle.shell_server.specs.Frames.{file_spelling}
use Rattle.shell_server.specs.Lines.{shell_spelling}
use Rattle.image_shell.specs.Served.{IsOpeningAlone, IsShellJudged, OpensNoMore, ShellRan}
use Rattle.tsd_serve.specs.Grouped.{OpenedInGroups}

-- What a command that opens an image leaves alone, where its port tells.
abbrev pub SparesImage : Moments → Type 0
SparesImage port = Spares port.tells port.old port.new

-- What a command does that only looks at an image: where nothing is left to be done on it nothing is written, and else
-- no more than an opening writes; and the data of all blocks, of free ones too, is as it was, after a crash at any
-- moment.
pub record LooksAtImage (port : Moments) : Type 0 where
  pub only : port.tells → OnlyLooks port.old port.new
  pub kept : port.tells → IsFirm port.old → LeavesData port.old port.new

-- A disk was made and served, at most 2^40 bytes of input. What lies behind it is as it was.
pub record Made (fresh : Fresh) (r : Status) (source : Taking) (port : Moments) : Type 0 where
  pub ran : FreshRan r line_voice line_spelling fresh.kind (single_world fresh.geometry fresh.caps) (2 ^ 40) source port
  pub behind : port.tells → IsFirm port.old → LeavesSameBehind fresh.geometry port.old port.new

-- An image was opened and served, at most 2^40 bytes of it, and a refusal says what is wrong with it.
pub record Opened (r : Status) (v : Voice) (p : Spelling Request) (kind : PlaceKind) (source : Taking)
    (port : Moments) : Type 0 where
  pub judged : port.tells → IsJudged port.old.reads r
  pub ran : ImageRan r v p kind (2 ^ 40) source port
  pub spared : SparesImage port

-- There was no memory for a cutter of frames, and nothing was called.
pub record HasNoCutter (r : Status) (source : Taking) (port : Moments) : Type 0 where
  pub memory : r ≡ status.NoMemory
  pub untaken : source.untouched
  pub unused : port.untouched

-- An image was opened, the tree under a root mounted, and asks of it were served, at most 2^40 bytes of them. A refusal
-- says what is wrong with the image, or with the capability, and no more was written than opening writes.
pub record Mounted (r : Status) (shell : Shell) (p : Spelling FileAsk) (source : Taking)
    (port : Moments) : Type 0 where
  pub judged : port.tells → IsShellJudged shell.root shell.cap port.old.reads r
  pub ran : ShellRan r shell.layout p shell.root shell.cap (2 ^ 40) source port
  pub opened : port.tells → IsOpeningAlone r → OpensNoMore port.old port.new
  pub spared : SparesImage port

-- A certificate was read and its answer told, or a front of it.
pub record VerifiedBy (r : Status) (source : Taking) (port : Moments) : Type 0 where
  pub ran : VerifyRan r source port
  pub looks : LooksAtImage port
  pub spared : SparesImage port

-- ---- commands that take no input

-- An image was judged: what the status says of it, and what is told of it or a front of that was sent. It stands for
-- the same world, or for none as before.
pub record Checked (t : Telling) (r : Status) (port : Moments) : Type 0 where
  pub ending : IsEnding r
  pub said : port.tells → HasChecked t r port.old.reads port.old.sent port.new.sent
  pub any_moment : port.tells → IsFirm port.old
      → LeavesOnly port.old port.new (λ x f. StandAlike port.old.reads x × IsSaying t port.old.reads port.old.sent f)
  pub looks : LooksAtImage port
  pub spared : SparesImage port

-- a disk was made, which opens no image and takes no memory
pub record Formatted (words : Format) (r : Status) (port : Moments) : Type 0 where
  pub ending : IsEnding r
  pub image : (why : ImageFault) → r ≢ status.NotImage why
  pub memory : r ≢ status.NoMemory
  pub made : port.tells → HasFormatted r words port.old port.new
  pub any_moment : port.tells → LeavesOnly port.old port.new (IsLeftOfFormat words port.old)
  pub behind : port.tells → IsFirm port.old → LeavesSectorsBehind words.geometry port.old port.new

-- An image keeps digests in place of capabilities. Without memory it wasn't upgraded.
pub record Upgraded (r : Status) (port : Moments) : Type 0 where
  pub ending : IsEnding r
  pub upgraded : port.tells → HasUpgraded r port.old port.new
  pub any_moment : port.tells → IsFirm port.old → LeavesOnly port.old port.new (IsLeftOfUpgrade port.old)
  pub spared : SparesImage port
  pub no_memory : port.tells → r ≡ status.NoMemory → IsFirm port.old
      → LeavesOnly port.old port.new (λ x f. StandAlike port.old.reads x × (f ≡ port.old.sent))

-- What is reached was told, as a certificate or a front of it.
pub record Audited (r : Status) (port : Moments) : Type 0 where
  pub ending : IsEnding r
  pub said : port.tells → HasAudited r port.old.reads port.old.sent port.new.sent
  pub any_moment : port.tells → IsFirm port.old
      → LeavesOnly port.old port.new (λ x f. StandAlike port.old.reads x × IsAuditing port.old.reads port.old.sent f)
  pub looks : LooksAtImage port
  pub spared : SparesImage port

-- The requests of a seed were carried out. Without memory none was, and no more was written than an opening writes.
pub record Loaded (load : Load) (r : Status) (port : Moments) : Type 0 where
  pub ending : IsEnding r
  pub loaded : port.tells → HasLoaded r load.kind load.seed load.count port.old port.new
  pub any_moment : port.tells → IsFirm port.old
      → LeavesOnly port.old port.new (IsLeftOfLoad load.kind load.seed load.count port.old)
  pub spared : SparesImage port
  pub no_memory : port.tells → r ≡ status.NoMemory → IsFirm port.old
      → LeavesOnly port.old port.new (λ x f. StandAlike port.old.reads x × (f ≡ port.old.sent))
  pub looked : port.tells → r ≡ status.NoMemory → OnlyLooks port.old port.new

-- A tree was copied from one root to another: how the copy ended, and what of its line was sent. A crash leaves the
-- source's tree, and under the target's root what was there before or the tree after some of the steps. Where no copy
-- was begun, all is as it was; where no image was opened, or a capability doesn't attain write, no more was written
-- than an opening writes.
pub record TreeCopied (words : CopyFs) (r : Status) (port : Moments) : Type 0 where
  pub ending : IsCopyEnding r
  pub judged : port.tells → IsCopyJudged words port.old.reads r
  pub copied : port.tells → HasCopied r words port.old port.new
  pub any_moment : port.tells → IsFirm port.old → LeavesOnly port.old port.new (IsLeftOfCopy words port.old)
  pub not_begun : port.tells → IsNotBegun r → IsFirm port.old
      → LeavesOnly port.old port.new (λ x f. StandAlike port.old.reads x × (f ≡ port.old.sent))
  pub looked : port.tells → IsKeptOut r → OnlyLooks port.old port.new
  pub spared : SparesImage port

-- What the command that the words spell did, with this status, to its source and to its port. A command that takes no
-- input leaves the source as it was. Where they spell none, it was Usage.
abbrev pub Did : Option Command → Status → Taking → Moments → Type 0
Did (Some (command.Fresh fresh)) r source port = Made fresh r source port
Did (Some (command.Format words)) r source port = source.untouched × Formatted words r port
Did (Some (command.Run kind)) r source port = Opened r line_voice line_spelling kind source port
Did (Some (command.Serve kind)) r source port =
    HasNoCutter r source port ⊎ Opened r frame_voice frame_spelling kind source port
Did (Some (command.Group kind)) r source port =
    HasNoCutter r source port ⊎ OpenedInGroups r frame_voice frame_spelling kind source port
Did (Some (command.Shell shell)) r source port = Mounted r shell (shell_spelling shell.layout) source port
Did (Some (command.Files shell)) r source port =
    HasNoCutter r source port ⊎ Mounted r shell (file_spelling shell.layout) source port
Did (Some command.Check) r source port = source.untouched × Checked telling.Clean r port
Did (Some command.Info) r source port = source.untouched × Checked telling.Info r port
Did (Some (command.Load load)) r source port = source.untouched × Loaded load r port
Did (Some command.Upgrade) r source port = source.untouched × Upgraded r port
Did (Some command.Audit) r source port = source.untouched × Audited r port
Did (Some command.Verify) r source port = VerifiedBy r source port
Did (Some (command.CopyFs words)) r source port = source.untouched × TreeCopied words r port
Did None r source port = r ≡ status.Usage
