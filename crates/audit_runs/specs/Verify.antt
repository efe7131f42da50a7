-- What `verify` says of an image and of the lines of an input.
use Rattle.std.specs.Prelude.{◌≡◌, ◌⊎◌, ℕ, ◌+◌, ◌^◌, ◌≤◌, List, ◌++◌, Option, ⊤, length}
use Rattle.image_device.specs.Runs.{IsFirm, LeavesOnly}
use Rattle.image_device.specs.View.{IsPart}
use Rattle.image_layout.specs.Image.{Image}
use Rattle.image_world.specs.Faults.{IsGood, IsFirstFault}
use Rattle.image_world.specs.Stands.{world_of}
use Rattle.recovery.specs.Opening.{StandAlike}
use Rattle.script_text.specs.Pieces.{all_lines}
use Rattle.serving.specs.Ran.{Moments, Taking}
use Rattle.tsd_model.specs.World.{World}
use Rattle.tsd_words.specs.declared.status.Status.{Status}
use Rattle.tsd_words.specs.declared.status.Status.TheVariants as status
use Rattle.tsd_words.specs.Lines.{line_of}
use Rattle.image_audit.specs.declared.certificate.FormFault.{FormFault}
use Rattle.image_audit.specs.declared.entry.Entry.{Entry}
use Rattle.image_audit.specs.declared.verdict.Verdict.{Verdict}
use Rattle.image_audit.specs.Certificates.{IsVerdict}
use Rattle.image_audit.specs.Texts.{fault_words, verdict_words}
use Rattle.image_runs.specs.Sending.{ProperFrontWasSent}
use Rattle.audit_runs.specs.Certificate.{IsCertificate, IsFirstRefused}

-- the first line that is refused has this number
pub record IsFormAnswer (w : World) (lines : List (List ℕ)) (text : List ℕ) : Type 0 where
  pub fault : FormFault
  pub first : IsFirstRefused lines w.geometry.blocks fault.line
  pub says : text ≡ line_of (fault_words fault)

-- none is refused, and the certificate shows this of the world
pub record IsVerdictAnswer (w : World) (lines : List (List ℕ)) (text : List ℕ) : Type 0 where
  pub entries : List (Option Entry)
  pub certificate : IsCertificate lines w.geometry.blocks entries
  pub verdict : Verdict
  pub shown : IsVerdict w entries verdict
  pub says : text ≡ line_of (verdict_words verdict)

-- The answer to these lines, over a world.
abbrev pub IsVerdictOver : World → List (List ℕ) → List ℕ → Type 0
IsVerdictOver w lines text = IsFormAnswer w lines text ⊎ IsVerdictAnswer w lines text

-- an image stands for a world, and over that this is the answer to the lines of these bytes
pub record IsAnswerOf (image : Image) (bytes text : List ℕ) : Type 0 where
  pub good : IsGood image
  pub answer : IsVerdictOver (world_of image) (all_lines bytes) text

-- it ends so
abbrev pub IsVerifyEnding : Status → Type 0
IsVerifyEnding status.Done = ⊤
IsVerifyEnding (status.NotImage why) = ⊤
IsVerifyEnding status.DeviceFault = ⊤
IsVerifyEnding status.SourceFault = ⊤
IsVerifyEnding status.PutFault = ⊤
IsVerifyEnding status.TooLong = ⊤
IsVerifyEnding status.NoMemory = ⊤
IsVerifyEnding r = ⊥

-- How far the input was taken, of which these bytes came in: to its end, within 2^40 bytes; up to a take that failed;
-- or one byte past those. Where the image wasn't opened, or there was no memory, not at all.
abbrev pub IsTakenBy : Status → Taking → List ℕ → Type 0
IsTakenBy status.Done source bytes = (length bytes ≤ 2 ^ 40) × source.at_end
IsTakenBy status.PutFault source bytes = (length bytes ≤ 2 ^ 40) × source.at_end
IsTakenBy status.SourceFault source bytes = length bytes ≤ 2 ^ 40
IsTakenBy status.TooLong source bytes = length bytes ≡ 2 ^ 40 + 1
IsTakenBy r source bytes = source.untouched

-- What was sent by the time that it ended so: the answer, whole or a proper front of it, or nothing.
abbrev pub HasVerified : Status → Image → List ℕ → List ℕ → List ℕ → Type 0
HasVerified status.Done image bytes before now = (text : List ℕ) × IsAnswerOf image bytes text × (now ≡ before ++ text)
HasVerified status.PutFault image bytes before now =
    (text : List ℕ) × IsAnswerOf image bytes text × ProperFrontWasSent before text now
HasVerified (status.NotImage why) image bytes before now = IsFirstFault image why × (now ≡ before)
HasVerified status.SourceFault image bytes before now = IsGood image × (now ≡ before)
HasVerified status.TooLong image bytes before now = IsGood image × (now ≡ before)
HasVerified status.DeviceFault image bytes before now = now ≡ before
HasVerified status.NoMemory image bytes before now = now ≡ before
HasVerified r image bytes before now = ⊥

-- nothing was sent by then, or a front of the answer
abbrev pub IsVerifying : Image → List ℕ → List ℕ → List ℕ → Type 0
IsVerifying image bytes before now = (now ≡ before)
    ⊎ ((text : List ℕ) × IsAnswerOf image bytes text × IsPart before text now)

-- Bytes that came in, and how far that was; and where the port tells, what was sent in the end, and in each image that
-- a crash may have left, which stands for the same world as the one at the start, or for none as that one.
pub record VerifyRan (r : Status) (source : Taking) (port : Moments) : Type 0 where
  pub ending : IsVerifyEnding r
  pub bytes : List ℕ
  pub came_in : source.came bytes
  pub taken : IsTakenBy r source bytes
  pub said : port.tells → HasVerified r port.old.reads bytes port.old.sent port.new.sent
  pub any_moment : port.tells → IsFirm port.old
      → LeavesOnly port.old port.new (λ x f. StandAlike port.old.reads x
      × IsVerifying port.old.reads bytes port.old.sent f)
