-- One ask, carried out on the disk and answered.
use Rattle.std.specs.Prelude.{◌≡◌, ◌≢◌, ◌⊎◌, true, ℕ, List, [], ◌∷◌, ◌++◌, Result, Ok, Err, OnOk, IfOk, IfErr}
use Rattle.tsd_model.specs.World.{World}
use Rattle.image_device.specs.Counts.{CountsFaultOf, Rose}
use Rattle.image_device.specs.View.{View, IsPart}
use Rattle.image_device.specs.Runs.{LeavesOnly, PutsAll}
use Rattle.image_layout.specs.Image.{Image}
use Rattle.script_text.specs.Pieces.{line_feeds}
use Rattle.fs_trees.specs.Answer.{Answer, done, refused}
use Rattle.fs_trees.specs.declared.ask.ShellAsk.{ShellAsk}
use Rattle.fs_trees.specs.declared.refusal.FsRefusal.{FsRefusal}
use Rattle.fs_trees.specs.declared.refusal.FsRefusal.TheVariants as no
use Rattle.fs_port.specs.Files.{FilesView, OnAnswer}
use Rattle.shell_text.specs.Texts.{answer_text}
use Rattle.shell_text.specs.declared.file_ask.FileAsk.{FileAsk}
use Rattle.shell_text.specs.declared.file_ask.FileAsk.TheVariants as file
use Rattle.tsd_words.specs.declared.status.Status.{Status}
use Rattle.tsd_words.specs.declared.status.Status.TheVariants as status
use Rattle.serving.specs.Handling.{FitsDevice}
use Rattle.serving.specs.Prompt.{EndsBySending}
use Rattle.serving.specs.Service.{IsInAnswer, LeftBy}
use Rattle.tsd_core.specs.Core.{Core}
use Rattle.core_blocks.specs.Behind.{KeepsBehind}
use Rattle.shell_server.specs.Shell.{ShellState, Answers, AnswersByLine, IsLeftOf, shell_service, shell_step}
use Rattle.shell_server.specs.Kept.{AreReady, FitsShell, shell_state}

-- the image stands for the state, or for one that an answer to the ask leads to, or for something between
abbrev pub IsLeftBeforeOrAfter : World → ShellState → FileAsk → Image → Type 0
IsLeftBeforeOrAfter start s q x = IsLeftOf start s x
    ⊎ ((line : List ℕ) × (t : ShellState) × Answers start s q line t
    × (IsLeftOf start t x ⊎ (shell_service start).between s q x))

-- the line that answers an ask that changes the tree
abbrev pub change_line : {X : Type 0} → Result X FsRefusal → List ℕ
change_line (Ok x) = answer_text done ++ 10 ∷ []
change_line (Err e) = answer_text (refused e) ++ 10 ∷ []

-- what is to be known of a refusal: its answer is one line
abbrev pub IsOneLine : {X : Type 0} → Result X FsRefusal → Type 0
IsOneLine (Ok x) = Unit {0}
IsOneLine (Err e) = line_feeds (answer_text (refused e)) ≡ 0

-- The disk was called for an ask, and nothing is sent yet. But for Device the file system and the core may be used
-- again. A crash leaves only such images.
pub record IsCalled {X : Type 0} (told : Type 0) (start : World) (leaves : Image → Type 0) (f1 : FilesView)
    (c0 c1 : Core) (v w : View) (result : Result X FsRefusal) : Type 0 where
  pub ready : OnAnswer result (AreReady f1 c1)
  pub at : told → OnAnswer result (FitsDevice (FitsShell start f1 c1) w)
  pub sent : told → w.sent ≡ v.sent
  pub any_moment : told → LeavesOnly v w (λ x f. leaves x × (f ≡ v.sent))
  pub behind : KeepsBehind told c0 c1 v w
  pub put_faults : w.put_faults ≡ v.put_faults
  pub faultless : OnAnswer result (w.faults ≡ v.faults)
  pub spent : IfErr result (λ e. e ≡ no.Device → c1.volume.is_spent ≡ true)
  pub cause : IfErr result (λ e. e ≡ no.Device → Rose v.faults w.faults)

-- A line was sent, or a front of it where the sending failed. Its text is one line.
pub record SendsLine {X : Type 0} (told : Type 0) (text : List ℕ) (v w : View) (result : Result X Status) : Type 0 where
  pub line : line_feeds text ≡ 0
  pub stops : IfErr result (λ why. why ≡ status.PutFault)
  pub puts : PutsAll told (text ++ 10 ∷ []) v w result

-- An ask that changes the tree was carried out, and is answered so. A crash leaves the state before, or one after.
pub record IsCarried {X : Type 0} (told : Type 0) (start : World) (q : ShellAsk) (f0 f1 : FilesView) (c0 c1 : Core)
    (v w : View) (result : Result X FsRefusal) : Type 0 where
  pub called : IsCalled told start (IsLeftBeforeOrAfter start (shell_state f0 v.reads) (file.Shell q)) f1 c0 c1 v w
      result
  pub open called use *
  pub answered : told → OnAnswer result (IsOneLine result
      → AnswersByLine start (shell_state f0 v.reads) q (change_line result) (shell_state f1 w.reads))

-- The disk was read for an ask. The state stays; what was read is of the answer of the step.
pub record IsLooked {X : Type 0} (told : Type 0) (start : World) (q : ShellAsk) (f0 f1 : FilesView) (c0 c1 : Core)
    (v w : View) (of_answer : X → Answer → Type 0) (result : Result X FsRefusal) : Type 0 where
  pub called : IsCalled told start (IsLeftOf start (shell_state f0 v.reads)) f1 c0 c1 v w result
  pub open called use *
  pub state : told → OnAnswer result (shell_state f1 w.reads ≡ shell_state f0 v.reads)
  pub read : told → IfOk result (λ x. of_answer x (shell_step (shell_state f0 v.reads) q).answer)
  pub refused : told → IfErr result (λ e. e ≢ no.Device → (shell_step (shell_state f0 v.reads) q).answer ≡ refused e)

-- This piece of an answer was sent, and the disk read for it. The state stays.
pub record IsSpeaking (told : Type 0) (start : World) (f0 f1 : FilesView) (c0 c1 : Core) (v w : View)
    (piece : List ℕ) : Type 0 where
  pub ready : AreReady f1 c1
  pub at : told → FitsDevice (FitsShell start f1 c1) w
  pub state : told → shell_state f1 w.reads ≡ shell_state f0 v.reads
  pub sent : told → w.sent ≡ v.sent ++ piece
  pub any_moment : told → LeavesOnly v w (λ x f. IsLeftOf start (shell_state f0 v.reads) x × IsPart v.sent piece f)
  pub behind : KeepsBehind told c0 c1 v w
  pub faults : w.faults ≡ v.faults
  pub put_faults : w.put_faults ≡ v.put_faults

-- An ask was answered, as a server of the loop promises.
pub record IsServed {X : Type 0} (told : Type 0) (start : World) (q : FileAsk) (f0 f1 : FilesView) (c0 c1 : Core)
    (v w : View) (result : Result X Status) : Type 0 where
  pub ready : result ≢ Err status.DeviceFault → AreReady f1 c1
  pub at : result ≢ Err status.DeviceFault → told → FitsDevice (FitsShell start f1 c1) w
  pub spent : result ≡ Err status.DeviceFault → c1.volume.is_spent ≡ true
  pub answered : told → OnOk result ((line : List ℕ)
      × Answers start (shell_state f0 v.reads) q line (shell_state f1 w.reads) × (w.sent ≡ v.sent ++ line))
  pub left : told
      → IfErr result (λ why. LeftBy why (shell_service start) (shell_state f0 v.reads) q (shell_state f1 w.reads)
      v.sent w.sent)
  pub any_moment : told → LeavesOnly v w (IsInAnswer (shell_service start) (shell_state f0 v.reads) q v.sent)
  pub still : told → OnOk result (EndsBySending v w)
  pub behind : KeepsBehind told c0 c1 v w
  pub stops : IfErr result (λ why. (why ≡ status.DeviceFault) ⊎ (why ≡ status.PutFault))
  pub faults : CountsFaultOf status.DeviceFault result v.faults w.faults
  pub put_faults : CountsFaultOf status.PutFault result v.put_faults w.put_faults
