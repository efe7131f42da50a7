-- What a run's status isn't.
use Rattle.std.specs.Prelude.{◌≡◌, ℕ}
use Rattle.std.proofs.Common.{inl, inr, subst}
use Rattle.tsd_model.specs.World.{World}
use Rattle.tsd_model.specs.declared.requests.PlaceKind.{PlaceKind}
use Rattle.tsd_model.specs.declared.requests.Request.{Request}
use Rattle.tsd_words.specs.declared.status.Status.{Status}
use Rattle.tsd_words.specs.declared.status.Status.TheVariants as status
use Rattle.serving.specs.Input.{Spelling}
use Rattle.serving.specs.Ran.{Moments, Taking}
use Rattle.serving.specs.Voice.{Voice}
use Rattle.audit_runs.specs.Verify.{VerifyRan}
use Rattle.image_copy.specs.Copied.{IsCopyEnding}
use Rattle.image_runs.specs.Sending.{IsEnding}
use Rattle.image_runs.specs.Served.{ImageRan}
use Rattle.image_runs.specs.Fresh.{FreshRan}
use Rattle.fs_trees.specs.declared.ask.ShellKind.{ShellKind}
use Rattle.shell_text.specs.declared.file_ask.FileAsk.{FileAsk}
use Rattle.tsd_model.specs.declared.caps.Cap.{Cap}
use Rattle.image_shell.specs.Served.{ShellRan}
use Rattle.image_groups.specs.Served.{ImageRanInGroups}

-- The words of a run were a command.
pub no_usage : (v : Voice) (p : Spelling Request) (kind : PlaceKind) (limit : ℕ) (source : Taking) (port : Moments) → ImageRan status.Usage v p kind limit source port → ⊥
no_usage v p kind limit source port ran = elim ran.these [ inl closed ↦ closed.why | inr asked ↦ asked ]

-- nor of frames in groups
pub no_usage_groups : (v : Voice) (p : Spelling Request) (kind : PlaceKind) (limit : ℕ) (source : Taking) (port : Moments) → ImageRanInGroups status.Usage v p kind limit source port → ⊥
no_usage_groups v p kind limit source port ran = elim ran.these [ inl closed ↦ closed.why | inr asked ↦ asked ]

-- nor was it none where the disk was made first
pub no_usage_fresh : (v : Voice) (p : Spelling Request) (kind : PlaceKind) (w : World) (limit : ℕ) (source : Taking) (port : Moments) → FreshRan status.Usage v p kind w limit source port → ⊥
no_usage_fresh v p kind w limit source port ran = elim ran.these [ inl closed ↦ closed.why | inr asked ↦ asked ]

-- nor of a tree of files
pub no_usage_shell : (layout : ShellKind) (p : Spelling FileAsk) (root : ℕ) (cap : Cap) (limit : ℕ) (source : Taking) (port : Moments) → ShellRan status.Usage layout p root cap limit source port → ⊥
no_usage_shell layout p root cap limit source port ran = elim ran.these [ inl closed ↦ closed.why | inr asked ↦ asked.0 ]

-- a command without input ends otherwise
pub no_usage_ending : (r : Status) → IsEnding r → r ≡ status.Usage → ⊥
no_usage_ending r ending e = subst IsEnding e ending

pub no_source_ending : (r : Status) → IsEnding r → r ≡ status.SourceFault → ⊥
no_source_ending r ending e = subst IsEnding e ending

-- nor one that reads a certificate
pub no_usage_verify : (source : Taking) (port : Moments) → VerifyRan status.Usage source port → ⊥
no_usage_verify source port ran = ran.ending

-- nor a copy
pub no_usage_copy : (r : Status) → IsCopyEnding r → r ≡ status.Usage → ⊥
no_usage_copy r ending e = subst IsCopyEnding e ending

pub no_source_copy : (r : Status) → IsCopyEnding r → r ≡ status.SourceFault → ⊥
no_source_copy r ending e = subst IsCopyEnding e ending

pub ruleset other_endings = (no_usage_ending, no_source_ending, no_usage_verify, no_usage_copy, no_source_copy)
