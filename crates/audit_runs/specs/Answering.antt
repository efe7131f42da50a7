-- An answer to the lines of an input, while it is found.
use Rattle.std.specs.Prelude.{ℕ, ◌^◌, ◌≤◌, List, Result, Ok, Err, ⊤, length}
use Rattle.serving.specs.Ran.{Taking}
use Rattle.tsd_words.specs.declared.status.Status.{Status}
use Rattle.tsd_words.specs.declared.status.Status.TheVariants as status
use Rattle.audit_runs.specs.Verify.{IsTakenBy}

-- the input was taken to its end, and this holds of what comes and its bytes; or the status says how far it was taken
abbrev pub IsAnsweredTo : {T : Type 0} → Result T Status → Taking → (T → List ℕ → Type 0) → List ℕ → Type 0
IsAnsweredTo (Ok x) source holds bytes = (length bytes ≤ 2 ^ 40) × source.at_end × holds x bytes
IsAnsweredTo (Err why) source holds bytes = IsTakenBy why source bytes

pub record HasAnswered {T : Type 0} (result : Result T Status) (source : Taking)
    (holds : T → List ℕ → Type 0) : Type 0 where
  pub bytes : List ℕ
  pub came_in : source.came bytes
  pub taken : IsAnsweredTo result source holds bytes

-- why no answer was found, once the image was opened
abbrev pub IsUnread : Status → Type 0
IsUnread status.NoMemory = ⊤
IsUnread status.SourceFault = ⊤
IsUnread status.TooLong = ⊤
IsUnread r = ⊥

-- or at all
abbrev pub IsUnanswered : Status → Type 0
IsUnanswered (status.NotImage why) = ⊤
IsUnanswered status.DeviceFault = ⊤
IsUnanswered r = IsUnread r
