-- What follows of the definitions.
use Rattle.std.specs.Prelude.{◌≡◌, ℕ, List, Option}
use Rattle.script_text.specs.Pieces.{all_lines}
use Rattle.tsd_model.specs.Reach.{reach}
use Rattle.tsd_model.specs.Valid.{IsValid}
use Rattle.tsd_model.specs.World.{World, has_number}
use Rattle.tsd_words.specs.Lines.{line_of}
use Rattle.image_audit.specs.declared.entry.Entry.{Entry}
use Rattle.image_audit.specs.declared.verdict.Verdict.TheVariants as verdict
use Rattle.image_audit.specs.Entries.{is_listed}
use Rattle.image_audit.specs.Texts.{verdict_words}
use Rattle.audit_runs.specs.Audit.{IsAudit}
use Rattle.audit_runs.specs.Certificate.{IsCertificate}
use Rattle.audit_runs.specs.Verify.{IsVerdictOver}

-- the answer yes, of so many blocks
abbrev pub yes_line : ℕ → List ℕ
yes_line n = line_of (verdict_words (verdict.Yes n))

-- What `audit` puts is answered yes over the same world.
abbrev pub AuditsAreAnsweredYes : Type 0
AuditsAreAnsweredYes =
    (w : World) (text answer : List ℕ) → IsValid w → IsAudit w text → IsVerdictOver w (all_lines text) answer
    → (n : ℕ) × (answer ≡ yes_line n)

-- Where the answer is yes, whoever made the certificate, exactly the listed blocks are reached.
abbrev pub YesMeansReached : Type 0
YesMeansReached =
    (w : World) (lines : List (List ℕ)) (n : ℕ) → IsValid w → IsVerdictOver w lines (yes_line n)
    → (entries : List (Option Entry)) × IsCertificate lines w.geometry.blocks entries
    × ((b : ℕ) → is_listed entries b ≡ has_number (reach w) b)
