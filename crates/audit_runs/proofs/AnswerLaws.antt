-- What a command puts once its work is done, and how it ends.
use Rattle.std.proofs.Common.{◌≡◌, inl, inr, ℕ, List, length, refl, ◌∙◌, ap, subst, Option}
use Rattle.image_layout.specs.Image.{Image}
use Rattle.image_world.specs.Faults.{IsGood}
use Rattle.image_world.specs.Stands.{world_of}
use Rattle.script_text.specs.Pieces.{all_lines}
use Rattle.serving.specs.Ran.{Taking}
use Rattle.tsd_model.specs.World.{World, primary_blocks}
use Rattle.tsd_model.specs.declared.geometry.Geometry.{Geometry}
use Rattle.disk_laws.specs.Bytes.{AreLike}
use Rattle.tsd_words.specs.declared.status.Status.{Status}
use Rattle.tsd_words.specs.declared.status.Status.TheVariants as status
use Rattle.std.specs.Prelude.{Result, Ok, Err, IfErr}
use Rattle.image_audit.specs.declared.entry.Entry.{Entry}
use Rattle.image_audit.specs.Depths.{AreReached}
use Rattle.image_audit.specs.Laws.{listings_from}
use Rattle.image_runs.specs.Opened.{IsJudged, IsUnopened}
use Rattle.image_runs.specs.Sending.{IsEnding}
use Rattle.audit_runs.specs.Answering.{HasAnswered, IsUnanswered, IsUnread}
use Rattle.audit_runs.specs.Audit.{HasAudited, IsAuditOf, listings_text}
use Rattle.audit_runs.specs.Certificate.{IsCertificate, IsFirstRefused}
use Rattle.audit_runs.specs.Verify.{HasVerified, IsVerdictOver, IsAnswerOf, IsVerifyEnding}
use Rattle.audit_runs.proofs.LikeLaws.{reached_like, verdict_like}

-- ---- audit

pub audit_on : (image : Image) (v w : World) (entries : List (Option Entry)) → IsGood image → AreLike v w → w ≡ world_of image → length entries ≡ v.geometry.blocks → AreReached v (primary_blocks v) entries
    → IsAuditOf image (listings_text (listings_from 0 entries))
audit_on image v w entries good like is blocks reached = record {
  good = good;
  audit = record {
    entries = entries;
    blocks = blocks ∙ ap (λ (g : Geometry). g.blocks) like.geometry ∙ ap (λ (x : World). x.geometry.blocks) is;
    reached = subst (λ (x : World). AreReached x (primary_blocks x) entries) is (reached_like v w like entries reached);
    lines = refl;
  };
}

pub unaudited : (why : Status) (image : Image) (before now : List ℕ) → IsUnopened why → IsJudged image why → now ≡ before → HasAudited why image before now
unaudited (status.NotImage why) image before now stops judged sent = (judged, sent)
unaudited status.DeviceFault image before now stops judged sent = sent
unaudited status.NoMemory image before now stops judged sent = sent
unaudited r image before now stops judged sent = absurd stops

pub unopened_ends : (why : Status) → IsUnopened why → IsEnding why
unopened_ends (status.NotImage why) stops = tt
unopened_ends status.DeviceFault stops = tt
unopened_ends status.NoMemory stops = tt
unopened_ends r stops = absurd stops

-- ---- verify

answer_like : (v w : World) (lines : List (List ℕ)) (text : List ℕ) → AreLike v w → IsVerdictOver v lines text → IsVerdictOver w lines text
answer_like v w lines text like (inl form) = inl (record { fault = form.fault; first = subst (λ (g : Geometry). IsFirstRefused lines g.blocks form.fault.line) like.geometry form.first; says = form.says })
answer_like v w lines text like (inr shown) = inr (record {
  entries = shown.entries;
  certificate = subst (λ (g : Geometry). IsCertificate lines g.blocks shown.entries) like.geometry shown.certificate;
  verdict = shown.verdict;
  shown = verdict_like v w like shown.entries shown.verdict shown.shown;
  says = shown.says;
})

pub answer_on : (image : Image) (v w : World) (bytes text : List ℕ) → IsGood image → AreLike v w → w ≡ world_of image → IsVerdictOver v (all_lines bytes) text → IsAnswerOf image bytes text
answer_on image v w bytes text good like is answer = record { good = good; answer = subst (λ (x : World). IsVerdictOver x (all_lines bytes) text) is (answer_like v w (all_lines bytes) text like answer) }

pub unverified : (why : Status) (image : Image) (bytes before now : List ℕ) → IsUnanswered why → IsJudged image why → now ≡ before → HasVerified why image bytes before now
unverified (status.NotImage why) image bytes before now stops judged sent = (judged, sent)
unverified status.DeviceFault image bytes before now stops judged sent = sent
unverified status.NoMemory image bytes before now stops judged sent = sent
unverified status.SourceFault image bytes before now stops judged sent = (judged, sent)
unverified status.TooLong image bytes before now stops judged sent = (judged, sent)
unverified r image bytes before now stops judged sent = absurd stops

pub unanswered_ends : (why : Status) → IsUnanswered why → IsVerifyEnding why
unanswered_ends (status.NotImage why) stops = tt
unanswered_ends status.DeviceFault stops = tt
unanswered_ends status.NoMemory stops = tt
unanswered_ends status.SourceFault stops = tt
unanswered_ends status.TooLong stops = tt
unanswered_ends r stops = absurd stops

pub unopened_unanswered : (why : Status) → IsUnopened why → IsUnanswered why
unopened_unanswered (status.NotImage why) stops = tt
unopened_unanswered status.DeviceFault stops = tt
unopened_unanswered status.NoMemory stops = tt
unopened_unanswered r stops = absurd stops

-- what stops the reading isn't the image
pub unread_judged : (image : Image) (why : Status) → IsUnread why → IsGood image → IsJudged image why
unread_judged image status.NoMemory stops good = tt
unread_judged image status.SourceFault stops good = good
unread_judged image status.TooLong stops good = good
unread_judged image r stops good = absurd stops

-- ---- an answer over an open volume, of the image that it was opened from

pub answered_on : {T : Type 0} (r : Result T Status) (source : Taking) (P Q : T → List ℕ → Type 0) → ((x : T) (bytes : List ℕ) → P x bytes → Q x bytes) → HasAnswered r source P → HasAnswered r source Q
answered_on (Ok x) source P Q more a = record { bytes = a.bytes; came_in = a.came_in; taken = (a.taken.0, a.taken.1, more x a.bytes a.taken.2) }
answered_on (Err why) source P Q more a = record { bytes = a.bytes; came_in = a.came_in; taken = a.taken }

pub judged_on : {T : Type 0} (r : Result T Status) (image : Image) → IsGood image → IfErr r IsUnread → IfErr r (IsJudged image)
judged_on (Ok x) image good stops = tt
judged_on (Err why) image good stops = unread_judged image why stops good
