-- A text that is put once the work is done.
use Rattle.std.proofs.Common.{◌≡◌, ℕ, Bool, ◌-◌, List, ◌++◌, length, refl, sym, ◌∙◌, ap, subst}
use Rattle.std.specs.Prelude.{Result, Ok, Err, OnOk, OnErr}
use Rattle.image_device.specs.declared.device.Failed.{Failed}
use Rattle.image_runs.proofs.Common.{World, free_count, Geometry, free_count_like, View, IsPart, IsSound, IsLeftInPut, IsFirm, LeavesOnly, joined, weakened, leaves_now, firm_image, CountsFault, CountsFaultOf, Rose, Image, Stands, StandAlike, IsAtEase, IsQuiet, Status, clean_line, clean_words, line_of}
use Rattle.disk_laws.specs.Bytes.{AreLike}
use Rattle.serving.specs.Faults.{TellsFaults, TellsPortFaults}
use Rattle.tsd_words.specs.declared.status.Status.TheVariants as status
use Rattle.tsd_words.specs.Lines.{info_lines, info_text}
use Rattle.image_runs.specs.declared.check.Telling.{Telling}
use Rattle.image_runs.specs.declared.check.Telling.TheVariants as telling
use Rattle.image_runs.specs.Check.{HasChecked, IsFinding, IsCheckFound, told_of}
use Rattle.image_runs.specs.Looking.{OnlyOpens}
use Rattle.image_runs.specs.Sending.{HasPut, IsEnding, ended_by, IsStopped, ProperFrontWasSent}

-- ---- what a crash leaves

-- The images that a put leaves are among those that the work before it may leave, with a front of the text sent.
pub put_behind : (old mid new : View) (text : List ℕ) (P Q : Image → List ℕ → Type 0) → IsSound mid → LeavesOnly old mid P → LeavesOnly mid new (IsLeftInPut text mid)
    → ((x : Image) (f : List ℕ) → P x f → Q x f) → ((x : Image) (f : List ℕ) → P x mid.sent → IsPart mid.sent text f → Q x f) → LeavesOnly old new Q
put_behind old mid new text P Q sound before putting same more =
    joined old mid new Q (IsLeftInPut text mid) (weakened old mid P Q before same) putting (λ x f left. more x f (leaves_now old mid P sound before x mid.sent (left.0, refl)) left.1)

-- the same over an image that was opened and no more
pub told_moments : {told : Type 0} {text : List ℕ} {done r : Status} {old mid new : View} (Q : List ℕ → Type 0) → told → (told → IsSound mid) → HasPut told text done r mid new → OnlyOpens told old mid → IsFirm old
    → ((f : List ℕ) → f ≡ old.sent → Q f) → ((f : List ℕ) → IsPart old.sent text f → Q f) → LeavesOnly old new (λ x f. StandAlike old.reads x × Q f)
told_moments {text = text} {old = old} {mid = mid} {new = new} Q tells sound has opens firm none some =
    put_behind old mid new text (λ x f. StandAlike old.reads x × (f ≡ old.sent)) (λ x f. StandAlike old.reads x × Q f) (sound tells) (opens.any_moment tells firm) (has.puts.any_moment tells)
    (λ x f left. (left.0, none f left.1))
    (λ x f left part. (left.0, some f (subst (λ (b : List ℕ). IsPart b text f) (opens.sent tells) part)))

-- the same over a disk where nothing is loose
pub put_over : {told : Type 0} {text : List ℕ} {done r : Status} {old mid new : View} (P Q : Image → List ℕ → Type 0) → told → HasPut told text done r mid new → IsFirm mid → mid.sent ≡ old.sent
    → LeavesOnly old mid P → ((x : Image) (f : List ℕ) → P x f → Q x f) → ((f : List ℕ) → IsPart old.sent text f → Q mid.reads f) → LeavesOnly old new Q
put_over {text = text} {old = old} {mid = mid} {new = new} P Q tells has firm sent before same more =
    joined old mid new Q (IsLeftInPut text mid) (weakened old mid P Q before same) (has.puts.any_moment tells)
    (λ x f left. subst (λ (y : Image). Q y f) (sym (firm_image mid firm x mid.sent (left.0, refl))) (more f (subst (λ (b : List ℕ). IsPart b text f) sent left.1)))

-- nothing becomes loose by a put
pub still_firm : (mid new : View) → IsFirm mid → new.loose ≡ mid.loose → IsFirm new
still_firm mid new firm same n = ap (λ (l : ℕ → Bool). l n) same ∙ firm n

pub ease_put : {told : Type 0} {text : List ℕ} {done r : Status} {mid new : View} {w : World} → told → HasPut told text done r mid new → IsAtEase mid w → IsAtEase new w
ease_put {mid = mid} {new = new} {w = w} tells has ease = record {
  firm = still_firm mid new ease.firm (has.puts.loose tells);
  stands = subst (λ (x : Image). Stands x w) (sym (has.puts.reads tells)) ease.stands;
  quiet = subst (λ (x : Image). IsQuiet x) (sym (has.puts.reads tells)) ease.quiet;
}

-- ---- how a command ended that put a text

pub ends_put : {told : Type 0} {text : List ℕ} {done r : Status} {mid new : View} (S : Status → Type 0) → HasPut told text done r mid new → S done → S status.PutFault → S r
ends_put {done = done} S has whole front = subst S (sym has.ends) (go has.put)
  where
    go : (p : Result (Unit {0}) Failed) → S (ended_by p done)
    go (Ok u) = whole
    go (Err e) = front

-- what is said of it by what was sent since before the work
pub said_put : {told : Type 0} {text before : List ℕ} {done r : Status} {mid new : View} (S : Status → Type 0) → told → HasPut told text done r mid new → mid.sent ≡ before
    → (new.sent ≡ before ++ text → S done) → (ProperFrontWasSent before text new.sent → S status.PutFault) → S r
said_put {text = text} {before = before} {done = done} {mid = mid} {new = new} S tells has sent whole front = subst S (sym has.ends) (go has.put (has.puts.sent tells) (has.puts.part tells))
  where
    go : (p : Result (Unit {0}) Failed) → OnOk p (new.sent ≡ mid.sent ++ text) → OnErr p (ProperFrontWasSent mid.sent text new.sent) → S (ended_by p done)
    go (Ok u) all part = whole (all ∙ ap (λ (b : List ℕ). b ++ text) sent)
    go (Err e) all part = front (subst (λ (b : List ℕ). ProperFrontWasSent b text new.sent) sent part)

-- the counts of faults, where the work had none
pub faults_put : {told : Type 0} {text : List ℕ} {done r : Status} {old mid new : View} → HasPut told text done r mid new → IsFinding done → mid.faults ≡ old.faults → mid.put_faults ≡ old.put_faults → TellsPortFaults r old new
faults_put {done = done} {old = old} {mid = mid} {new = new} has finding device put = subst (λ (s : Status). TellsPortFaults s old new) (sym has.ends) (go has.put has.puts.faults)
  where
    go : (p : Result (Unit {0}) Failed) → CountsFault p mid.put_faults new.put_faults → TellsPortFaults (ended_by p done) old new
    go (Ok u) same = record {
      device_fault = λ e. absurd (subst IsFinding e finding);
      put_fault = λ e. absurd (subst IsFinding e finding);
      no_device_fault = λ _. has.puts.puts.faults ∙ device;
      no_put_fault = λ _. same ∙ put;
    }
    go (Err e) rose = record {
      device_fault = λ e. absurd (cc);
      put_fault = λ _. subst (λ (n : ℕ). Rose n new.put_faults) put rose;
      no_device_fault = λ _. has.puts.puts.faults ∙ device;
      no_put_fault = λ other. absurd (other refl);
    }

-- and where the work stopped, with nothing put
pub faults_stopped : {T : Type 0} (why : Status) (old new : View) → (why ≡ status.PutFault → ⊥) → CountsFaultOf {T = T} status.DeviceFault (Err why) old.faults new.faults → new.put_faults ≡ old.put_faults → TellsPortFaults why old new
faults_stopped why old new none faults put = record {
  device_fault = λ e. faults.0 (ap (λ (w : Status). Err w) e);
  put_fault = λ e. absurd (none e);
  no_device_fault = λ other. faults.1 (λ e. other (cc));
  no_put_fault = λ _. put;
}

-- and where work without a fault came before
pub faults_then : {r : Status} {source_before source_now : ℕ} {old mid new : View} → mid.faults ≡ old.faults → mid.put_faults ≡ old.put_faults → TellsFaults r source_before source_now mid new → TellsFaults r source_before source_now old new
faults_then {new = new} device put f = record {
  source_fault = f.source_fault;
  no_source_fault = f.no_source_fault;
  port = record {
    device_fault = λ e. subst (λ (n : ℕ). Rose n new.faults) device (f.port.device_fault e);
    put_fault = λ e. subst (λ (n : ℕ). Rose n new.put_faults) put (f.port.put_fault e);
    no_device_fault = λ other. f.port.no_device_fault other ∙ device;
    no_put_fault = λ other. f.port.no_put_fault other ∙ put;
  };
}

-- ---- check

-- the line of worlds that differ in bytes alone is one
pub clean_like : (v w : World) → AreLike v w → clean_line v ≡ clean_line w
clean_like v w like =
    ap (λ (g : Geometry). line_of (clean_words (g.blocks - free_count v) (free_count v) (length v.pairs))) like.geometry
    ∙ ap (λ (n : ℕ). line_of (clean_words (w.geometry.blocks - n) n (length v.pairs))) (free_count_like v w like)
    ∙ ap (λ (es : List (ℕ × ℕ)). line_of (clean_words (w.geometry.blocks - free_count w) (free_count w) (length es))) like.pairs

-- the lines of `info` too
pub info_like : (v w : World) → AreLike v w → info_text v ≡ info_text w
info_like v w like =
    ap (λ (n : ℕ). info_lines n v.geometry (free_count v) (length v.pairs)) like.version
    ∙ ap (λ (g : Geometry). info_lines w.version g (free_count v) (length v.pairs)) like.geometry
    ∙ ap (λ (n : ℕ). info_lines w.version w.geometry n (length v.pairs)) (free_count_like v w like)
    ∙ ap (λ (es : List (ℕ × ℕ)). info_lines w.version w.geometry (free_count w) (length es)) like.pairs

-- and so what is told
pub told_like : (t : Telling) (v w : World) → AreLike v w → told_of t v ≡ told_of t w
told_like telling.Clean v w like = clean_like v w like
told_like telling.Info v w like = info_like v w like

-- the line was put
pub checked_whole : (t : Telling) (found : Status) (image : Image) (text before now : List ℕ) → IsFinding found → IsCheckFound t image found text → now ≡ before ++ text → HasChecked t found image before now
checked_whole t status.Done image text before now finding is sent = (text, is, sent)
checked_whole t (status.NotImage why) image text before now finding is sent = (text, is, sent)
checked_whole t r image text before now finding is sent = absurd finding

-- what was found is how it ends
pub finding_ends : (s : Status) → IsFinding s → IsEnding s
finding_ends status.Done finding = tt
finding_ends (status.NotImage why) finding = tt
finding_ends r finding = absurd finding

-- nothing was looked at
pub unchecked : (t : Telling) (why : Status) (image : Image) (before now : List ℕ) → IsStopped why → now ≡ before → HasChecked t why image before now
unchecked t status.DeviceFault image before now stops sent = sent
unchecked t status.NoMemory image before now stops sent = sent
unchecked t r image before now stops sent = absurd stops
