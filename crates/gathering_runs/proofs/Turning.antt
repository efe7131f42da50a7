-- One turn behind the other.
use Rattle.std.proofs.Common.{◌≡◌, ◌≤◌, ℕ, List, [], ◌++◌, refl, sym, ◌∙◌, ap, subst, append-nil}
use Rattle.std.proofs.Math.Bridge.{le_prop}
use Rattle.std.proofs.Math.Logic.{∥∥₁_elim}
use Rattle.std.specs.Prelude.{Result, Ok, Err, OnOk}
use Rattle.image_device.specs.Image.{Image}
use Rattle.image_device.specs.View.{View, IsSound}
use Rattle.image_device.specs.Runs.{IsFirm, LeavesOnly}
use Rattle.image_device.proofs.Moments.{firm_image, started}
use Rattle.intent_journal.specs.Home.{home}
use Rattle.intent_journal.specs.Records.{JournalRecord}
use Rattle.intent_journal.specs.Ring.{IsRingAt}
use Rattle.intent_journal.proofs.Uses.{at_valid}
use Rattle.gathering.specs.Gathered.{cleared}
use Rattle.gathering.specs.Left.{IsHomeOf}
use Rattle.gathering.proofs.Closed.{cleared_home}
use Rattle.gathering.proofs.Merely.{joined_mere, weakened_mere}
use Rattle.serving.specs.Runs.{Run, Served}
use Rattle.serving.specs.Service.{Service}
use Rattle.gathering_runs.specs.Promise.{IsLeftByRun}
use Rattle.gathering_runs.specs.Sent.{IsSentBy}
use Rattle.gathering_runs.specs.Turns.{Turned}
use Rattle.tsd_words.specs.declared.status.Status.{Status}
use Rattle.gathering_runs.proofs.Outcome.{err_is_if}
use Rattle.gathering_runs.proofs.Sent.{sent_then}
use Rattle.gathering_runs.proofs.Joined.{of_earlier, of_later, of_none, served_joined}

-- time doesn't go back
pub later_mere : (old new : View) (P : Image → List ℕ → Type 0) → ∥ LeavesOnly old new P ∥₁ → old.clock ≤ new.clock
later_mere old new P leaves = ∥∥₁_elim leaves le_prop (λ (l : LeavesOnly old new P). l.later)

module _ {Q : Type 0} (k : Service Q) (part : Image → Image) where
  -- what went well so far
  pub record Went (s t : k.States) (old new : View) (qs : List Q) : Type 0 where
    pub served : Served k s old.sent qs t new.sent
    pub kept : part new.reads ≡ part old.reads
    pub any_moment : ∥ LeavesOnly old new (IsLeftByRun k part s old qs) ∥₁

  pub went : {T : Type 0} (r : Result T Status) (x : T) (s t : k.States) (old new : View) (qs : List Q) → r ≡ Ok x → Turned r k part s t old new qs → Went s t old new qs
  went (Ok y) x s t old new qs is turned = record { served = turned.served; kept = turned.kept; any_moment = turned.any_moment }
  went (Err e) x s t old new qs is turned = absurd (cc)

  pub turned_ok : {T : Type 0} (x : T) (s t : k.States) (old new : View) (qs : List Q) → Went s t old new qs → Turned {Q = Q} {T = T} (Ok x) k part s t old new qs
  turned_ok x s t old new qs w = record { served = w.served; stopped = tt; kept = w.kept; any_moment = w.any_moment }

  pub turned_err : {T : Type 0} (e : Status) (s t : k.States) (old new : View) (qs : List Q) → IsSentBy e k s old.sent qs new.sent → ∥ LeavesOnly old new (IsLeftByRun k part s old qs) ∥₁ → Turned {Q = Q} {T = T} (Err e) k part s t old new qs
  turned_err e s t old new qs sent left = record { served = tt; stopped = sent; kept = tt; any_moment = left }

  -- nothing was done
  pub went_nowhere : (s : k.States) (v : View) → IsSound v → IsFirm v → k.stands s v.reads → Went s s v v []
  went_nowhere s v sound firm stands = record {
    served = record { answers = []; run = refl; sent = sym (append-nil v.sent) };
    kept = refl;
    any_moment = ∣ started v (IsLeftByRun k part s v []) sound (λ x f now. let same = firm_image v firm x f now in (of_none k s v.sent [] x f (subst (λ y. k.stands s y) (sym same) stands) now.1, ap part same)) ∣₁;
  }

  -- what is left then
  pub left_then : (s m : k.States) (old mid new : View) (qs more : List Q) → Went s m old mid qs → ∥ LeavesOnly mid new (IsLeftByRun k part m mid more) ∥₁ → ∥ LeavesOnly old new (IsLeftByRun k part s old (qs ++ more)) ∥₁
  left_then s m old mid new qs more w left =
      joined_mere old mid new (IsLeftByRun k part s old (qs ++ more))
      (weakened_mere old mid (IsLeftByRun k part s old qs) (IsLeftByRun k part s old (qs ++ more)) w.any_moment (λ x f p. (of_earlier k s old.sent qs more x f p.0, p.1)))
      (weakened_mere mid new (IsLeftByRun k part m mid more) (IsLeftByRun k part s old (qs ++ more)) left (λ x f p. (of_later k s m old.sent mid.sent qs more x f w.served p.0, p.1 ∙ w.kept)))

  pub went_then : (s m t : k.States) (old mid new : View) (qs more : List Q) → Went s m old mid qs → Went m t mid new more → Went s t old new (qs ++ more)
  went_then s m t old mid new qs more a b = record {
    served = served_joined k s m t old.sent mid.sent new.sent qs more a.served b.served;
    kept = b.kept ∙ a.kept;
    any_moment = left_then s m old mid new qs more a b.any_moment;
  }

  -- what was sent where it stopped then
  pub sent_turned : {T : Type 0} (r : Result T Status) (e : Status) (s m t : k.States) (old mid new : View) (qs more : List Q) → r ≡ Err e → Went s m old mid qs → Turned r k part m t mid new more → IsSentBy e k s old.sent (qs ++ more) new.sent
  sent_turned r e s m t old mid new qs more is a b = sent_then k e s m old.sent mid.sent new.sent qs more a.served (err_is_if (λ w. IsSentBy w k m mid.sent more new.sent) r e is b.stopped)

  pub turned_then : {T : Type 0} (r : Result T Status) (s m t : k.States) (old mid new : View) (qs more : List Q) → Went s m old mid qs → Turned r k part m t mid new more → Turned r k part s t old new (qs ++ more)
  turned_then (Ok x) s m t old mid new qs more a b = turned_ok x s t old new (qs ++ more) (went_then s m t old mid new qs more a (went (Ok x) x m t mid new more refl b))
  turned_then (Err e) s m t old mid new qs more a b = turned_err e s t old new (qs ++ more) (sent_then k e s m old.sent mid.sent new.sent qs more a.served b.stopped) (left_then s m old mid new qs more a b.any_moment)

  -- the state at the end by another name
  pub turned_to : {T : Type 0} (r : Result T Status) (s t u : k.States) (old new : View) (qs : List Q) → Turned r k part s t old new qs → OnOk r (u ≡ t) → Turned r k part s u old new qs
  turned_to (Ok x) s t u old new qs turned same = record {
    stopped = tt;
    served = record { answers = turned.served.answers; run = subst (λ (z : k.States). Run k s qs turned.served.answers z) (sym same) turned.served.run; sent = turned.served.sent };
    kept = turned.kept;
    any_moment = turned.any_moment;
  }
  turned_to (Err e) s t u old new qs turned same = turned_err e s u old new qs turned.stopped turned.any_moment

  -- nothing was done between two groups
  pub went_between : (alike : (s : k.States) (x y : Image) → IsHomeOf (home x) y → k.stands s x → k.stands s y) (s : k.States) (v : View) (ring : List JournalRecord) → IsSound v → IsFirm v → IsRingAt ring v → k.stands s (cleared v.reads) → Went s s v v []
  went_between alike s v ring sound firm at stands =
      went_nowhere s v sound firm (alike s (cleared v.reads) v.reads (record { valid = at_valid at; stands = λ n out. sym (cleared_home v.reads n out) }) stands)
