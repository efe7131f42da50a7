-- A disk that was opened, and a run in groups from there as one from the start.
use Rattle.std.proofs.Common.{◌≡◌, inl, inr, ℕ, List, [], refl, sym, ◌∙◌, subst, append-nil}
use Rattle.std.proofs.Math.Logic.{∥∥₁_elim}
use Rattle.std.specs.Prelude.{Result, Ok, Err}
use Rattle.tsd_model.specs.World.{World}
use Rattle.tsd_model.specs.declared.geometry.Geometry.{Geometry}
use Rattle.tsd_model.specs.declared.requests.PlaceKind.{PlaceKind}
use Rattle.tsd_model.specs.declared.requests.Request.{Request}
use Rattle.image_device.specs.Runs.{IsFirm, LeavesOnly}
use Rattle.image_device.specs.View.{IsSound, View}
use Rattle.image_device.proofs.Moments.{joined, weakened}
use Rattle.image_layout.specs.Image.{Image}
use Rattle.image_world.specs.Behind.{LeavesBehind, behind, size_of_image}
use Rattle.image_world.specs.Faults.{IsGood}
use Rattle.image_world.specs.Stands.{Stands, world_of}
use Rattle.recovery.specs.Opening.{StandAlike}
use Rattle.tsd_words.specs.declared.status.Status.{Status}
use Rattle.tsd_words.specs.declared.status.Status.TheVariants as status
use Rattle.serving.specs.Input.{Spelling}
use Rattle.serving.specs.ModelRules.{Placed}
use Rattle.serving.specs.Ran.{Taking}
use Rattle.serving.specs.Runs.{IsBroken, Served}
use Rattle.serving.specs.Voice.{Voice}
use Rattle.image_runs.specs.Opened.{IsJudged, IsUnopened}
use Rattle.image_runs.specs.Served.{disk_service, start_of, IsAtEase}
use Rattle.image_runs.proofs.Behind.{behind_then}
use Rattle.gathering_runs.specs.Promise.{IsLeftByRun, IsOfPrefix}
use Rattle.gathering_runs.specs.Run.{AskedInGroups}
use Rattle.gathering_runs.specs.Sent.{SentInGroups}
use Rattle.image_groups.specs.Served.{GroupsEnd, ImageRanInGroups}

module _ (v : Voice) (kind : PlaceKind) (old mid : View) (qs : List Request) (opens : IsFirm old → LeavesOnly old mid (λ x f. StandAlike old.reads x × (f ≡ old.sent))) where
  -- what is left while an image is opened
  opening_left : IsFirm old → (w : World) → Stands old.reads w → LeavesOnly old mid (IsOfPrefix (disk_service v) (start_of kind old.reads) old.sent qs)
  opening_left firm w stands =
      let own : Stands old.reads (world_of old.reads) = record { good = stands.good; world = refl } in
      weakened old mid _ _ (opens firm) (λ x f left. record {
        first = [];
        rest = qs;
        parts = refl;
        answers = [];
        state = start_of kind old.reads;
        run = refl;
        stands = (left.0 (world_of old.reads)).0 own;
        sent = record { front = []; back = []; sent = left.1 ∙ sym (append-nil old.sent); whole = refl };
      })

  pub ends_opened : (r : Status) (new : View) (s now : Placed) (part : Image → Image) → s ≡ start_of kind old.reads → mid.sent ≡ old.sent
      → ∥ LeavesOnly mid new (IsLeftByRun (disk_service v) part s mid qs) ∥₁
      → SentInGroups r (disk_service v) s mid.sent qs new.sent
      → (r ≡ status.Done → Served (disk_service v) s mid.sent qs now new.sent)
      → (r ≡ status.Done → IsAtEase new now.state.world)
      → GroupsEnd r v kind old new qs
  ends_opened r new s now part at sent moments answered done ease =
      let start = start_of kind old.reads in
      let P = IsOfPrefix (disk_service v) start old.sent qs in
      record {
        any_moment = λ firm w stands.
            let prop : IsProp (∥ LeavesOnly old new P ∥₁) = hlevel in
            ∥∥₁_elim moments prop (λ (run : LeavesOnly mid new (IsLeftByRun (disk_service v) part s mid qs)).
            ∣ joined old mid new P (IsLeftByRun (disk_service v) part s mid qs) (opening_left firm w stands) run (λ x f left.
            subst (λ (b : List ℕ). IsOfPrefix (disk_service v) start b qs x f) sent (subst (λ (p : Placed). IsOfPrefix (disk_service v) p mid.sent qs x f) at left.0)) ∣₁);
        sent = subst (λ (b : List ℕ). SentInGroups r (disk_service v) (start_of kind old.reads) b qs new.sent) sent (subst (λ (p : Placed). SentInGroups r (disk_service v) p mid.sent qs new.sent) at answered);
        done = λ is. (now, here now (done is), ease is);
      }
    where
      here : (final : Placed) → Served (disk_service v) s mid.sent qs final new.sent → Served (disk_service v) (start_of kind old.reads) old.sent qs final new.sent
      here final it = subst (λ (b : List ℕ). Served (disk_service v) (start_of kind old.reads) b qs final new.sent) sent (subst (λ (p : Placed). Served (disk_service v) p mid.sent qs final new.sent) at it)

  -- nothing was opened, and nothing asked
  pub ends_unopened : v.acked [] ≡ 0 → (r : Status) → qs ≡ [] → mid.sent ≡ old.sent → IsUnopened r → GroupsEnd r v kind old mid qs
  ends_unopened nothing r none sent why =
      let served : Served (disk_service v) (start_of kind old.reads) old.sent qs (start_of kind old.reads) mid.sent =
      subst (λ (l : List Request). Served (disk_service v) (start_of kind old.reads) old.sent l (start_of kind old.reads) mid.sent) (sym none) (record { answers = []; run = refl; sent = sent ∙ sym (append-nil old.sent) }) in
      record {
        any_moment = λ firm w stands. ∣ opening_left firm w stands ∣₁;
        sent = unopened_sent r why served;
        done = λ is. absurd (subst IsUnopened is why);
      }
    where
      start : Placed
      start = start_of kind old.reads

      none_broken : Served (disk_service v) start old.sent qs start mid.sent → IsBroken (disk_service v) start old.sent qs mid.sent
      none_broken served = record { answered = []; rest = qs; parts = refl; answers = []; state = start; run = refl; sent = sent ∙ sym (append-nil old.sent); count = nothing }

      unopened_sent : (w : Status) → IsUnopened w → Served (disk_service v) start old.sent qs start mid.sent → SentInGroups w (disk_service v) start old.sent qs mid.sent
      unopened_sent (status.NotImage reason) h served = (start, served)
      unopened_sent status.DeviceFault h served = none_broken served
      unopened_sent status.NoMemory h served = none_broken served
      unopened_sent status.Done h served = absurd h
      unopened_sent status.Usage h served = absurd h
      unopened_sent status.SourceFault h served = absurd h
      unopened_sent status.PutFault h served = absurd h
      unopened_sent status.TooLong h served = absurd h
      unopened_sent status.Truncated h served = absurd h
      unopened_sent (status.RootDenied level) h served = absurd h

-- what lies behind the image stays where the loop leaves its part
pub behind_opened : (g : Geometry) (old mid new : View) (P : Image → List ℕ → Type 0) → IsSound mid → g ≡ size_of_image old.reads → LeavesBehind old mid
    → ∥ LeavesOnly mid new (λ x f. P x f × (behind g x ≡ behind g mid.reads)) ∥₁ → ∥ LeavesBehind old new ∥₁
behind_opened g old mid new P sound size opened moments =
    let prop : IsProp (∥ LeavesBehind old new ∥₁) = hlevel in
    ∥∥₁_elim moments prop (λ (run : LeavesOnly mid new (λ x f. P x f × (behind g x ≡ behind g mid.reads))).
    ∣ behind_then g old mid new sound size opened (weakened mid new (λ x f. P x f × (behind g x ≡ behind g mid.reads)) (λ x f. behind g x ≡ behind g mid.reads) run (λ x f left. left.1)) ∣₁)

-- what is said of a run doesn't say that the port is as it was
pub ran_alike : (r : Status) (v : Voice) (p : Spelling Request) (kind : PlaceKind) (limit : ℕ) (source : Taking) (tells A B : Type 0) (old new : View)
    → ImageRanInGroups r v p kind limit source (record { tells = tells; untouched = A; old = old; new = new })
    → ImageRanInGroups r v p kind limit source (record { tells = tells; untouched = B; old = old; new = new })
ran_alike r v p kind limit source tells A B old new ran = record {
  bytes = ran.bytes;
  came_in = ran.came_in;
  asked = ran.asked;
  these = elim ran.these [
    | inl closed ↦ inl (record { why = closed.why; untouched = closed.untouched; none = closed.none; sent = closed.sent; alike = closed.alike })
    | inr asked ↦ inr asked
  ];
  ends = ran.ends;
}

-- what holds of two values holds of two that are the same
pub of_same : {A : Type 0} (P : A → A → Type 0) (a b c d : A) → a ≡ b → c ≡ d → P a c → P b d
of_same P a b c d first second here = subst (λ x. P x d) first (subst (λ y. P a y) second here)

-- what is Ok is no error
abbrev was_ok : {T E : Type 0} → Result T E → Type 0
was_ok (Ok x) = Unit {0}
was_ok (Err e) = ⊥

pub ok_no_err : {T E : Type 0} (x : T) (e : E) → ◌≡◌ {A = Result T E} (Ok x) (Err e) → ⊥
ok_no_err x e is = subst was_ok is tt

-- a loop's status comes of a disk that was opened
pub judged_groups : (image : Image) (r : Status) (p : Spelling Request) (limit : ℕ) (bytes : List ℕ) (ended : Type 0) (qs : List Request) → AskedInGroups r p limit bytes ended qs → IsGood image → IsJudged image r
judged_groups image status.Done p limit bytes ended qs h good = good
judged_groups image status.SourceFault p limit bytes ended qs h good = good
judged_groups image status.PutFault p limit bytes ended qs h good = good
judged_groups image status.TooLong p limit bytes ended qs h good = good
judged_groups image status.Truncated p limit bytes ended qs h good = good
judged_groups image status.DeviceFault p limit bytes ended qs h good = tt
judged_groups image status.NoMemory p limit bytes ended qs h good = tt
judged_groups image (status.NotImage reason) p limit bytes ended qs h good = absurd h
judged_groups image status.Usage p limit bytes ended qs h good = absurd h
judged_groups image (status.RootDenied level) p limit bytes ended qs h good = absurd h

-- what couldn't be opened isn't done
pub not_unopened : (r : Status) → IsUnopened r → r ≡ status.Done → ⊥
not_unopened r why is = subst IsUnopened is why
