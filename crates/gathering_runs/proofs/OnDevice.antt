-- Calls on the device itself.
use Rattle.std.proofs.Common.{◌≡◌, inl, inr, ℕ, ◌||◌, List, [], ◌∷◌, ◌++◌, refl, sym, ◌∙◌, ap, subst, append-nil}
use Rattle.image_device.specs.Image.{Image}
use Rattle.image_device.specs.View.{View, IsLeftInPut, IsSound}
use Rattle.image_device.specs.Runs.{IsFirm, LeavesOnly, LeavesPart}
use Rattle.image_device.proofs.Moments.{ends_in, firm_image, leaves_both, weakened}
use Rattle.image_device.proofs.Parts.{part_at_end}
use Rattle.intent_journal.specs.Crash.{IsBefore}
use Rattle.intent_journal.specs.Home.{home}
use Rattle.tsd_model.specs.declared.requests.Request.{Request}
use Rattle.tsd_model.specs.declared.replies.Reply.{Reply}
use Rattle.serving.specs.Handling.{DiskRules, StandsBeforeOrAfter}
use Rattle.serving.specs.Runs.{texts}
use Rattle.serving.specs.Service.{Service}
use Rattle.serving.specs.Voice.{Voice, spoken}
use Rattle.gathering.specs.Gathered.{cleared}
use Rattle.gathering.specs.Left.{IsHomeOf}
use Rattle.gathering_runs.specs.Promise.{IsLeftByRun, IsOfPrefix}
use Rattle.gathering_runs.proofs.Grouped.{home_cleared}
use Rattle.gathering_runs.proofs.Joined.{of_all, of_none}
use Rattle.gathering.proofs.Merely.{joined_mere}
use Rattle.tsd_words.specs.declared.status.Status.TheVariants as status
use Rattle.gathering_runs.specs.Sent.{IsSentBy}
use Rattle.gathering_runs.proofs.Sent.{sent_part}
use Rattle.gathering_runs.proofs.Turning.{Went, left_then, went_then}

module _ {Q : Type 0} (k : Service Q) (part : Image → Image) (s : k.States) (old new : View) where
  -- the state stayed
  pub left_resting : (qs : List Q) → LeavesOnly old new (λ x f. k.stands s x × (f ≡ old.sent)) → LeavesPart part old new → ∥ LeavesOnly old new (IsLeftByRun k part s old qs) ∥₁
  left_resting qs stands kept =
      ∣ weakened old new (λ x f. (k.stands s x × (f ≡ old.sent)) × (part x ≡ part old.reads)) (IsLeftByRun k part s old qs)
      (leaves_both old new (λ x f. k.stands s x × (f ≡ old.sent)) (λ x f. part x ≡ part old.reads) stands kept)
      (λ x f left. (of_none k s old.sent qs x f left.0.0 left.0.1, left.1)) ∣₁

  pub went_resting : (t : k.States) → IsSound new → t ≡ s → new.sent ≡ old.sent → LeavesOnly old new (λ x f. k.stands s x × (f ≡ old.sent)) → LeavesPart part old new → Went k part s t old new []
  went_resting t sound same sent stands kept = record {
    served = record { answers = []; run = sym same; sent = sent ∙ sym (append-nil old.sent) };
    kept = part_at_end part old new sound kept;
    any_moment = left_resting [] stands kept;
  }

  -- the records were put in place, or some of them
  module _ (alike : (x y : Image) → IsHomeOf (home x) y → k.stands s x → k.stands s y) (part_alike : (x y : Image) → IsHomeOf (home x) y → part y ≡ part x) (firm : IsFirm old) (stands : k.stands s (cleared old.reads)) where
    home_before : (x : Image) → IsBefore old x → IsHomeOf (home old.reads) x
    home_before x before = record { valid = before.valid; stands = λ n out. before.stands n (ap (λ b. b || old.loose n) out ∙ firm n) }

    pub left_in_place : (qs : List Q) → LeavesOnly old new (λ x f. IsBefore old x × (f ≡ old.sent)) → ∥ LeavesOnly old new (IsLeftByRun k part s old qs) ∥₁
    left_in_place qs leaves =
        ∣ weakened old new (λ x f. IsBefore old x × (f ≡ old.sent)) (IsLeftByRun k part s old qs) leaves
        (λ x f left.
        let has = home_before x left.0 in
        (of_none k s old.sent qs x f (alike (cleared old.reads) x (home_cleared old.reads x has) stands) left.1, part_alike old.reads x has)) ∣₁

    pub went_in_place : (t : k.States) → t ≡ s → new.sent ≡ old.sent → part new.reads ≡ part old.reads → LeavesOnly old new (λ x f. IsBefore old x × (f ≡ old.sent)) → Went k part s t old new []
    went_in_place t same sent kept leaves = record {
      served = record { answers = []; run = sym same; sent = sent ∙ sym (append-nil old.sent) };
      kept = kept;
      any_moment = left_in_place [] leaves;
    }

-- the put of a reply failed
pub sent_replied : (rules : DiskRules) (voice : Voice) (s t : rules.States) (q : Request) (old new end : View) (r : Reply) → rules.gives s q r t → IsSound end → new.sent ≡ old.sent → LeavesOnly new end (IsLeftInPut (voice.text r) new)
    → IsSentBy status.PutFault (spoken rules voice) s old.sent (q ∷ []) end.sent
sent_replied rules voice s t q old new end r given sound sent puts =
    let p = (ends_in new end (IsLeftInPut (voice.text r) new) sound puts).1 in
    sent_part (spoken rules voice) s t old.sent end.sent (q ∷ []) [] (voice.text r ∷ []) (t, (r, refl, given), refl)
    (record { front = p.front; back = p.back; sent = p.sent ∙ ap (λ l. l ++ p.front) sent; whole = append-nil (voice.text r) ∙ p.whole })

-- ---- a request and its reply
module _ (rules : DiskRules) (voice : Voice) (part : Image → Image) (s : rules.States) (q : Request) (old new : View) where
  one_text : (r : Reply) → texts (voice.text r ∷ []) ≡ voice.text r
  one_text r = append-nil (voice.text r)

  -- it was carried out, and nothing sent yet
  pub left_applied : LeavesOnly old new (λ x f. StandsBeforeOrAfter rules s q x × (f ≡ old.sent)) → LeavesPart part old new → ∥ LeavesOnly old new (IsLeftByRun (spoken rules voice) part s old (q ∷ [])) ∥₁
  left_applied stands kept =
      ∣ weakened old new (λ x f. (StandsBeforeOrAfter rules s q x × (f ≡ old.sent)) × (part x ≡ part old.reads)) (IsLeftByRun (spoken rules voice) part s old (q ∷ []))
      (leaves_both old new (λ x f. StandsBeforeOrAfter rules s q x × (f ≡ old.sent)) (λ x f. part x ≡ part old.reads) stands kept)
      (λ x f left. (here x f left.0.0 left.0.1, left.1)) ∣₁
    where
      here : (x : Image) (f : List ℕ) → StandsBeforeOrAfter rules s q x → f ≡ old.sent → IsOfPrefix (spoken rules voice) s old.sent (q ∷ []) x f
      here x f (inl before) same = of_none (spoken rules voice) s old.sent (q ∷ []) x f before same
      here x f (inr after) same =
          of_all (spoken rules voice) s after.1 old.sent (q ∷ []) (voice.text after.0 ∷ []) x f (after.1, (after.0, refl, after.2), refl) after.3
          (record { front = []; back = texts (voice.text after.0 ∷ []); sent = same ∙ sym (append-nil old.sent); whole = refl })

  -- then the reply was sent, or a front of it
  module _ (end : View) (r : Reply) (t : rules.States) (given : rules.gives s q r t) (sound : IsSound new) (firm : IsFirm new) (stands : rules.stands t new.reads) (sent : new.sent ≡ old.sent)
      (applied : LeavesOnly old new (λ x f. StandsBeforeOrAfter rules s q x × (f ≡ old.sent))) (kept : LeavesPart part old new) (puts : LeavesOnly new end (IsLeftInPut (voice.text r) new)) where
    same_part : part new.reads ≡ part old.reads
    same_part = part_at_end part old new sound kept

    in_put : LeavesOnly new end (IsLeftByRun (spoken rules voice) part s old (q ∷ []))
    in_put = weakened new end (IsLeftInPut (voice.text r) new) (IsLeftByRun (spoken rules voice) part s old (q ∷ [])) puts
        (λ x f left.
        let same = firm_image new firm x new.sent (left.0, refl) in (
          of_all (spoken rules voice) s t old.sent (q ∷ []) (voice.text r ∷ []) x f (t, (r, refl, given), refl) (subst (λ y. rules.stands t y) (sym same) stands)
              (record { front = left.1.front; back = left.1.back; sent = left.1.sent ∙ ap (λ l. l ++ left.1.front) sent; whole = one_text r ∙ left.1.whole }),
          ap part same ∙ same_part,
        ))

    pub left_replied : ∥ LeavesOnly old end (IsLeftByRun (spoken rules voice) part s old (q ∷ [])) ∥₁
    left_replied = joined_mere old new end (IsLeftByRun (spoken rules voice) part s old (q ∷ [])) (left_applied applied kept) ∣ in_put ∣₁

    pub went_replied : (m : rules.States) → t ≡ m → end.reads ≡ new.reads → end.sent ≡ new.sent ++ voice.text r → Went (spoken rules voice) part s m old end (q ∷ [])
    went_replied m same reads all = record {
      served = record { answers = voice.text r ∷ []; run = (t, (r, refl, given), same); sent = all ∙ ap (λ l. l ++ voice.text r) sent ∙ ap (λ l. old.sent ++ l) (sym (one_text r)) };
      kept = ap part reads ∙ same_part;
      any_moment = left_replied;
    }

-- ---- then the state stayed
module _ {Q : Type 0} (k : Service Q) (part now : Image → Image) (s m : k.States) (old mid new : View) (qs : List Q) (w : Went k part s m old mid qs) (same : now ≡ part) (stands : LeavesOnly mid new (λ x f. k.stands m x × (f ≡ mid.sent))) (kept : LeavesPart now mid new) where
  as_part : LeavesPart part mid new
  as_part = subst (λ p. LeavesPart p mid new) same kept

  pub left_stayed : ∥ LeavesOnly old new (IsLeftByRun k part s old qs) ∥₁
  left_stayed = subst (λ l. ∥ LeavesOnly old new (IsLeftByRun k part s old l) ∥₁) (append-nil qs) (left_then k part s m old mid new qs [] w (left_resting k part m mid new [] stands as_part))

  pub went_stayed : (t : k.States) → IsSound new → t ≡ m → new.sent ≡ mid.sent → Went k part s t old new qs
  went_stayed t sound state sent = subst (λ l. Went k part s t old new l) (append-nil qs) (went_then k part s m t old mid new qs [] w (went_resting k part m mid new t sound state sent stands as_part))
