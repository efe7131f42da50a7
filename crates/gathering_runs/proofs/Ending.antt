-- How a run of groups ends.
use Rattle.std.proofs.Common.{◌≡◌, inl, inr, ℕ, List, [], ◌++◌, take, refl, sym, ◌∙◌, ap, subst}
use Rattle.image_device.specs.Image.{Image}
use Rattle.image_device.specs.View.{View}
use Rattle.image_device.specs.Runs.{LeavesOnly}
use Rattle.gathering.proofs.Merely.{weakened_mere}
use Rattle.tsd_words.specs.declared.status.Status.{Status}
use Rattle.tsd_words.specs.declared.status.Status.TheVariants as status
use Rattle.serving.specs.Goes.{Handed}
use Rattle.serving.specs.Input.{Spelling, IsSpelling}
use Rattle.serving.specs.Prompt.{IsCutShort}
use Rattle.serving.specs.Ran.{AskedBy}
use Rattle.serving.specs.Service.{Service}
use Rattle.serving.specs.declared.intake.Intake.{Intake}
use Rattle.serving.proofs.Inputs.{asked_stopped}
use Rattle.gathering_runs.specs.Promise.{IsLeftByRun}
use Rattle.gathering_runs.specs.Run.{AskedInGroups}
use Rattle.gathering_runs.specs.Turns.{StopsBy}
use Rattle.gathering_runs.proofs.Rounds.{take_none}
use Rattle.gathering_runs.proofs.Joined.{of_earlier}

-- where it stops, the input isn't cut short
pub not_cut : (why : Status) → StopsBy why → IsCutShort why → ⊥
not_cut why (inl e) cut = subst IsCutShort e cut
not_cut why (inr (inl e)) cut = subst IsCutShort e cut
not_cut why (inr (inr e)) cut = subst IsCutShort e cut

-- where it stops, not all is done
pub not_done : (why : Status) → StopsBy why → why ≡ status.Done → ⊥
not_done why (inl e) done = cc
not_done why (inr (inl e)) done = cc
not_done why (inr (inr e)) done = cc

module _ {Q : Type 0} (p : Spelling Q) where
  -- by an input of which nothing came
  pub asked_none : (why : Status) (limit : ℕ) (ended : Type 0) → StopsBy why → p.requests [] ≡ [] → AskedInGroups why p limit [] ended []
  asked_none why limit ended stops none = go stops
    where
      same : [] ≡ p.requests (take limit [])
      same = sym none ∙ ap p.requests (sym (take_none limit))

      go : StopsBy why → AskedInGroups why p limit [] ended []
      go (inl e) = subst (λ r. AskedInGroups r p limit [] ended []) (sym e) (inl same)
      go (inr (inl e)) = subst (λ r. AskedInGroups r p limit [] ended []) (sym e) (inl same)
      go (inr (inr e)) = subst (λ r. AskedInGroups r p limit [] ended []) (sym e) (inl same)

  -- a request stopped it
  pub asked_then_stopped : IsSpelling p → (why : Status) (fed : List ℕ → Type 0) (ended : Type 0) (i : Intake) (bytes : List ℕ) (qs : List Q) → StopsBy why → Handed p fed ended i bytes qs → (more : List Q) × AskedInGroups why p i.limit bytes ended (qs ++ more)
  asked_then_stopped lawful why fed ended i bytes qs (inl e) handed =
      subst (λ r. (more : List Q) × AskedInGroups r p i.limit bytes ended (qs ++ more)) (sym e) (asked_stopped p lawful status.DeviceFault fed ended i bytes qs (inl refl) handed)
  asked_then_stopped lawful why fed ended i bytes qs (inr (inl e)) handed =
      subst (λ r. (more : List Q) × AskedInGroups r p i.limit bytes ended (qs ++ more)) (sym e) (asked_stopped p lawful status.PutFault fed ended i bytes qs (inr refl) handed)
  asked_then_stopped lawful why fed ended i bytes qs (inr (inr e)) handed =
      subst (λ r. (more : List Q) × AskedInGroups r p i.limit bytes ended (qs ++ more)) (sym e) (asked_stopped p lawful status.DeviceFault fed ended i bytes qs (inl refl) handed)

  -- it stopped in the end
  pub asked_to_end : (why : Status) (limit : ℕ) (ended : Type 0) (bytes : List ℕ) (qs : List Q) → StopsBy why → AskedBy status.Done p limit bytes ended qs → AskedInGroups why p limit bytes ended qs
  asked_to_end why limit ended bytes qs (inl e) all = subst (λ r. AskedInGroups r p limit bytes ended qs) (sym e) (inr (all.0, all.1, all.3))
  asked_to_end why limit ended bytes qs (inr (inl e)) all = subst (λ r. AskedInGroups r p limit bytes ended qs) (sym e) (inr (all.0, all.1, all.3))
  asked_to_end why limit ended bytes qs (inr (inr e)) all = subst (λ r. AskedInGroups r p limit bytes ended qs) (sym e) (inr (all.0, all.1, all.3))

-- more requests behind
pub left_longer : {Q : Type 0} (k : Service Q) (part : Image → Image) (s : k.States) (old new : View) (qs more : List Q) → ∥ LeavesOnly old new (IsLeftByRun k part s old qs) ∥₁ → ∥ LeavesOnly old new (IsLeftByRun k part s old (qs ++ more)) ∥₁
left_longer k part s old new qs more left = weakened_mere old new (IsLeftByRun k part s old qs) (IsLeftByRun k part s old (qs ++ more)) left (λ x f p. (of_earlier k s old.sent qs more x f p.0, p.1))
