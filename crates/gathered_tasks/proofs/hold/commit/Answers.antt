use Rattle.std.proofs.Common.{◌≡◌, ◌∙◌, List, sym, ap, subst}
use Rattle.gathered_tasks.proofs.Common.{AgreeBut, LeavesOnly, OnOk, Patch, batch_of, gathered, held_state, home, is_journal, overlaid, unless_err}
use Rattle.intent_journal.specs.Crash.{IsBeforeOrAfter}
use Rattle.gathered_tasks.proofs.HoldLaws.{commit_done, commit_fails, committed_base, committed_state, fault_of, same_of, works_of}
use Rattle.gathered_tasks.proofs.hold.commit.Goals.{After-outcome-1, Else-is_err}
use Rattle.gathered_tasks.proofs.hold.commit.Goals as goal

-- the batch is what was gathered
module _ (g : _) (c : After-outcome-1 g) where
  batch_is : c.unwrap-kept.result.batch ≡ gathered c.args.room.now
  batch_is = sym (ap batch_of (sym c.take.ensures.value ∙ c.unwrap-kept.ensures))

  leaves : g.D.Device.told → LeavesOnly (g.D.Device.view c.args.dev.now) (g.D.Device.view c.commit-outcome.new.dev) (λ x f. IsBeforeOrAfter (gathered c.args.room.now) (g.D.Device.view c.args.dev.now) x × (f ≡ (g.D.Device.view c.args.dev.now).sent))
  leaves t = subst (λ (b : List Patch). LeavesOnly (g.D.Device.view c.args.dev.now) (g.D.Device.view c.commit-outcome.new.dev) (λ x f. IsBeforeOrAfter b (g.D.Device.view c.args.dev.now) x × (f ≡ (g.D.Device.view c.args.dev.now).sent))) batch_is (c.commit-outcome.ensures.any_moment t)

-- it was committed
module _ (g : _) (c : Else-is_err g) where
  well : {P : Type 0} → OnOk c.commit-outcome.result P → P
  well p = unless_err c.commit-outcome.result c.is_err.result c.if-is_err.false c.is_err.ensures.value p

  done : g.D.Device.told → AgreeBut is_journal (overlaid (gathered c.args.room.now) (home (g.D.Device.view c.args.dev.now).reads)) (home (g.D.Device.view c.commit-outcome.new.dev).reads)
  done t = subst (λ (b : List Patch). AgreeBut is_journal (overlaid b (home (g.D.Device.view c.args.dev.now).reads)) (home (g.D.Device.view c.commit-outcome.new.dev).reads)) (sym (ap batch_of (sym c.take.ensures.value ∙ c.unwrap-kept.ensures))) (well (c.commit-outcome.ensures.done t))

pub returns-then-is_err-clause-goes_on : goal.returns-then-is_err-clause-goes_on
returns-then-is_err-clause-goes_on g c =
    let k = c.commit-outcome.ensures in
    commit_fails c.requires.ready.empty c.requires.at (leaves g (goal.at.returns-then-is_err-clause-goes_on g c).After-outcome-1) c.spend.new.self _ _ _ c.spend.ensures k.sent (works_of _ _ _ k.uses)
    (fault_of c.commit-outcome.result c.is_err.result _ _ c.if-is_err.true c.is_err.ensures.value k.faults)

pub returns-clause-goes_on : goal.returns-clause-goes_on
returns-clause-goes_on g c =
    let k = c.commit-outcome.ensures in
    commit_done c.requires.ready.empty c.requires.at (leaves g (goal.at.returns-clause-goes_on g c).After-outcome-1) _ _ _ c.requires.ready.ready k.sent (works_of _ _ _ k.uses)
    (same_of c.commit-outcome.result c.is_err.result _ _ c.if-is_err.false c.is_err.ensures.value k.faults) (well g c k.empty) (λ t. well g c (k.firm t)) (λ t. well g c (k.at t)) (done g c)

pub returns-clause-state : goal.returns-clause-state
returns-clause-state g c t =
    let k = c.commit-outcome.ensures in
    ap (λ (b : List Patch). held_state c.args.core.now b (g.D.Device.view c.commit-outcome.new.dev)) (well g c k.empty)
    ∙ committed_state c.requires.ready.empty (c.requires.at t) (well g c (k.firm t)) (well g c (k.at t)) (done g c t)

pub returns-clause-base : goal.returns-clause-base
returns-clause-base g c t =
    let k = c.commit-outcome.ensures in
    committed_base c.requires.ready.empty (c.requires.at t) (well g c (k.firm t)) (well g c (k.at t)) (done g c t)
