use Rattle.std.proofs.Common.{◌≡◌, ◌∙◌, [], List, sym, ap, subst}
use Rattle.gathered_tasks.proofs.Common.{IsInMemory, LeavesEither, OnOk, Patch, State, gathered, held_state, state_on, unless_err}
use Rattle.gathered_tasks.proofs.HoldLaws.{empty_fails, emptied_aside, emptied_at, emptied_moments, emptied_state, fault_of, same_of, works_of}
use Rattle.gathered_tasks.proofs.BelowGoes.{RanBelow, below_given, below_goes, below_world}
use Rattle.gathered_tasks.proofs.hold.on_device.Goals.{After-run, After-run-arg-2-1}
use Rattle.gathered_tasks.proofs.hold.on_device.Goals as goal

-- the journal was emptied, with nothing gathered
module _ (g : _) (c : After-run-arg-2-1 g) where
  well : {P : Type 0} → OnOk c.checkpoint.result P → P
  well p = unless_err c.checkpoint.result c.is_err.result c.if-is_err.false c.is_err.ensures.value p

  at : g.D.Device.told → IsInMemory c.args.core.now c.args.room.now.ring [] (g.D.Device.view c.args.dev.now)
  at t = subst (λ (b : List Patch). IsInMemory c.args.core.now c.args.room.now.ring b (g.D.Device.view c.args.dev.now)) c.requires.none (c.requires.at t)

  emptied : g.D.Device.told → state_on c.args.core.now (g.D.Device.view c.checkpoint.new.dev).reads ≡ held_state c.args.core.now (gathered c.args.room.now) (g.D.Device.view c.args.dev.now)
  emptied t =
      let k = c.checkpoint.ensures in
      emptied_state c.requires.ready.empty (at t) (well (k.firm t)) (well (k.at t)) (well (k.done t)) ∙ ap (λ (b : List Patch). held_state c.args.core.now b (g.D.Device.view c.args.dev.now)) (sym c.requires.none)

-- the task ran
ran : (g : _) (c : After-run g) → (g.D.Device.told → state_on c.args.core.now (g.D.Device.view c.checkpoint.new.dev).reads ≡ held_state c.args.core.now (gathered c.args.room.now) (g.D.Device.view c.args.dev.now))
    → RanBelow g.D.Device.told c.args.core.now c.run.new.core (g.D.Device.view c.checkpoint.new.dev) (g.D.Device.view c.run.new.dev) (g.T.Task.next c.args.task.now (held_state c.args.core.now (gathered c.args.room.now) (g.D.Device.view c.args.dev.now))) c.run.result
ran g c same =
    let e = c.run.ensures in
    record {
      ready = e.ready;
      empty = e.empty;
      at = e.at;
      closed = e.closed;
      size = e.size;
      spent = e.spent;
      sent = e.sent;
      any_moment = λ t. subst (λ (s : State). LeavesEither (g.D.Device.view c.checkpoint.new.dev) (g.D.Device.view c.run.new.dev) (g.T.Task.next c.args.task.now s)) (same t) (e.any_moment t);
      behind = e.behind;
      works = e.works;
      faults = e.faults;
    }

pub run-requires-clause-at : goal.run-requires-clause-at
run-requires-clause-at g c told =
    let k = c.checkpoint.ensures in
    emptied_at c.requires.ready.empty (at g c told) (well g c (k.firm told)) (well g c (k.at told)) (well g c (k.done told))

pub returns-then-is_err-clause-goes_on : goal.returns-then-is_err-clause-goes_on
returns-then-is_err-clause-goes_on g c =
    let k = c.checkpoint.ensures in
    empty_fails c.args.core.now (λ t. (c.requires.at t).firm) (λ t. (c.requires.at t).good) k.any_moment c.spend.new.self _ _ _ _ c.spend.ensures k.sent (works_of _ _ _ k.uses)
    (fault_of c.checkpoint.result c.is_err.result _ _ c.if-is_err.true c.is_err.ensures.value k.faults)

pub returns-clause-goes_on : goal.returns-clause-goes_on
returns-clause-goes_on g c =
    let i = (goal.at.returns-clause-goes_on g c).After-run-arg-2-1 in
    let k = c.checkpoint.ensures in
    below_goes g.D.Device.told c.args.core.now c.run.new.core _ (gathered c.args.room.now) _ (g.D.Device.view c.args.dev.now) (g.D.Device.view c.checkpoint.new.dev) (g.D.Device.view c.run.new.dev) _ (well g i k.empty) c.requires.none
    (λ t. g.met.D.Device.sound c.checkpoint.new.dev t) (emptied_moments c.args.core.now (λ t. (c.requires.at t).firm) (λ t. (c.requires.at t).good) k.any_moment _ _) (emptied_aside c.args.core.now (λ t. (c.requires.at t).firm) (λ t. (c.requires.at t).good) k.any_moment)
    k.sent (works_of _ _ _ k.uses) (same_of c.checkpoint.result c.is_err.result _ _ c.if-is_err.false c.is_err.ensures.value k.faults) (λ t. ap (λ (s : State). s.world) (emptied g i t)) c.run.result (ran g c (emptied g i))

pub returns-clause-base : goal.returns-clause-base
returns-clause-base g c told = below_world c.run.result (ran g c (emptied g (goal.at.returns-clause-base g c).After-run-arg-2-1)) told

pub returns-clause-given : goal.returns-clause-given
returns-clause-given g c told =
    let same = emptied g (goal.at.returns-clause-given g c).After-run-arg-2-1 in
    below_given (gathered c.args.room.now) (g.D.Device.view c.args.dev.now) c.run.result (ran g c same) c.requires.none (g.T.Task.given c.args.task.now) told (same told) (c.run.ensures.given told)
