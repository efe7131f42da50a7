use Rattle.std.proofs.Common.{◌≡◌, false, sym, ap, subst}
use Rattle.std.specs.Prelude.{Result, Ok, Err, IfOk}
use Rattle.tsd_model.specs.World.{World}
use Rattle.tsd_model.specs.Sessions.{Sessions}
use Rattle.tsd_model.specs.Step.{Outcome, gives, step}
use Rattle.tsd_model.specs.declared.memory.NoMemory.{NoMemory}
use Rattle.tsd_model.specs.declared.replies.Reply.{Reply}
use Rattle.disk_laws.specs.Reached.{KeepsWhatIsReached}
use Rattle.disk_laws.specs.Reclaiming.{ReclaimsTheLost}
use Rattle.disk_laws.proofs.ReclaimLaws.{reached_stays, last_pointer}
use Rattle.plain_disk.proofs.step.plain_step.Goals as goal

-- what holds of the world after the step holds of the one that is answered
of_answer : (P : World → Type 0) (o : Outcome) (r : Result (World × Sessions × Reply) NoMemory) → IfOk r (λ x. gives x.0 x.1 x.2 ≡ o) → P o.state.world → IfOk r (λ x. P x.0)
of_answer P o (Ok x) is h = subst P (ap (λ (p : Outcome). p.state.world) (sym is)) h
of_answer P o (Err e) is h = tt

pub returns-clause-reached : goal.returns-clause-reached
returns-clause-reached c = λ valid.
    let q = c.args.request.now in
    of_answer (KeepsWhatIsReached c.args.world.now) (step c.args.kind (record { world = c.args.world.now; sessions = c.args.sessions.now }) q) c.carry_out.result c.carry_out.ensures
    (reached_stays c.args.kind (record { world = c.args.world.now; sessions = c.args.sessions.now }) q false valid)

pub returns-clause-last_pointer : goal.returns-clause-last_pointer
returns-clause-last_pointer c = λ valid none.
    let q = c.args.request.now in
    of_answer (ReclaimsTheLost c.args.world.now) (step c.args.kind (record { world = c.args.world.now; sessions = c.args.sessions.now }) q) c.carry_out.result c.carry_out.ensures
    (last_pointer c.args.kind (record { world = c.args.world.now; sessions = c.args.sessions.now }) q false valid none)
