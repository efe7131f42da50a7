use Rattle.std.proofs.Common.{[], ◌≡◌, Bool, List, refl, sym, ◌∙◌, subst, length, Ok}
use Rattle.volume.proofs.Common.{Failed, owed, IsOperation, IsStepPut, Volume, AreParts, tables_in, told_by, are_tables, committed_op, any_bytes, IsOp, op_told}
use Rattle.volume.proofs.SweepRun.{IsSweepRun, AreMarksOf, run_none, run_made, run_failed, may_put, parts_then, marks_stay, cheap, lowers, step_op}
use Rattle.volume.proofs.SweepCosts.{paid_failed, paid_all, used_all}
use Rattle.volume.proofs.volume.Volume.make_sweep_steps.Given
use Rattle.volume.proofs.volume.Volume.make_sweep_steps.Goals as goal

pub mark-requires-clause-tables : goal.mark-requires-clause-tables
mark-requires-clause-tables g c = let i = c.self.inside in are_tables i.header i.pointers i.counts i.live i.caps i.is_sweeping (length i.marks) i.ahead i.is_ready c.self.invariant

pub loop-step-init : goal.loop-step-init
loop-step-init g c =
    let v = c.self.invariant in
    record {
      run = subst (λ (w : Volume). IsSweepRun g.D.Device.told c.args.self.now (g.D.Device.view c.args.dev.now) w (g.D.Device.view c.args.dev.now)) (sym c.self.view_is)
          (run_none g.D.Device.told c.args.self.now (g.D.Device.view c.args.dev.now) (g.met.D.Device.sound c.args.dev.now) c.requires.sweeping c.requires.unready c.requires.unspent c.requires.at);
      parts = record {
        pointers = v.pointers;
        counts = v.counts;
        live = v.live;
        kept_version = v.kept_version;
        kept = v.kept;
        marks_each = c.mark.ensures.size ∙ v.marks_each;
        sound = v.sound;
        counted = v.counted;
        hidden = v.hidden;
        ahead = v.ahead;
        begun = v.begun;
        still = v.still;
      };
      marks = c.mark.ensures.reached;
    }

pub next_sweep_step-requires-clause-tables : goal.next_sweep_step-requires-clause-tables
next_sweep_step-requires-clause-tables g c = let i = c.loop-step.self-inside in are_tables i.header i.pointers i.counts i.live i.caps i.is_sweeping (length i.marks) i.ahead i.is_ready c.loop-step.invariant.parts

pub put_step-requires-clause-tables : goal.put_step-requires-clause-tables
put_step-requires-clause-tables g c =
    let i = c.loop-step.self-inside in (
      tables_in i.header i.pointers i.counts i.live i.caps i.is_sweeping,
      may_put i.header i.pointers i.counts i.live i.caps i.is_sweeping i.marks i.ahead i.is_ready c.loop-step.invariant.parts c.in-Some.step c.in-Some.ensures.step,
    )

-- ---- a step that was committed

-- the volume before the step and after it
abbrev was : (g : Given.Over) → goal.In_ok-outcome g → Volume
was g c = let i = c.loop-step.self-inside in record { tables = tables_in i.header i.pointers i.counts i.live i.caps i.is_sweeping; ring = i.ring; is_ready = i.is_ready; is_spent = i.is_spent }

abbrev now : (g : Given.Over) → goal.In_ok-outcome g → Volume
now g c = let i = c.loop-step.self-inside in record { tables = tables_in i.header c.put_step.new.pointers c.put_step.new.counts c.put_step.new.live i.caps i.is_sweeping; ring = c.commit-outcome.new.self; is_ready = i.is_ready; is_spent = c.is_err-self-inside.result }

put : (g : Given.Over) (c : goal.In_ok-outcome g) → IsStepPut (was g c).tables c.in-Some.step (now g c).tables c.put_step.new.batch
put g c =
    let i = c.loop-step.self-inside in
    c.put_step.ensures.put (was g c).tables (may_put i.header i.pointers i.counts i.live i.caps i.is_sweeping i.marks i.ahead i.is_ready c.loop-step.invariant.parts c.in-Some.step c.in-Some.ensures.step)

this : (g : Given.Over) (c : goal.In_ok-outcome g) → IsOp any_bytes (was g c) (now g c).tables c.put_step.new.batch 33 (owed (now g c).tables) (λ w. w)
this g c =
    let i = c.loop-step.self-inside in
    let e = c.put_step.ensures in
    let run = c.loop-step.invariant.run in
    step_op i.header i.pointers i.counts i.live i.caps i.is_sweeping i.marks i.ahead i.is_ready c.loop-step.invariant.parts c.in-Some.step c.in-Some.ensures.step c.in-Some.ensures.kept
    c.put_step.new.pointers c.put_step.new.counts c.put_step.new.live c.put_step.new.batch (put g c) e.slots e.counts e.live e.shown run.unready (was g c) (now g c) run.sweeping refl refl

operation : (g : Given.Over) (c : goal.In_ok-outcome g) → IsOperation g.D.Device.told [] (λ w. w) (was g c) (now g c) (g.D.Device.view c.loop-step.dev) (g.D.Device.view c.commit-outcome.new.dev) c.commit-outcome.result
operation g c =
    let e = c.commit-outcome.ensures in
    committed_op g.D.Device.told c.commit-outcome.result any_bytes (was g c) (now g c) (g.D.Device.view c.loop-step.dev) (g.D.Device.view c.commit-outcome.new.dev) c.put_step.new.batch 33 (owed (now g c).tables) _ (λ w. w) (this g c)
    c.loop-step.invariant.run.operation.at (λ told. tt) e.done e.at e.firm e.any_moment e.sent e.uses e.faults c.is_err-self-inside.ensures.value refl

then : (g : Given.Over) (c : goal.In_ok-outcome g) → let i = c.loop-step.self-inside in AreParts i.header c.put_step.new.pointers c.put_step.new.counts c.put_step.new.live i.caps i.is_sweeping (length c.next_sweep_step.new.marks) i.ahead i.is_ready
then g c =
    let i = c.loop-step.self-inside in
    let e = c.put_step.ensures in
    subst (λ (ms : List Bool). AreParts i.header c.put_step.new.pointers c.put_step.new.counts c.put_step.new.live i.caps i.is_sweeping (length ms) i.ahead i.is_ready) (sym c.next_sweep_step.ensures.marks)
    (parts_then i.header i.pointers i.counts i.live i.caps i.is_sweeping i.marks i.ahead i.is_ready c.loop-step.invariant.parts c.in-Some.step c.in-Some.ensures.step c.in-Some.ensures.kept
    c.put_step.new.pointers c.put_step.new.counts c.put_step.new.live c.put_step.new.batch (put g c) e.slots e.counts e.live e.shown c.loop-step.invariant.run.unready)

pub loop-step-smaller : goal.loop-step-smaller
loop-step-smaller g c =
    let i = c.loop-step.self-inside in
    let e = c.put_step.ensures in
    lowers i.header i.pointers i.counts i.live i.caps i.is_sweeping i.marks i.ahead i.is_ready c.loop-step.invariant.parts c.in-Some.step c.in-Some.ensures.step c.in-Some.ensures.kept
    c.put_step.new.pointers c.put_step.new.counts c.put_step.new.live c.put_step.new.batch (put g c) e.slots e.counts e.live e.shown c.loop-step.invariant.run.unready

pub loop-step-preserved : goal.loop-step-preserved
loop-step-preserved g c =
    let i = c.loop-step.self-inside in
    let e = c.put_step.ensures in
    let run = c.loop-step.invariant.run in
    record {
      run = run_made g.D.Device.told c.args.self.now (g.D.Device.view c.args.dev.now) (was g c) (g.D.Device.view c.loop-step.dev) run (now g c) (g.D.Device.view c.commit-outcome.new.dev) c.commit-outcome.result _ c.in_ok-outcome.was
          (operation g c) (op_told c.commit-outcome.result any_bytes (was g c) (now g c) c.put_step.new.batch 33 (owed (now g c).tables) (λ w. w) (this g c)) refl run.sweeping run.unready
          c.put_step.new.batch c.commit-outcome.ensures.uses c.commit-outcome.ensures.records
          (cheap i.header i.pointers i.counts i.live i.caps i.is_sweeping i.marks i.ahead i.is_ready c.loop-step.invariant.parts c.in-Some.step c.in-Some.ensures.step c.in-Some.ensures.kept
          c.put_step.new.pointers c.put_step.new.counts c.put_step.new.live c.put_step.new.batch (put g c) e.slots e.counts e.live e.shown run.unready);
      parts = then g c;
      marks = subst (λ (ms : List Bool). AreMarksOf ms c.put_step.new.pointers c.put_step.new.live) (sym c.next_sweep_step.ensures.marks)
          (marks_stay i.header i.pointers i.counts i.live i.caps i.is_sweeping i.marks i.ahead i.is_ready c.loop-step.invariant.parts c.in-Some.step c.in-Some.ensures.step c.in-Some.ensures.kept
          c.put_step.new.pointers c.put_step.new.counts c.put_step.new.live c.put_step.new.batch (put g c) e.slots e.counts e.live e.shown run.unready c.loop-step.invariant.marks);
    }

-- ---- a step that failed

-- the volume before the step and after it
abbrev was-failed : (g : Given.Over) → goal.After-from_residual g → Volume
was-failed g c = let i = c.loop-step.self-inside in record { tables = tables_in i.header i.pointers i.counts i.live i.caps i.is_sweeping; ring = i.ring; is_ready = i.is_ready; is_spent = i.is_spent }

abbrev now-failed : (g : Given.Over) → goal.After-from_residual g → Volume
now-failed g c = let i = c.loop-step.self-inside in record { tables = tables_in i.header c.put_step.new.pointers c.put_step.new.counts c.put_step.new.live i.caps i.is_sweeping; ring = c.commit-outcome.new.self; is_ready = i.is_ready; is_spent = c.is_err-self-inside.result }

put-failed : (g : Given.Over) (c : goal.After-from_residual g) → IsStepPut (was-failed g c).tables c.in-Some.step (now-failed g c).tables c.put_step.new.batch
put-failed g c =
    let i = c.loop-step.self-inside in
    c.put_step.ensures.put (was-failed g c).tables (may_put i.header i.pointers i.counts i.live i.caps i.is_sweeping i.marks i.ahead i.is_ready c.loop-step.invariant.parts c.in-Some.step c.in-Some.ensures.step)

this-failed : (g : Given.Over) (c : goal.After-from_residual g) → IsOp any_bytes (was-failed g c) (now-failed g c).tables c.put_step.new.batch 33 (owed (now-failed g c).tables) (λ w. w)
this-failed g c =
    let i = c.loop-step.self-inside in
    let e = c.put_step.ensures in
    let run = c.loop-step.invariant.run in
    step_op i.header i.pointers i.counts i.live i.caps i.is_sweeping i.marks i.ahead i.is_ready c.loop-step.invariant.parts c.in-Some.step c.in-Some.ensures.step c.in-Some.ensures.kept
    c.put_step.new.pointers c.put_step.new.counts c.put_step.new.live c.put_step.new.batch (put-failed g c) e.slots e.counts e.live e.shown run.unready (was-failed g c) (now-failed g c) run.sweeping refl refl

operation-failed : (g : Given.Over) (c : goal.After-from_residual g) → IsOperation g.D.Device.told [] (λ w. w) (was-failed g c) (now-failed g c) (g.D.Device.view c.loop-step.dev) (g.D.Device.view c.commit-outcome.new.dev) c.commit-outcome.result
operation-failed g c =
    let e = c.commit-outcome.ensures in
    committed_op g.D.Device.told c.commit-outcome.result any_bytes (was-failed g c) (now-failed g c) (g.D.Device.view c.loop-step.dev) (g.D.Device.view c.commit-outcome.new.dev) c.put_step.new.batch 33 (owed (now-failed g c).tables) _ (λ w. w) (this-failed g c)
    c.loop-step.invariant.run.operation.at (λ told. tt) e.done e.at e.firm e.any_moment e.sent e.uses e.faults c.is_err-self-inside.ensures.value refl

then-failed : (g : Given.Over) (c : goal.After-from_residual g) → let i = c.loop-step.self-inside in AreParts i.header c.put_step.new.pointers c.put_step.new.counts c.put_step.new.live i.caps i.is_sweeping (length c.next_sweep_step.new.marks) i.ahead i.is_ready
then-failed g c =
    let i = c.loop-step.self-inside in
    let e = c.put_step.ensures in
    subst (λ (ms : List Bool). AreParts i.header c.put_step.new.pointers c.put_step.new.counts c.put_step.new.live i.caps i.is_sweeping (length ms) i.ahead i.is_ready) (sym c.next_sweep_step.ensures.marks)
    (parts_then i.header i.pointers i.counts i.live i.caps i.is_sweeping i.marks i.ahead i.is_ready c.loop-step.invariant.parts c.in-Some.step c.in-Some.ensures.step c.in-Some.ensures.kept
    c.put_step.new.pointers c.put_step.new.counts c.put_step.new.live c.put_step.new.batch (put-failed g c) e.slots e.counts e.live e.shown c.loop-step.invariant.run.unready)

pub invariant_of-self : goal.invariant_of-self
invariant_of-self g c = then-failed g c

pub returns-in_err-outcome-clause-operation : goal.returns-in_err-outcome-clause-operation
returns-in_err-outcome-clause-operation g c =
    run_failed g.D.Device.told c.args.self.now (g.D.Device.view c.args.dev.now) (was-failed g c) (g.D.Device.view c.loop-step.dev) c.loop-step.invariant.run (now-failed g c) (g.D.Device.view c.commit-outcome.new.dev)
    c.commit-outcome.result _ _ c.from_residual.result c.in_err-outcome.was c.from_residual.ensures.1 (operation-failed g c)

-- as it was, it tells what the start does
told-failed : (g : Given.Over) (c : goal.After-from_residual g) → told_by (now-failed g c) ≡ told_by c.args.self.now
told-failed g c = op_told {T = Unit {0}} {E = Failed} (Ok tt) any_bytes (was-failed g c) (now-failed g c) c.put_step.new.batch 33 (owed (now-failed g c).tables) (λ w. w) (this-failed g c) ∙ c.loop-step.invariant.run.tells

pub returns-in_err-outcome-clause-uses : goal.returns-in_err-outcome-clause-uses
returns-in_err-outcome-clause-uses g c =
    let i = c.loop-step.self-inside in
    let e = c.put_step.ensures in
    let run = c.loop-step.invariant.run in
    paid_failed c.args.self.now (g.D.Device.view c.args.dev.now) (was-failed g c) (g.D.Device.view c.loop-step.dev) run.cost (now-failed g c) (g.D.Device.view c.commit-outcome.new.dev) c.put_step.new.batch
    (returns-in_err-outcome-clause-operation g c).works c.commit-outcome.ensures.uses
    (cheap i.header i.pointers i.counts i.live i.caps i.is_sweeping i.marks i.ahead i.is_ready c.loop-step.invariant.parts c.in-Some.step c.in-Some.ensures.step c.in-Some.ensures.kept
    c.put_step.new.pointers c.put_step.new.counts c.put_step.new.live c.put_step.new.batch (put-failed g c) e.slots e.counts e.live e.shown run.unready)
    run.sweeping (told-failed g c)

-- ---- no step is left

-- the volume then
abbrev pub at-end : (g : Given.Over) → goal.In_default g → Volume
at-end g c = let i = c.loop-step.self-inside in record { tables = tables_in i.header i.pointers i.counts i.live i.caps i.is_sweeping; ring = i.ring; is_ready = i.is_ready; is_spent = i.is_spent }

pub returns-clause-paid : goal.returns-clause-paid
returns-clause-paid g c =
    let run = c.loop-step.invariant.run in
    paid_all c.args.self.now (g.D.Device.view c.args.dev.now) (at-end g c) (g.D.Device.view c.loop-step.dev) run.cost run.sweeping run.tells

pub returns-clause-uses : goal.returns-clause-uses
returns-clause-uses g c =
    let run = c.loop-step.invariant.run in
    used_all c.args.self.now (g.D.Device.view c.args.dev.now) (at-end g c) (g.D.Device.view c.loop-step.dev) run.cost run.operation.works run.sweeping run.tells
