use Rattle.std.proofs.Common.{◌≡◌, ℕ, true, is_some, ◌∙◌, ap}
use Rattle.tsd_model.specs.World.{is_live, has_number}
use Rattle.tsd_model.specs.Reach.{reach}
use Rattle.reclaim.specs.Tables.{graph_of}
use Rattle.cycle_sweep.proofs.SweepStepLaws.{all_stuck, all_swept, if_step_sweeps}
use Rattle.cycle_sweep.proofs.step.next_sweep_step.Goals as goal

pub returns-in-Some-clause-kept : goal.returns-in-Some-clause-kept
returns-in-Some-clause-kept c = if_step_sweeps (graph_of c.args.pointers.now c.args.live.now) c.step_around-step.result c.requires.tables.raw c.step_around-step.ensures.step

-- no step can be taken at a block that isn't reached, so all are
all_reached : (c : goal.In_default) (b : ℕ) → is_live (graph_of c.args.pointers.now c.args.live.now) b ≡ true → has_number (reach (graph_of c.args.pointers.now c.args.live.now)) b ≡ true
all_reached c = all_stuck (graph_of c.args.pointers.now c.args.live.now) c.requires.tables.raw
    (λ x on far. c.step_around-step.ensures.stuck (ap is_some c.in_default.is) x on (c.requires.marks x ∙ far))

pub returns-in_default-clause-none : goal.returns-in_default-clause-none
returns-in_default-clause-none c = (λ _ b live. c.requires.marks b ∙ all_reached c b live, λ _. ap is_some c.in_default.is)

pub returns-in_default-clause-swept : goal.returns-in_default-clause-swept
returns-in_default-clause-swept c = λ _. all_swept (graph_of c.args.pointers.now c.args.live.now) c.requires.tables.raw (all_reached c)
