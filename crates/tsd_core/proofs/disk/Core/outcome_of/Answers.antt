use Rattle.std.proofs.Common.{◌≡◌, ◌||◌, true, subst, sym}
use Rattle.tsd_core.proofs.Common.{IfOk, is_refusal, Reply, Failed, IsApplied, asks_nothing}
use Rattle.std.specs.Prelude.{Result}
use Rattle.tsd_core.proofs.disk.Core.outcome_of.Goals as goal

pub returns-clause-applied : goal.returns-clause-applied
returns-clause-applied g c =
    subst (IsApplied g.D.Device.told c.args.placement.now.kind c.args.request.now c.args.self.now c.apply_into-outcome.new.self (g.D.Device.view c.args.dev.now) (g.D.Device.view c.apply_into-outcome.new.dev)) (sym c.answered.ensures) c.apply_into-outcome.ensures.applied

pub returns-clause-asks_nothing : goal.returns-clause-asks_nothing
returns-clause-asks_nothing g c =
    subst (λ (r : Result Reply Failed). IfOk r (λ x. (is_refusal x || asks_nothing c.args.request.now) ≡ true → c.apply_into-outcome.new.dev ≡ c.args.dev.now)) (sym c.answered.ensures) c.apply_into-outcome.ensures.asks_nothing
