use Rattle.std.proofs.Common.{inl, inr, sym, ◌∙◌, ap}
use Rattle.volume.proofs.Common.{cases_Bool, both_ways, Volume, no_op, none_within, left_due}
use Rattle.std.proofs.Common.{◌≡◌, true, false}
use Rattle.volume.proofs.SweepCosts.{open_paid, open_uses, still_paid, uses_none}
use Rattle.volume.proofs.volume.Volume.end_sweep.Goals as goal

-- a sweep is open, so the volume isn't ready
pub end_open_sweep-requires-clause-unready : goal.end_open_sweep-requires-clause-unready
end_open_sweep-requires-clause-unready g c = elim (cases_Bool c.self.inside.is_ready) [
  | inl ready ↦ absurd (both_ways c.self.inside.is_sweeping (c.self.invariant.still ready) c.if-self.true)
  | inr not_yet ↦ sym (ap (λ (v : Volume). v.is_ready) c.self.view_is) ∙ not_yet
]

pub returns-else-self-clause-operation : goal.returns-else-self-clause-operation
returns-else-self-clause-operation g c =
    let told = g.D.Device.told in
    let view = g.D.Device.view in
    no_op told c.args.self.now (view c.args.dev.now) tt (g.met.D.Device.sound c.args.dev.now) c.requires.at c.requires.unspent

pub returns-else-self-clause-cost : goal.returns-else-self-clause-cost
returns-else-self-clause-cost g c still = none_within g.D.Device.told c.args.self.now (g.D.Device.view c.args.dev.now) tt 0 (g.met.D.Device.sound c.args.dev.now) c.requires.at

pub returns-then-self-clause-paid : goal.returns-then-self-clause-paid
returns-then-self-clause-paid g c =
    open_paid c.end_open_sweep.result c.args.self.now c.end_open_sweep.new.self (g.D.Device.view c.args.dev.now) (g.D.Device.view c.end_open_sweep.new.dev) (sym (ap (λ (v : Volume). v.tables.is_sweeping) c.self.view_is) ∙ c.if-self.true) c.end_open_sweep.ensures.paid

pub returns-then-self-clause-uses : goal.returns-then-self-clause-uses
returns-then-self-clause-uses g c =
    open_uses c.args.self.now (g.D.Device.view c.args.dev.now) (g.D.Device.view c.end_open_sweep.new.dev) (sym (ap (λ (v : Volume). v.tables.is_sweeping) c.self.view_is) ∙ c.if-self.true) c.end_open_sweep.ensures.uses

pub returns-else-self-clause-paid : goal.returns-else-self-clause-paid
returns-else-self-clause-paid g c = still_paid c.args.self.now (g.D.Device.view c.args.dev.now) (sym (ap (λ (v : Volume). v.tables.is_sweeping) c.self.view_is) ∙ c.if-self.false)

pub returns-else-self-clause-uses : goal.returns-else-self-clause-uses
returns-else-self-clause-uses g c = uses_none (left_due c.args.self.now) (g.D.Device.view c.args.dev.now)
