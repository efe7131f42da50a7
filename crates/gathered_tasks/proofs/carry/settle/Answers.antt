use Rattle.std.proofs.Common.{◌≡◌, ◌∙◌, List, refl, sym, subst}
use Rattle.gathered_tasks.proofs.Common.{Core, Patch, gathered, owed}
use Rattle.gathered_tasks.proofs.CarryLaws.{holds_failed, holds_still, holds_then}
use Rattle.gathered_tasks.proofs.carry.settle.Goals as goal

-- nothing comes of a step that does nothing after steps that did nothing
module _ {D : Type 0} (K : Core → Type 0) {c0 c1 c2 : Core} {b0 b1 b2 : List Patch} {d0 d1 d2 : D} where
  goes_still : K c0 → (c1 ≡ c0) × (b1 ≡ b0) × (d1 ≡ d0) → (K c1 → (c2 ≡ c1) × (b2 ≡ b1) × (d2 ≡ d1)) → (c2 ≡ c0) × (b2 ≡ b0) × (d2 ≡ d0)
  goes_still first was more =
      let then = more (subst K (sym was.0) first) in
      (then.0 ∙ was.0, then.1 ∙ was.1, then.2 ∙ was.2)

pub returns-then-not-wants_freed-clause-holds : goal.returns-then-not-wants_freed-clause-holds
returns-then-not-wants_freed-clause-holds g c =
    holds_still g.D.Device.told c.args.core.now c.args.room.now.ring (gathered c.args.room.now) (g.D.Device.view c.args.dev.now) (λ t. g.met.D.Device.sound c.args.dev.now t) c.requires.ready c.requires.at

pub loop-init : goal.loop-init
loop-init g c = record {
  here = c.requires.here;
  holds = holds_still g.D.Device.told c.args.core.now c.args.room.now.ring (gathered c.args.room.now) (g.D.Device.view c.args.dev.now) (λ t. g.met.D.Device.sound c.args.dev.now t) c.requires.ready c.requires.at;
  still = λ none. (refl, refl, refl);
}

pub returns-in_err-settle_step-clause-holds : goal.returns-in_err-settle_step-clause-holds
returns-in_err-settle_step-clause-holds g c =
    holds_failed _ c.from_residual.result c.from_residual.ensures.1 (holds_then c.loop.invariant.holds (λ t. g.met.D.Device.sound c.loop.dev t) c.in_err-settle_step.ensures.holds)

pub loop-preserved : goal.loop-preserved
loop-preserved g c = record {
  here = c.in_ok-settle_step.ensures.here;
  holds = holds_then c.loop.invariant.holds (λ t. g.met.D.Device.sound c.loop.dev t) c.in_ok-settle_step.ensures.holds;
  still = λ none. goes_still (λ (d : Core). owed d.volume.tables ≡ 0) none (c.loop.invariant.still none) (c.in_ok-settle_step.ensures.still);
}

pub returns-in_err-settle_step-clause-still : goal.returns-in_err-settle_step-clause-still
returns-in_err-settle_step-clause-still g c settled =
    let none = settled (sym c.wants_freed.ensures ∙ c.if-not-wants_freed.false) in
    goes_still (λ (d : Core). owed d.volume.tables ≡ 0) none (c.loop.invariant.still none) (c.in_err-settle_step.ensures.still)

pub returns-clause-still : goal.returns-clause-still
returns-clause-still g c settled = c.loop.invariant.still (settled (sym c.wants_freed.ensures ∙ c.if-not-wants_freed.false))
