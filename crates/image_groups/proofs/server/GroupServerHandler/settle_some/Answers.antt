use Rattle.std.proofs.Common.{◌≡◌, ◌<◌, ap, subst}
use Rattle.std.specs.Prelude.{Result, Ok, Err, IfOk, IsTrue, ◌↔◌}
use Rattle.image_world.specs.Debt.{debt}
use Rattle.image_runs.proofs.Common.{behind}
use Rattle.image_runs.proofs.Serving.{more_left}
use Rattle.image_groups.proofs.server.GroupServerHandler.settle_some.Goals as goal

if_ok_is : {T E : Type 0} (P : T → Type 0) (r : Result T E) (x : T) → r ≡ Ok x → IfOk r P → P x
if_ok_is P (Ok y) x is p = subst (λ z. P z) (ok_same y x is) p
  where
    ok_same : {T E : Type 0} (a b : T) → ◌≡◌ {A = Result T E} (Ok a) (Ok b) → a ≡ b
    ok_same a b same = cc
if_ok_is P (Err e) x is p = absurd (cc)

pub returns-in-Ok-clause-more : goal.returns-in-Ok-clause-more
returns-in-Ok-clause-more g c told =
    let v = g.D.Device.view c.settle_some-more.new.dev in
    if_ok_is (λ more. IsTrue more ↔ (0 < debt v.reads)) c.settle_some-more.result c.in-Ok.some c.in-Ok.is (more_left _ v c.settle_some-more.result c.settle_some-more.ensures.more (c.settle_some-more.ensures.at told))

pub returns-in-Ok-clause-aside : goal.returns-in-Ok-clause-aside
returns-in-Ok-clause-aside g c = ap behind c.settle_some-more.ensures.size.geometry

pub returns-in-Err-clause-aside : goal.returns-in-Err-clause-aside
returns-in-Err-clause-aside g c = ap behind c.settle_some-more.ensures.size.geometry
