use Rattle.std.proofs.Common.{ℕ, List, ap, subst}
use Rattle.std.specs.Prelude.{IfOk}
use Rattle.image_device.specs.Image.{Image}
use Rattle.mirror_device.specs.Copying.{IsLeftOfFirst}
use Rattle.mirror_device.specs.Mirror.{IsShown, Start}
use Rattle.mirror_device.proofs.mirror.Mirror.new.Goals as goal

pub returns-clause-left : goal.returns-clause-left
returns-clause-left g c told =
    let view = g.P.Sides.view in
    subst
    (λ (t : ℕ). IfOk c.after_reads.result (λ m. (x : Image) (f : List ℕ)
    → IsShown (view m.sides.sides) g.K.Began.start m.serving t x f → IsLeftOfFirst (view c.args.sides) x f))
    (ap (λ (s : Start). s.clock) c.requires) (c.after_reads.ensures.left told)
