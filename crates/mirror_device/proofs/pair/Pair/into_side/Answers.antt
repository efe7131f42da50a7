use Rattle.std.proofs.Common.{◌∙◌, ap, sym}
use Rattle.mirror_device.specs.declared.side.Side.{Side}
use Rattle.mirror_device.specs.SidesView.{side_of}
use Rattle.mirror_device.specs.History.{still}
use Rattle.mirror_device.specs.Pair.{pair_view}
use Rattle.mirror_device.proofs.pair.Pair.into_side.Goals as goal

pub returns-in-First-clause-torn : goal.returns-in-First-clause-torn
returns-in-First-clause-torn c b picked n loose = c.into_image.ensures.torn b picked n (ap (λ (s : Side). (side_of s (still (pair_view c.args.self))).loose n) (sym c.in-First.is) ∙ loose)

pub returns-clause-torn : goal.returns-clause-torn
returns-clause-torn c b picked n loose = c.into_image-in-Second.ensures.torn b picked n (ap (λ (s : Side). (side_of s (still (pair_view c.args.self))).loose n) (sym c.in-Second.is) ∙ loose)
