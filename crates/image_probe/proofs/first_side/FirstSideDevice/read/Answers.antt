use Rattle.image_probe.proofs.FirstReads.{counts_on, reads_more}
use Rattle.image_probe.proofs.first_side.FirstSideDevice.read.Goals as goal

pub invariant_of-self : goal.invariant_of-self
invariant_of-self g c =
    let view = g.P.Sides.view in
    let self = c.args.self.now in
    let before = g.K.Before.before in
    record {
      only_read = λ told.
          reads_more before (view self.sides) (view c.read.new.self) (self.only_read told) (c.read.ensures.rests told);
      counts = counts_on before (view self.sides) (view c.read.new.self) self.counts c.read.ensures.uses;
    }
