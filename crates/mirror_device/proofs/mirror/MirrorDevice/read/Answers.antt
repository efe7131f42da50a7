use Rattle.mirror_device.proofs.Paths.{rests_both, rests_first, rests_second}
use Rattle.mirror_device.proofs.mirror.MirrorDevice.read.Goals as goal

pub returns-then-is_err-clause-rests : goal.returns-then-is_err-clause-rests
returns-then-is_err-clause-rests g c told =
    let m = c.args.self.now in
    let view = g.P.Sides.view in
    rests_both (view m.sides.sides) g.K.Began.start _ _ _ _ (g.met.P.Sides.sound m.sides.sides told) m.serving m.stands (m.alike told) c.in-Both.is _ _ _ (c.read.ensures.rests told) (c.read-in-Both.ensures.rests told)

pub returns-else-is_err-clause-rests : goal.returns-else-is_err-clause-rests
returns-else-is_err-clause-rests g c told =
    let m = c.args.self.now in
    let view = g.P.Sides.view in
    rests_both (view m.sides.sides) g.K.Began.start _ _ _ _ (g.met.P.Sides.sound m.sides.sides told) m.serving m.stands (m.alike told) c.in-Both.is _ _ _ (c.read.ensures.rests told) (c.read-in-Both.ensures.rests told)

pub returns-then-is_err-2-clause-rests : goal.returns-then-is_err-2-clause-rests
returns-then-is_err-2-clause-rests g c told =
    let m = c.args.self.now in
    let view = g.P.Sides.view in
    rests_first (view m.sides.sides) g.K.Began.start _ _ _ _ (g.met.P.Sides.sound m.sides.sides told) m.serving m.stands (m.alike told) c.in-First.is _ (c.read-in-First.ensures.rests told)

pub returns-then-is_err-3-clause-rests : goal.returns-then-is_err-3-clause-rests
returns-then-is_err-3-clause-rests g c told =
    let m = c.args.self.now in
    let view = g.P.Sides.view in
    rests_second (view m.sides.sides) g.K.Began.start _ _ _ _ (g.met.P.Sides.sound m.sides.sides told) m.serving m.stands (m.alike told) c.in-Second.is _ (c.read-in-Second.ensures.rests told)
