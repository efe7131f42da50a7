use Rattle.mirror_device.proofs.Paths.{touches_both, touches_first, touches_second}
use Rattle.mirror_device.proofs.mirror.MirrorDevice.write.Goals as goal

pub returns-then-is_err-2-clause-touches : goal.returns-then-is_err-2-clause-touches
returns-then-is_err-2-clause-touches g c told =
    let m = c.args.self.now in
    let view = g.P.Sides.view in
    touches_both (view m.sides.sides) g.K.Began.start _ _ _ _ (g.met.P.Sides.sound m.sides.sides told) m.serving m.stands (m.alike told) c.in-Both.is _ _ _ c.args.sector (c.write.ensures.touches told) (c.write-then-is_err.ensures.touches told)

pub returns-then-is_err-clause-touches : goal.returns-then-is_err-clause-touches
returns-then-is_err-clause-touches g c told =
    let m = c.args.self.now in
    let view = g.P.Sides.view in
    touches_both (view m.sides.sides) g.K.Began.start _ _ _ _ (g.met.P.Sides.sound m.sides.sides told) m.serving m.stands (m.alike told) c.in-Both.is _ _ _ c.args.sector (c.write.ensures.touches told) (c.write-then-is_err.ensures.touches told)

pub returns-then-is_err-3-clause-touches : goal.returns-then-is_err-3-clause-touches
returns-then-is_err-3-clause-touches g c told =
    let m = c.args.self.now in
    let view = g.P.Sides.view in
    touches_both (view m.sides.sides) g.K.Began.start _ _ _ _ (g.met.P.Sides.sound m.sides.sides told) m.serving m.stands (m.alike told) c.in-Both.is _ _ _ c.args.sector (c.write.ensures.touches told) (c.write-in-Both.ensures.touches told)

pub returns-else-is_err-3-clause-touches : goal.returns-else-is_err-3-clause-touches
returns-else-is_err-3-clause-touches g c told =
    let m = c.args.self.now in
    let view = g.P.Sides.view in
    touches_both (view m.sides.sides) g.K.Began.start _ _ _ _ (g.met.P.Sides.sound m.sides.sides told) m.serving m.stands (m.alike told) c.in-Both.is _ _ _ c.args.sector (c.write.ensures.touches told) (c.write-in-Both.ensures.touches told)

pub returns-then-is_err-4-clause-touches : goal.returns-then-is_err-4-clause-touches
returns-then-is_err-4-clause-touches g c told =
    let m = c.args.self.now in
    let view = g.P.Sides.view in
    touches_first (view m.sides.sides) g.K.Began.start _ _ _ _ (g.met.P.Sides.sound m.sides.sides told) m.serving m.stands (m.alike told) c.in-First.is _ c.args.sector (c.write-in-First.ensures.touches told)

pub returns-else-is_err-4-clause-touches : goal.returns-else-is_err-4-clause-touches
returns-else-is_err-4-clause-touches g c told =
    let m = c.args.self.now in
    let view = g.P.Sides.view in
    touches_first (view m.sides.sides) g.K.Began.start _ _ _ _ (g.met.P.Sides.sound m.sides.sides told) m.serving m.stands (m.alike told) c.in-First.is _ c.args.sector (c.write-in-First.ensures.touches told)

pub returns-then-is_err-5-clause-touches : goal.returns-then-is_err-5-clause-touches
returns-then-is_err-5-clause-touches g c told =
    let m = c.args.self.now in
    let view = g.P.Sides.view in
    touches_second (view m.sides.sides) g.K.Began.start _ _ _ _ (g.met.P.Sides.sound m.sides.sides told) m.serving m.stands (m.alike told) c.in-Second.is _ c.args.sector (c.write-in-Second.ensures.touches told)

pub returns-else-is_err-5-clause-touches : goal.returns-else-is_err-5-clause-touches
returns-else-is_err-5-clause-touches g c told =
    let m = c.args.self.now in
    let view = g.P.Sides.view in
    touches_second (view m.sides.sides) g.K.Began.start _ _ _ _ (g.met.P.Sides.sound m.sides.sides told) m.serving m.stands (m.alike told) c.in-Second.is _ c.args.sector (c.write-in-Second.ensures.touches told)
