use Rattle.mirror_device.proofs.Paths.{settles_both, settles_first, settles_second}
use Rattle.mirror_device.proofs.mirror.MirrorDevice.sync.Goals as goal

pub returns-then-is_err-2-clause-settles : goal.returns-then-is_err-2-clause-settles
returns-then-is_err-2-clause-settles g c told =
    let m = c.args.self.now in
    let view = g.P.Sides.view in
    settles_both (view m.sides.sides) g.K.Began.start _ _ _ _ (g.met.P.Sides.sound m.sides.sides told) m.serving m.stands (m.alike told) c.in-Both.is _ _ _ (c.sync.ensures.settles told) (c.sync-then-is_err.ensures.settles told)

pub returns-then-is_err-clause-settles : goal.returns-then-is_err-clause-settles
returns-then-is_err-clause-settles g c told =
    let m = c.args.self.now in
    let view = g.P.Sides.view in
    settles_both (view m.sides.sides) g.K.Began.start _ _ _ _ (g.met.P.Sides.sound m.sides.sides told) m.serving m.stands (m.alike told) c.in-Both.is _ _ _ (c.sync.ensures.settles told) (c.sync-then-is_err.ensures.settles told)

pub returns-then-is_err-3-clause-settles : goal.returns-then-is_err-3-clause-settles
returns-then-is_err-3-clause-settles g c told =
    let m = c.args.self.now in
    let view = g.P.Sides.view in
    settles_both (view m.sides.sides) g.K.Began.start _ _ _ _ (g.met.P.Sides.sound m.sides.sides told) m.serving m.stands (m.alike told) c.in-Both.is _ _ _ (c.sync.ensures.settles told) (c.sync-in-Both.ensures.settles told)

pub returns-else-is_err-3-clause-settles : goal.returns-else-is_err-3-clause-settles
returns-else-is_err-3-clause-settles g c told =
    let m = c.args.self.now in
    let view = g.P.Sides.view in
    settles_both (view m.sides.sides) g.K.Began.start _ _ _ _ (g.met.P.Sides.sound m.sides.sides told) m.serving m.stands (m.alike told) c.in-Both.is _ _ _ (c.sync.ensures.settles told) (c.sync-in-Both.ensures.settles told)

pub returns-then-is_err-4-clause-settles : goal.returns-then-is_err-4-clause-settles
returns-then-is_err-4-clause-settles g c told =
    let m = c.args.self.now in
    let view = g.P.Sides.view in
    settles_first (view m.sides.sides) g.K.Began.start _ _ _ _ (g.met.P.Sides.sound m.sides.sides told) m.serving m.stands (m.alike told) c.in-First.is _ (c.sync-in-First.ensures.settles told)

pub returns-else-is_err-4-clause-settles : goal.returns-else-is_err-4-clause-settles
returns-else-is_err-4-clause-settles g c told =
    let m = c.args.self.now in
    let view = g.P.Sides.view in
    settles_first (view m.sides.sides) g.K.Began.start _ _ _ _ (g.met.P.Sides.sound m.sides.sides told) m.serving m.stands (m.alike told) c.in-First.is _ (c.sync-in-First.ensures.settles told)

pub returns-then-is_err-5-clause-settles : goal.returns-then-is_err-5-clause-settles
returns-then-is_err-5-clause-settles g c told =
    let m = c.args.self.now in
    let view = g.P.Sides.view in
    settles_second (view m.sides.sides) g.K.Began.start _ _ _ _ (g.met.P.Sides.sound m.sides.sides told) m.serving m.stands (m.alike told) c.in-Second.is _ (c.sync-in-Second.ensures.settles told)

pub returns-else-is_err-5-clause-settles : goal.returns-else-is_err-5-clause-settles
returns-else-is_err-5-clause-settles g c told =
    let m = c.args.self.now in
    let view = g.P.Sides.view in
    settles_second (view m.sides.sides) g.K.Began.start _ _ _ _ (g.met.P.Sides.sound m.sides.sides told) m.serving m.stands (m.alike told) c.in-Second.is _ (c.sync-in-Second.ensures.settles told)
