use Rattle.mirror_device.proofs.Paths.{appends_by, includes_by}
use Rattle.mirror_device.proofs.Puts.{none_of, part_of, where_ok}
use Rattle.mirror_device.proofs.mirror.MirrorPort.put.Goals as goal

pub returns-clause-appends : goal.returns-clause-appends
returns-clause-appends g c told =
    let m = c.args.self.now in
    let view = g.P.Sides.view in
    let piece = c.args.piece.now in
    appends_by (view m.sides.sides) g.K.Began.start _ _ _ _ (g.met.P.Sides.sound m.sides.sides told) m.serving m.stands (m.alike told) piece _ (c.put.ensures.appends told)
    (none_of (view m.sides.sides).sent piece) (part_of c.put.result (view m.sides.sides).sent piece _ (c.put.ensures.sent told) (c.put.ensures.part told))

pub returns-clause-includes : goal.returns-clause-includes
returns-clause-includes g c told =
    let m = c.args.self.now in
    let view = g.P.Sides.view in
    where_ok c.put.result
    (includes_by (view m.sides.sides) g.K.Began.start m.faults m.writes m.faults m.writes (g.met.P.Sides.sound m.sides.sides told) m.serving m.stands (m.alike told) c.args.piece.now (view c.put.new.self.sides) (c.put.ensures.appends told))
    (c.put.ensures.includes told)
