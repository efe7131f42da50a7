use Rattle.volume.proofs.Common.{settle, without_pointer, op_answers}
use Rattle.volume.proofs.volume.Volume.drop_pointer.Goals as goal

pub returns-clause-operation : goal.returns-clause-operation
returns-clause-operation g c =
    op_answers g.D.Device.told (λ w. settle (without_pointer w c.args.source c.args.target)) c.args.self.now c.drop_pair.new.self (g.D.Device.view c.args.dev.now) (g.D.Device.view c.drop_pair.new.dev) _ _ c.in_ok-drop_pair.ensures.operation
