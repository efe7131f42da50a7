use Rattle.std.proofs.Common.{refl, sym, append-nil}
use Rattle.image_shell.proofs.Common.{spared_start}
use Rattle.image_shell.proofs.StartLaws.{ran_unstarted}
use Rattle.image_shell.proofs.kinds.serve_chain_image.Goals as goal

pub returns-in-Err-clause-ran : goal.returns-in-Err-clause-ran
returns-in-Err-clause-ran g c =
    ran_unstarted _ g.M.Protocol.spelling c.args.root c.args.cap.now c.args.limit _ g.P.Device.told _ (g.P.Device.view c.args.port.now) (λ t. g.met.P.Device.sound c.args.port.now t) (record { taken = λ tells. sym (append-nil _); left = λ tells. refl }) refl

pub returns-in-Err-clause-spared : goal.returns-in-Err-clause-spared
returns-in-Err-clause-spared g c told bad = spared_start (g.P.Device.view c.args.port.now) (g.met.P.Device.sound c.args.port.now told)
