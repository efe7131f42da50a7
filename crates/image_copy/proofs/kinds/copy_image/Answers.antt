use Rattle.image_shell.proofs.Common.{spared_start}
use Rattle.image_shell.proofs.StartLaws.{idle_moments}
use Rattle.image_copy.proofs.kinds.copy_image.Goals as goal

pub returns-in-Err-clause-not_begun : goal.returns-in-Err-clause-not_begun
returns-in-Err-clause-not_begun g c told not firm = idle_moments (g.P.Device.view c.args.port.now) (g.met.P.Device.sound c.args.port.now told) firm

pub returns-in-Err-clause-spared : goal.returns-in-Err-clause-spared
returns-in-Err-clause-spared g c told bad = spared_start (g.P.Device.view c.args.port.now) (g.met.P.Device.sound c.args.port.now told)

pub returns-in-Err-new-clause-not_begun : goal.returns-in-Err-new-clause-not_begun
returns-in-Err-new-clause-not_begun g c told not firm = idle_moments (g.P.Device.view c.args.port.now) (g.met.P.Device.sound c.args.port.now told) firm

pub returns-in-Err-new-clause-spared : goal.returns-in-Err-new-clause-spared
returns-in-Err-new-clause-spared g c told bad = spared_start (g.P.Device.view c.args.port.now) (g.met.P.Device.sound c.args.port.now told)
