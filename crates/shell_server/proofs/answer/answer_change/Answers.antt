use Rattle.std.proofs.Common.{ap}
use Rattle.shell_server.proofs.SendLaws.{on_answer, served}
use Rattle.shell_server.proofs.answer.answer_change.Goals as goal

pub returns-clause-served : goal.returns-clause-served
returns-clause-served g c =
    let sent = c.send_change.ensures in
    served g.P.Device.told g.K.Started.start _ _ _ _ _ _ (g.P.Device.view c.change_on-outcome.new.dev) c.change_on-outcome.result c.change_on-outcome.ensures.carried (g.P.Device.view c.send_change.new.port) c.send_change.result
    (λ is. (sent.failed is, ap g.P.Device.view (sent.silent is))) sent.line sent.stops sent.puts

-- it is free unless the device failed, and then nothing else is answered
pub returns-clause-room : goal.returns-clause-room
returns-clause-room g c other = on_answer _ c.change_on-outcome.result (λ is. other (c.send_change.ensures.failed is)) c.change_on-outcome.ensures.room
