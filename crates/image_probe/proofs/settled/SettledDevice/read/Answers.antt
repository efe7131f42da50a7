use Rattle.std.proofs.Common.{sym, ◌∙◌}
use Rattle.mirror_device.proofs.Puts.{where_ok}
use Rattle.image_probe.proofs.StillCalls.{outside_closed}
use Rattle.image_probe.proofs.settled.SettledDevice.read.Goals as goal

pub returns-then-self-clause-bytes : goal.returns-then-self-clause-bytes
returns-then-self-clause-bytes g c told =
    let self = c.args.self.now in
    let x = (g.P.Sides.view self.first.sides).first.reads in
    let same =
    outside_closed x c.args.sector (sym c.is_of_journal.ensures ∙ c.if-is_of_journal.false)
    (self.closed told c.if-self.true) in
    where_ok c.read.result (λ e. e ∙ sym same) (c.read.ensures.bytes told)
