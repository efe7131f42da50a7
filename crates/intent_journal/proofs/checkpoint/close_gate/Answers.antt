use Rattle.std.proofs.Common.{◌≡◌, true, ◌==◌, arith}
use Rattle.intent_journal.proofs.Common.{and_from, nat_tests, confined_start, confined_write, gate_sector}
use Rattle.intent_journal.proofs.checkpoint.close_gate.Goals as goal

pub returns-then-is_open-clause-confined : goal.returns-then-is_open-clause-confined
returns-then-is_open-clause-confined g c told =
    let v = g.D.Device.view c.args.dev.now in
    let here : (c.gate_sector.result == gate_sector c.args.index) ≡ true = let e = c.gate_sector.ensures.value in grind (arith, nat_tests) in
    confined_write _ c.gate_sector.result v v _ (and_from c.args.is_open (c.gate_sector.result == gate_sector c.args.index) c.if-is_open.true here) (confined_start _ v (g.met.D.Device.sound c.args.dev.now told)) (c.write.ensures.touches told)
