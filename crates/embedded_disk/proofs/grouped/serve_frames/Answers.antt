use Rattle.std.proofs.Common.{inr}
use Rattle.embedded_disk.proofs.grouped.serve_frames.Goals as goal

pub returns-in-Ok-clause-ran : goal.returns-in-Ok-clause-ran
returns-in-Ok-clause-ran g c =
    let did = c.serve_port_in_groups.ensures in
    inr (record { judged = did.read; ran = did.ran; foreign = did.untouched; damaged = did.spared; behind = did.behind })
