use Rattle.std.proofs.Common.{◌≡◌, drop}
use Rattle.tsd_model.specs.Step.{raised_at}
use Rattle.plain_disk.proofs.step.raised_by.Given as goal

abbrev pub invariant-loop-need : goal.invariant-loop-need
invariant-loop-need l = raised_at l.world l.sessions l.session (drop l.need-index l.need-items) l.now ≡ raised_at l.world l.sessions l.session l.need-items l.sessions
