use Rattle.request_frames.specs.Frames.{cut}
use Rattle.request_frames.proofs.cutter.FrameCutter.new.Goals as goal

pub returns-clause-fed : goal.returns-clause-fed
unfolding cut
returns-clause-fed c = c.in_ok-held.ensures.items
