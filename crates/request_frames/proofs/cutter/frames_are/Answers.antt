use Rattle.std.proofs.Common.{ap}
use Rattle.request_frames.specs.Frames.{Cut}
use Rattle.request_frames.proofs.FramesLaws.{cut_is, cut_only}
use Rattle.request_frames.proofs.cutter.frames_are.Goals as goal

pub returns-clause-cut : goal.returns-clause-cut
returns-clause-cut c = cut_is

pub returns-clause-only : goal.returns-clause-only
returns-clause-only c = λ text bodies more h. let e = cut_only bodies text more h in (ap (λ (d : Cut). d.bodies) e, ap (λ (d : Cut). d.rest) e)
