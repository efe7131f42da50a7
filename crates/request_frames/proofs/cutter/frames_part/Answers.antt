use Rattle.request_frames.proofs.PartLaws.{frames_on, frame_first, frame_part}
use Rattle.request_frames.proofs.cutter.frames_part.Goals as goal

pub returns-clause-stay : goal.returns-clause-stay
returns-clause-stay c = frames_on

pub returns-clause-first : goal.returns-clause-first
returns-clause-first c = frame_first

pub returns-clause-none : goal.returns-clause-none
returns-clause-none c = frame_part
