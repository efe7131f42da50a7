use Rattle.request_frames.proofs.CutLaws.{any_cutting_lem}
use Rattle.request_frames.proofs.cutter.any_cutting.Goals as goal

pub returns : goal.returns
returns c = any_cutting_lem
