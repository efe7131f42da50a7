use Rattle.script_text.proofs.CutLaws.{any_cutting_lem}
use Rattle.script_text.proofs.cutter.any_cutting.Goals as goal

pub returns : goal.returns
returns c = any_cutting_lem
