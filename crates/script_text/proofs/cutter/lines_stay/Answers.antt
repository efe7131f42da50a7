use Rattle.script_text.specs.Pieces.{pieces, front, unended}
use Rattle.script_text.proofs.CutLaws.{lines_on, onto}
use Rattle.script_text.proofs.cutter.lines_stay.Goals as goal

pub returns : goal.returns
returns c = λ x y. (front (onto (unended x) (pieces 10 y)), lines_on x y)
