-- Lines part in one way.
use Rattle.std.proofs.Common.{[], ◌∷◌, map, refl, ◌∙◌, ap, arith, length-append}
use Rattle.std.proofs.lemmas.List.{map-append}
use Rattle.script_text.specs.Pieces.{lines, pieces, front, unended}
use Rattle.script_text.specs.Reading.{request_of}
use Rattle.script_text.specs.Texts.{reply_text}
use Rattle.script_text.proofs.CutLaws.{lines_on, onto}
use Rattle.script_text.proofs.FeedLaws.{reply_part, reply_whole}
use Rattle.serving.specs.Input.{IsSpelling}
use Rattle.serving.specs.Voice.{IsVoice}
use Rattle.serving.specs.LineSpelling.{line_spelling, line_voice}

pub lines_lawful : IsSpelling line_spelling
lines_lawful = record {
  none = refl;
  more = λ x y.
      let more = front (onto (unended x) (pieces 10 y)) in
      (map request_of more, ap (map request_of) (lines_on x y) ∙ map-append request_of (lines x) more);
}

pub lines_apart : IsVoice line_voice
lines_apart = record {
  nothing = refl;
  whole = λ r behind form. reply_whole r behind form.numbers ∙ omega arith;
  part = λ r front back form. reply_part r front back form.numbers;
  some = λ r. omega (arith, length-append (reply_text r) (10 ∷ []));
}
