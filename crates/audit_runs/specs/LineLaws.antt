-- More bytes change no line that is whole.
use Rattle.std.proofs.Common.{map, refl, ◌∙◌, ap}
use Rattle.std.proofs.lemmas.List.{map-append}
use Rattle.script_text.specs.Pieces.{lines, pieces, front, unended}
use Rattle.script_text.proofs.CutLaws.{lines_on, onto}
use Rattle.image_audit.specs.ListingReading.{listing_of}
use Rattle.serving.specs.Input.{IsSpelling}
use Rattle.audit_runs.specs.Lines.{listing_spelling}

pub listings_lawful : IsSpelling listing_spelling
listings_lawful = record {
  none = refl;
  more = λ x y.
      let more = front (onto (unended x) (pieces 10 y)) in
      (map listing_of more, ap (map listing_of) (lines_on x y) ∙ map-append listing_of (lines x) more);
}
