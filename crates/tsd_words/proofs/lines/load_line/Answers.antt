use Rattle.std.proofs.Common.{refl, append_assoc}
use Rattle.tsd_words.proofs.lines.load_line.Goals as goal

pub returns : goal.returns
returns c = simp (append_assoc, c.put-2.ensures, c.put_counted-4.ensures.text, c.put_counted-3.ensures.text, c.put_counted-2.ensures.text, c.put_counted.ensures.text, c.put_number.ensures.text, c.put.ensures, c.new-line.ensures, c.as_slice.ensures, c.as_slice-2.ensures, c.as_slice-3.ensures, c.as_slice-4.ensures, c.as_slice-5.ensures, c.as_slice-6.ensures) refl
