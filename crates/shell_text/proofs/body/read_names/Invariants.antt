use Rattle.std.proofs.Common.{◌≡◌, ◌+◌, length}
use Rattle.std.specs.Prelude.{option_map}
use Rattle.shell_text.specs.FileReading.{names_at}
use Rattle.shell_text.proofs.BodyLaws.{before}
use Rattle.shell_text.proofs.body.read_names.Given as goal

abbrev pub invariant-loop-more : goal.invariant-loop-more
invariant-loop-more l = record {
  left : names_at l.count l.initial.reader ≡ option_map (before l.path) (names_at l.more l.reader);
  counted : length l.path + l.more ≡ l.count;
}

abbrev pub decreases-loop-more : goal.decreases-loop-more
decreases-loop-more l = l.more
