use Rattle.std.proofs.Common.{◌≡◌, ◌*◌, ◌≤◌, ◌++◌, length, drop}
use Rattle.tsd_words.specs.Lines.{cap_lines}
use Rattle.tsd_words.proofs.caps.cap_lines.Given as goal

abbrev pub invariant-loop-pair : goal.invariant-loop-pair
invariant-loop-pair l = record {
  block : l.block ≡ l.pair-index;
  lines : l.lines ++ cap_lines l.block (drop l.pair-index l.pair-items) ≡ cap_lines 0 l.pair-items;
  room : length l.lines ≤ 100 * l.pair-index;
  few : length l.pair-items ≤ 16;
}
