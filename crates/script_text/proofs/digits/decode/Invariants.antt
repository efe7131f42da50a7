use Rattle.script_text.proofs.DigitLaws.{AreRead}
use Rattle.script_text.proofs.digits.decode.Given as goal

abbrev pub invariant-loop-i : goal.invariant-loop-i
invariant-loop-i l = AreRead l.digits l.bytes l.i l.worst
