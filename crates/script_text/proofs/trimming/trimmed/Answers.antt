use Rattle.std.proofs.Common.{sym, ◌∙◌, arith}
use Rattle.script_text.proofs.TextsLaws.{one_less, no_less, none_left}
use Rattle.script_text.proofs.trimming.trimmed.Goals as goal
use Rattle.script_text.proofs.trimming.trimmed.Goals.{then-loop-end-test+else-front-end-eq0, else-loop-end-test}

pub loop-end-preserved : goal.loop-end-preserved
loop-end-preserved c = (omega arith, one_less c.before_groups-front.result.now c.loop-end.end (omega arith) c.loop-end.invariant.0 (omega arith) ∙ c.loop-end.invariant.1)

pub returns-clause-value : goal.returns-clause-value
returns-clause-value c = elim c.loop-end-test.branch [
  | then-loop-end-test+else-front-end-eq0 w ↦ sym (no_less c.before_groups-front.result.now c.loop-end.end (omega arith) c.loop-end.invariant.0 (omega arith)) ∙ c.loop-end.invariant.1
  | else-loop-end-test w ↦ sym (none_left c.before_groups-front.result.now c.loop-end.end (omega arith)) ∙ c.loop-end.invariant.1
]
