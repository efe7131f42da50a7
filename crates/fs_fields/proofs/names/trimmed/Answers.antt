use Rattle.std.proofs.Common.{sym, ◌∙◌, arith}
use Rattle.std.proofs.lemmas.Bool.{ne_eqb}
use Rattle.fs_fields.proofs.PadLaws.{cut_zero, cut_other, cut_all}
use Rattle.fs_fields.proofs.names.trimmed.Goals as goal
use Rattle.fs_fields.proofs.names.trimmed.Goals.{then-loop-len-test+else-field-len-eq0, else-loop-len-test}

pub loop-len-preserved : goal.loop-len-preserved
loop-len-preserved c = record {
  within = omega arith;
  same = cut_zero c.args.field.now c.loop-len.len (omega arith) c.loop-len.invariant.within (omega arith) ∙ c.loop-len.invariant.same;
}

pub returns-clause-value : goal.returns-clause-value
returns-clause-value c = elim c.loop-len-test.branch [
  | then-loop-len-test+else-field-len-eq0 w ↦ sym (cut_other c.args.field.now c.loop-len.len (omega arith) c.loop-len.invariant.within (ne_eqb _ _ w.if-field-len-eq0.false)) ∙ c.loop-len.invariant.same
  | else-loop-len-test w ↦ cut_all c.args.field.now c.loop-len.len (omega arith) ∙ c.loop-len.invariant.same
]
