use Rattle.std.proofs.Common.{◌∙◌, arith, length-set, Bool}
use Rattle.intent_journal.proofs.Common.{is_gate_open, uses_and, rests_joined}
use Rattle.intent_journal.proofs.Closings.{listed_more}
use Rattle.intent_journal.proofs.replay.read_gates.Goals as goal

pub loop-index-preserved : goal.loop-index-preserved
loop-index-preserved g c =
    let view = g.D.Device.view in
    record {
      size = length-set {A = Bool} c.loop-index.gates c.loop-index.index c.in_ok-gates.field-0 ∙ c.loop-index.invariant.size;
      gates = λ told.
          listed_more c.loop-index.gates c.loop-index.index c.in_ok-gates.field-0 (view c.args.dev.now).reads (omega (arith, c.loop-index.invariant.size)) (c.loop-index.invariant.gates told)
          (c.in_ok-gates.ensures.gate told ∙ (λ i. is_gate_open ((c.loop-index.invariant.rests told).reads i) c.loop-index.index));
      rests = λ told. rests_joined _ _ _ (c.loop-index.invariant.rests told) (c.is_gate_open.ensures.rests told);
      uses = uses_and 0 0 0 _ _ _ (omega arith) c.loop-index.invariant.uses c.is_gate_open.ensures.uses;
      faultless = c.in_ok-gates.ensures.faults ∙ c.loop-index.invariant.faultless;
    }
