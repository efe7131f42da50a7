use Rattle.std.proofs.Common.{◌+◌, inl, inr, ◌∙◌, ap, sym, arith}
use Rattle.recovery.proofs.Common.{cases_eq, confined_write, uses_and, says_open, gate_sector, is_journal, gates_apart, in_journal}
use Rattle.recovery.proofs.areas.close_gates.Goals as goal

pub returns-in_err-write-clause-confined : goal.returns-in_err-write-clause-confined
returns-in_err-write-clause-confined g c told =
    confined_write is_journal c.gate_sector.result _ _ _ (in_journal c.gate_sector.result c.gate_sector.ensures.in_ring.0 (omega arith)) (c.loop-index.invariant.confined told) (c.write.ensures.touches told)

pub loop-index-preserved : goal.loop-index-preserved
loop-index-preserved g c =
    let view = g.D.Device.view in
    let now = view c.write.new.self in
    record {
      closed = λ told i h. elim (cases_eq i c.loop-index.index) [
        | inl same ↦ ap (λ n. says_open (now.reads (gate_sector n))) same ∙ (ap (λ n. says_open (now.reads n)) (sym c.gate_sector.ensures.value) ∙ (ap says_open (c.in_ok-write.ensures.written told) ∙ c.gate_bytes.ensures.reads_back))
        | inr other ↦ ap says_open ((c.write.ensures.touches told).reads (gate_sector i) (λ e. gates_apart i c.loop-index.index other (e ∙ c.gate_sector.ensures.value))) ∙ c.loop-index.invariant.closed told i (omega arith)
      ];
      confined = λ told. confined_write is_journal c.gate_sector.result _ _ _ (in_journal c.gate_sector.result c.gate_sector.ensures.in_ring.0 (omega arith)) (c.loop-index.invariant.confined told) (c.write.ensures.touches told);
      uses = uses_and c.loop-index.index 1 (c.loop-index.index + 1) _ _ _ (omega arith) c.loop-index.invariant.uses c.write.ensures.uses;
      faultless = c.in_ok-write.ensures.faults ∙ c.loop-index.invariant.faultless;
    }
