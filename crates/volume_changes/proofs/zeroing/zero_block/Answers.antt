use Rattle.std.proofs.Common.{◌≢◌, ◌+◌, inl, inr, ◌∙◌, ap, sym, arith}
use Rattle.std.proofs.lemmas.Bool.{cases_eq}
use Rattle.image_device.proofs.Confined.{confined_write}
use Rattle.image_layout.specs.Offsets.{data_sector}
use Rattle.volume_laws.specs.Zeroed.{is_part}
use Rattle.volume_laws.proofs.ZeroLaws.{part_is, data_apart, uses_more}
use Rattle.volume_changes.proofs.zeroing.zero_block.Goals as goal

pub returns-in_err-write-clause-confined : goal.returns-in_err-write-clause-confined
returns-in_err-write-clause-confined g c told =
    let view = g.D.Device.view in
    let k = c.args.layout.now.geometry in
    let b = c.args.block in
    confined_write (is_part k b) c.data_sector.result (view c.args.dev.now) (view c.loop-part.dev) (view c.write.new.self) (ap (is_part k b) c.data_sector.ensures.value ∙ part_is k b c.loop-part.part c.loop-part-test.true)
    (c.loop-part.invariant.confined told) (c.write.ensures.touches told)

pub loop-part-preserved : goal.loop-part-preserved
loop-part-preserved g c =
    let view = g.D.Device.view in
    let k = c.args.layout.now.geometry in
    let b = c.args.block in
    let p = c.loop-part.part in
    record {
      zeroed = λ told part h. elim (cases_eq part p) [
        | inl same ↦ ap (λ n. (view c.write.new.self).reads (data_sector k b n)) same ∙ (ap (view c.write.new.self).reads (sym c.data_sector.ensures.value) ∙ c.in_ok-write.ensures.written told)
        | inr other ↦
            let away : data_sector k b part ≢ c.data_sector.result = λ e. data_apart k b part p other (e ∙ c.data_sector.ensures.value) in
            (c.write.ensures.touches told).reads (data_sector k b part) away ∙ c.loop-part.invariant.zeroed told part (omega arith)
      ];
      confined = λ told. confined_write (is_part k b) c.data_sector.result (view c.args.dev.now) (view c.loop-part.dev) (view c.write.new.self) (ap (is_part k b) c.data_sector.ensures.value ∙ part_is k b p c.loop-part-test.true)
          (c.loop-part.invariant.confined told) (c.write.ensures.touches told);
      uses = uses_more p 1 (p + 1) (view c.args.dev.now) (view c.loop-part.dev) (view c.write.new.self) (omega arith) c.loop-part.invariant.uses c.write.ensures.uses;
      faultless = c.in_ok-write.ensures.faults ∙ c.loop-part.invariant.faultless;
    }
