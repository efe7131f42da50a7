use Rattle.std.proofs.Common.{◌≡◌, ◌≢◌, ◌<◌, ◌+◌, ◌-◌, ℕ, true, inl, inr, ◌∙◌, ap, sym, arith}
use Rattle.std.proofs.lemmas.Bool.{cases_eq}
use Rattle.std.proofs.lemmas.Bool.Decides.{nat_tests}
use Rattle.image_device.proofs.Confined.{confined_write}
use Rattle.volume_laws.specs.Erased.{is_body}
use Rattle.volume_laws.proofs.ZeroLaws.{uses_more}
use Rattle.volume_changes.proofs.erasing.write_zeros.Goals as goal

body_is : (k : ℕ) → k < 113 → is_body (4 + k) ≡ true
body_is k less = grind (arith, nat_tests)

pub returns-in_err-write-clause-confined : goal.returns-in_err-write-clause-confined
returns-in_err-write-clause-confined g c told =
    let view = g.D.Device.view in
    confined_write is_body c.body_sector.result (view c.args.dev.now) (view c.loop-body.dev) (view c.write.new.self) (ap is_body c.body_sector.ensures.value ∙ body_is c.loop-body.body c.loop-body-test.true)
    (c.loop-body.invariant.confined told) (c.write.ensures.touches told)

pub loop-body-preserved : goal.loop-body-preserved
loop-body-preserved g c =
    let view = g.D.Device.view in
    let p = c.loop-body.body in
    record {
      erased = λ told k h. elim (cases_eq k p) [
        | inl same ↦ ap (λ n. (view c.write.new.self).reads (4 + n)) same ∙ (ap (view c.write.new.self).reads (sym c.body_sector.ensures.value) ∙ c.in_ok-write.ensures.written told)
        | inr other ↦
            let away : 4 + k ≢ c.body_sector.result = λ e. other (let is = c.body_sector.ensures.value in omega (arith, e, is)) in
            (c.write.ensures.touches told).reads (4 + k) away ∙ c.loop-body.invariant.erased told k (omega arith)
      ];
      confined = λ told. confined_write is_body c.body_sector.result (view c.args.dev.now) (view c.loop-body.dev) (view c.write.new.self) (ap is_body c.body_sector.ensures.value ∙ body_is p c.loop-body-test.true)
          (c.loop-body.invariant.confined told) (c.write.ensures.touches told);
      uses = uses_more p 1 (p + 1) (view c.args.dev.now) (view c.loop-body.dev) (view c.write.new.self) (omega arith) c.loop-body.invariant.uses c.write.ensures.uses;
      faultless = c.in_ok-write.ensures.faults ∙ c.loop-body.invariant.faultless;
    }

pub returns-clause-erased : goal.returns-clause-erased
returns-clause-erased g c told = λ n from to.
    ap (g.D.Device.view c.loop-body.dev).reads (omega arith) ∙ c.loop-body.invariant.erased told (n - 4) (omega (arith, c.loop-body-test.false))
