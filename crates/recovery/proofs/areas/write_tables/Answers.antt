use Rattle.std.proofs.Common.{◌≡◌, ℕ, ◌≤◌, ◌<◌, ◌+◌, ◌-◌, nat_le, nat_lt, true, inl, inr, ◌∙◌, ap, sym, arith}
use Rattle.recovery.proofs.Common.{cases_eq, cases_lt, nat_tests, confined_write, uses_and, sweep_flag, fresh_bytes, fresh_end, is_fresh}
use Rattle.recovery.proofs.areas.write_tables.Goals as goal

from_flag : (n : ℕ) → sweep_flag ≤ n → nat_le sweep_flag n ≡ true
from_flag n h = grind (arith, nat_tests)

pub returns-in_err-write-clause-confined : goal.returns-in_err-write-clause-confined
returns-in_err-write-clause-confined g c told =
    confined_write (nat_le sweep_flag) c.loop-sector.sector _ _ _ (from_flag c.loop-sector.sector c.loop-sector.invariant.from) (c.loop-sector.invariant.confined told) (c.write.ensures.touches told)

below_end : (n m : ℕ) → n < m → nat_lt n m ≡ true
below_end n m h = grind (arith, nat_tests)

pub returns-in_err-write-clause-inside : goal.returns-in_err-write-clause-inside
returns-in_err-write-clause-inside g c told =
    let s = c.loop-sector.sector in
    confined_write (is_fresh c.args.layout.now.geometry) s _ _ _ (below_end s (fresh_end c.args.layout.now.geometry) (omega (arith, c.loop-sector-test.true))) (c.loop-sector.invariant.inside told) (c.write.ensures.touches told)

pub loop-sector-preserved : goal.loop-sector-preserved
loop-sector-preserved g c =
    let view = g.D.Device.view in
    let now = view c.write.new.self in
    let s = c.loop-sector.sector in
    record {
      from = omega (arith, c.loop-sector.invariant.from);
      fresh = λ told n from to. elim (cases_eq n s) [
        | inl same ↦ ap now.reads same ∙ (c.in_ok-write.ensures.written told ∙ (c.fresh_sector.ensures.value ∙ ap (fresh_bytes c.args.layout.now.geometry c.args.caps.now) (sym same)))
        | inr other ↦ (c.write.ensures.touches told).reads n other ∙ c.loop-sector.invariant.fresh told n from (omega arith)
      ];
      kept = λ more. elim (cases_lt s 134) [
        | inl less ↦ c.fresh_sector.ensures.kept (omega arith) less
        | inr over ↦ c.loop-sector.invariant.kept (omega arith)
      ];
      confined = λ told. confined_write (nat_le sweep_flag) s _ _ _ (from_flag s c.loop-sector.invariant.from) (c.loop-sector.invariant.confined told) (c.write.ensures.touches told);
      inside = λ told. confined_write (is_fresh c.args.layout.now.geometry) s _ _ _ (below_end s (fresh_end c.args.layout.now.geometry) (omega (arith, c.loop-sector-test.true))) (c.loop-sector.invariant.inside told) (c.write.ensures.touches told);
      uses = uses_and (s - 131) 1 (s + 1 - 131) _ _ _ (omega (arith, c.loop-sector.invariant.from)) c.loop-sector.invariant.uses c.write.ensures.uses;
      faultless = c.in_ok-write.ensures.faults ∙ c.loop-sector.invariant.faultless;
    }
