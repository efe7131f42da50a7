use Rattle.std.proofs.Common.{arith, ap, ◌+◌, ◌≤◌, length}
use Rattle.std.proofs.lemmas.Iterator.{items_from_collect, YieldsList-from_range}
use Rattle.std.proofs.lemmas.List.FromFn.{length-range_with_len}
use Rattle.std.proofs.lemmas.Result.{IfOk-weaker}
use Rattle.plain_disk.proofs.step.run_at.Goals as goal

pub returns-in-Some : goal.returns-in-Some
returns-in-Some c =
    let first = c.in-Some.first in
    let count = c.args.count in
    let items = items_from_collect _ c.collect.ensures.ran (YieldsList-from_range first (first + count) count (cc) (omega arith)) in
    record {
      value = rw c.in-Some.is items;
      counted = IfOk-weaker c.collect.result _ (λ v. length v.items ≤ count) (λ v e. omega (arith, ap length e, length-range_with_len first count)) items;
    }
