use Rattle.std.proofs.Common.{◌≡◌, ◌+◌, ◌*◌, ◌≤◌, ◌++◌, length}
use Rattle.audit_runs.specs.Audit.{text_from}
use Rattle.audit_runs.proofs.listings.put_page.Given as goal

abbrev pub invariant-loop-block : goal.invariant-loop-block
invariant-loop-block l = record {
  from : l.fn.from ≤ l.block;
  text : text_from l.fn.reached l.fn.from ≡ l.page ++ text_from l.fn.reached l.block;
  room : length l.page + 60 * l.fn.from ≤ 60 * l.block;
}
