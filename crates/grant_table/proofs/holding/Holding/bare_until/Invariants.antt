use Rattle.std.proofs.Common.{◌≡◌, ℕ, ◌<◌, ◌≤◌}
use Rattle.tsd_model.specs.declared.requests.Level.TheVariants as level
use Rattle.grant_table.specs.Led.{level_at}
use Rattle.grant_table.proofs.holding.Holding.bare_until.Given as goal

abbrev pub invariant-loop-table : goal.invariant-loop-table
invariant-loop-table l = record {
  from : l.start ≤ l.until;
  within : l.until ≤ l.end;
  bare : (o b : ℕ) → o < l.table-index → l.start ≤ b → b < l.until → level_at l.self o b ≡ level.Bare;
}
