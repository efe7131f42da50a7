use Rattle.std.proofs.Common.{◌≡◌, ℕ, ◌<◌, ◌≤◌, length, []}
use Rattle.std.specs.Prelude.{slice_index_or, slice_set}
use Rattle.tsd_model.specs.declared.requests.Level.TheVariants as level
use Rattle.grant_table.proofs.holding.Holding.drop_at.Given as goal

abbrev pub invariant-loop-origin : goal.invariant-loop-origin
invariant-loop-origin l = record {
  sized : length l.self-inside.tables.items ≡ length l.initial.self-inside.tables.items;
  done : (k : ℕ) → k < l.origin → slice_index_or l.self-inside.tables.items k [] ≡ slice_set (slice_index_or l.initial.self-inside.tables.items k []) l.block level.Bare;
  others : (k : ℕ) → l.origin ≤ k → slice_index_or l.self-inside.tables.items k [] ≡ slice_index_or l.initial.self-inside.tables.items k [];
}
