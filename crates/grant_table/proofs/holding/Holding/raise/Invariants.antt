use Rattle.std.proofs.Common.{◌≡◌, ℕ, ◌<◌, ◌≤◌, length, []}
use Rattle.std.specs.Prelude.{slice_index_or}
use Rattle.tsd_model.specs.Sessions.{raised_level}
use Rattle.tsd_model.specs.declared.requests.Level.TheVariants as level
use Rattle.grant_table.proofs.holding.Holding.raise.Given as goal

abbrev pub invariant-loop-origin : goal.invariant-loop-origin
invariant-loop-origin l = record {
  sized : length l.self-inside.tables.items ≡ length l.initial.self-inside.tables.items;
  done : (k : ℕ) → k < l.origin → slice_index_or l.self-inside.tables.items k [] ≡ raised_level l.block (slice_index_or l.origins k level.Bare) (slice_index_or l.initial.self-inside.tables.items k []);
  others : (k : ℕ) → l.origin ≤ k → slice_index_or l.self-inside.tables.items k [] ≡ slice_index_or l.initial.self-inside.tables.items k [];
}
