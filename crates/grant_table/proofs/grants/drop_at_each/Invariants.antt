use Rattle.std.proofs.Common.{◌≡◌, ℕ, ◌<◌, ◌≤◌, None}
use Rattle.std.specs.Prelude.{slice_index_or, slice_set, map, option_map}
use Rattle.tsd_model.specs.declared.requests.Level.TheVariants as level
use Rattle.grant_table.proofs.grants.drop_at_each.Given as goal

abbrev pub invariant-loop-position : goal.invariant-loop-position
invariant-loop-position l = record {
  done : (k : ℕ) → k < l.position → slice_index_or l.held k None ≡ option_map (map (λ levels. slice_set levels l.block level.Bare)) (slice_index_or l.initial.held k None);
  others : (k : ℕ) → l.position ≤ k → slice_index_or l.held k None ≡ slice_index_or l.initial.held k None;
}
