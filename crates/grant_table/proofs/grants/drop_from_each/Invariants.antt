use Rattle.std.proofs.Common.{◌≡◌, ℕ, ◌<◌, ◌≤◌, None, [], length}
use Rattle.std.specs.Prelude.{slice_index_or, slice_set, replicate, option_map}
use Rattle.tsd_model.specs.declared.requests.Level.TheVariants as level
use Rattle.grant_table.proofs.grants.drop_from_each.Given as goal

abbrev pub invariant-loop-position : goal.invariant-loop-position
invariant-loop-position l = record {
  done : (k : ℕ) → k < l.position → slice_index_or l.held k None ≡ option_map (λ h. slice_set h l.origin (replicate (length (slice_index_or h l.origin [])) level.Bare)) (slice_index_or l.initial.held k None);
  others : (k : ℕ) → l.position ≤ k → slice_index_or l.held k None ≡ slice_index_or l.initial.held k None;
}
