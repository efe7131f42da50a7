use Rattle.std.proofs.Common.{◌≡◌, ℕ, ◌<◌, ◌≤◌, length, []}
use Rattle.std.specs.Prelude.{slice_index_or}
use Rattle.tsd_model.specs.Sessions.{greater}
use Rattle.tsd_model.specs.declared.requests.Level.TheVariants as level
use Rattle.grant_table.proofs.holding.Holding.add_to.Given as goal

abbrev pub invariant-loop-origin : goal.invariant-loop-origin
invariant-loop-origin l = record {
  sized : length l.best ≡ length l.initial.best;
  risen : (o : ℕ) → o < l.origin → slice_index_or l.best o level.Bare ≡ greater (slice_index_or l.initial.best o level.Bare) (slice_index_or (slice_index_or l.self o []) l.block level.Bare);
  others : (o : ℕ) → l.origin ≤ o → slice_index_or l.best o level.Bare ≡ slice_index_or l.initial.best o level.Bare;
}
