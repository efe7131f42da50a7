-- What changes of a tally.
use Rattle.std.specs.Prelude.{◌≡◌}
use Rattle.reclaim.specs.declared.tally.Tally.{Tally}

-- The counts may differ, and nothing else does.
pub record HasSameMarks (old new : Tally) : Type 0 where
  pub gone : new.gone ≡ old.gone
  pub waiting : new.waiting ≡ old.waiting
  pub doomed : new.doomed ≡ old.doomed
  pub pairs : new.pairs ≡ old.pairs
