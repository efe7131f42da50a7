use Rattle.std.proofs.Common.{[], refl}
use Rattle.image_audit.proofs.TakingLaws.{taken_behind, one_listing}
use Rattle.image_audit.proofs.laws.listings_are_taken.Goals as goal

pub returns-clause-taken : goal.returns-clause-taken
returns-clause-taken c entries = taken_behind entries [] 0 refl

pub returns-clause-one : goal.returns-clause-one
returns-clause-one c = one_listing
