use Rattle.std.proofs.Common.{refl}
use Rattle.image_probe.proofs.FirstReads.{counts_none, reads_none}
use Rattle.image_probe.proofs.testing.test_first.Goals as goal

pub test_over-requires-clause-reads : goal.test_over-requires-clause-reads
test_over-requires-clause-reads g c told = reads_none _ _ refl

pub test_over-requires-clause-counts : goal.test_over-requires-clause-counts
test_over-requires-clause-counts g c = counts_none _ _ refl
