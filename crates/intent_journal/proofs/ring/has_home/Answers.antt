use Rattle.std.proofs.Common.{refl, sym}
use Rattle.intent_journal.proofs.Common.{ne_eqb}
use Rattle.intent_journal.proofs.Lasts.{none_passed, held_at}
use Rattle.intent_journal.proofs.ring.has_home.Goals as goal

pub loop-patch-preserved : goal.loop-patch-preserved
loop-patch-preserved c = none_passed c.args.patches.now c.loop-patch.patch-index c.args.sector _ _ c.loop-patch-test.true refl (ne_eqb _ c.args.sector c.if-patch-sector.false) c.loop-patch.invariant

pub returns-then-patch-sector : goal.returns-then-patch-sector
returns-then-patch-sector c = sym (held_at c.args.patches.now c.loop-patch.patch-index c.args.sector _ c.loop-patch-test.true c.if-patch-sector.true)
