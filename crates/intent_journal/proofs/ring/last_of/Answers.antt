use Rattle.std.proofs.Common.{refl}
use Rattle.intent_journal.proofs.Common.{ne_eqb}
use Rattle.intent_journal.proofs.Lasts.{last_held_at, found_on}
use Rattle.intent_journal.proofs.ring.last_of.Goals as goal
use Rattle.intent_journal.proofs.ring.last_of.Goals.{then-patch-sector, else-patch-sector}

pub loop-patch-preserved : goal.loop-patch-preserved
loop-patch-preserved c =
    let ps = c.args.patches.now in
    let i = c.loop-patch.patch-index in
    elim c.if-patch-sector.branch [
      | then-patch-sector w ↦
          rw w.found-is (λ x. last_held_at ps i c.args.sector _ x c.loop-patch-test.true w.if-patch-sector.true)
      | else-patch-sector w ↦
          rw w.found-is (found_on c.loop-patch.found (λ q. q.now.bytes) ps i c.args.sector _ _ c.loop-patch-test.true refl (ne_eqb _ c.args.sector w.if-patch-sector.false) c.loop-patch.invariant)
    ]
