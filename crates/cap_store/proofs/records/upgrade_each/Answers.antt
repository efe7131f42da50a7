use Rattle.std.proofs.Common.{set, ◌∙◌, ap}
use Rattle.cap_store.proofs.RecordLaws.{blank, map_more}
use Rattle.cap_store.proofs.records.upgrade_each.Goals as goal

pub loop-held-preserved : goal.loop-held-preserved
loop-held-preserved c =
    ap (set c.loop-held.records c.loop-held.held-index) c.upgraded_record.ensures
    ∙ map_more c.args.records.now c.loop-held.records c.loop-held.held-index blank c.loop-held-test.true c.loop-held.invariant
