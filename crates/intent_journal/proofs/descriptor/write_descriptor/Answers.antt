use Rattle.std.proofs.Common.{refl, arith}
use Rattle.intent_journal.proofs.Descriptors.{write_more}
use Rattle.intent_journal.proofs.descriptor.write_descriptor.Goals as goal

pub loop-patch-preserved : goal.loop-patch-preserved
loop-patch-preserved c = record {
  place = omega arith;
  written = write_more c.args.patches.now c.loop-patch.patch-index _ _ _ _ _ _ (omega arith) c.requires c.loop-patch.invariant.place refl c.loop-patch.invariant.written c.put_number-in-loop-patch.ensures;
}
