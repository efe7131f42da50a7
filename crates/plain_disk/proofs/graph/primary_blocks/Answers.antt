use Rattle.std.proofs.Common.{arith}
use Rattle.std.proofs.lemmas.Iterator.{items_from_collect, YieldsList-from_range}
use Rattle.plain_disk.proofs.graph.primary_blocks.Goals as goal

pub returns : goal.returns
returns c = let last = c.args.world.now.geometry.primaries in items_from_collect _ c.collect.ensures.ran (YieldsList-from_range 0 last last (cc) (omega arith))
