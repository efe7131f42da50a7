use Rattle.std.proofs.Common.{arith}
use Rattle.mirror_device.proofs.Ends.{rest_set}
use Rattle.mirror_device.proofs.mem_side.MemSide.poke.Goals as goal

pub invariant_of-self-clause-rest : goal.invariant_of-self-clause-rest
invariant_of-self-clause-rest c = rest_set c.poke.result c.args.sector c.args.self.now.end _ c.args.from.now _ _ c.poke.ensures.reads c.poke.ensures.same_reads (omega arith) (omega arith) c.args.self.now.rest
