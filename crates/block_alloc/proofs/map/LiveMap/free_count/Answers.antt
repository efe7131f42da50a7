use Rattle.std.proofs.Common.{subst}
use Rattle.block_alloc.proofs.Common.{LiveMap, IsTable}
use Rattle.block_alloc.proofs.BitLaws.{kept-table}
use Rattle.block_alloc.proofs.map.LiveMap.free_count.Goals as goal

pub returns-clause-table : goal.returns-clause-table
returns-clause-table c =
    let P : LiveMap → Type 0 = λ m. IsTable m in
    let inside = c.self.inside in
    subst P c.self.view_is (kept-table inside.geometry inside.bytes.items inside.unhidden.items inside.free inside.most.items c.self.invariant.0 c.self.invariant.1)
