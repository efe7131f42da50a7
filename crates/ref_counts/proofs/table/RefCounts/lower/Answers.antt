use Rattle.std.proofs.Common.{sym, subst, ◌-◌, arith}
use Rattle.ref_counts.specs.Stored.{IsStored}
use Rattle.ref_counts.specs.Table.{Table}
use Rattle.ref_counts.proofs.Sectors.{keeps, AllFit}
use Rattle.ref_counts.proofs.table.RefCounts.lower.Goals as goal

pub returns-clause-stored : goal.returns-clause-stored
returns-clause-stored c x stored =
    let before : Table = record { geometry = c.self.inside.geometry; counts = c.self.inside.counts.items } in
    keeps before c.args.block (c.index_mut.result.now - 1) c.self.invariant (omega arith) (subst AllFit c.deref.ensures.value c.four_bytes_each.ensures) x
    (subst (λ (t : Table). IsStored t.counts t.geometry x) (sym c.self.view_is) stored)
