use Rattle.std.proofs.Common.{◌<◌, sym, subst}
use Rattle.cap_store.specs.Store.{Store}
use Rattle.cap_store.specs.Stored.{IsStored}
use Rattle.cap_store.proofs.Sectors.{keeps}
use Rattle.cap_store.proofs.store.CapStore.set.Goals as goal

pub returns-clause-stored : goal.returns-clause-stored
returns-clause-stored c x stored =
    let before : Store = record { version = c.self.inside.version; geometry = c.self.inside.geometry; records = c.self.inside.records.items } in
    let inside : c.args.block < before.geometry.primaries = subst (λ (s : Store). c.args.block < s.geometry.primaries) (sym c.self.view_is) c.requires in
    keeps before c.args.block c.record_of.result c.self.invariant inside c.record_of.ensures.kept x
    (subst (λ (s : Store). IsStored s.version s.records x) (sym c.self.view_is) stored)
