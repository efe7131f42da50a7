use Rattle.std.proofs.Common.{◌≡◌, ◌+◌, ◌<◌, sym, ◌∙◌, subst, arith}
use Rattle.std.specs.Prelude.{slice_index}
use Rattle.std.proofs.lemmas.Grind.{get_or_default_zero}
use Rattle.ref_counts.specs.Stored.{IsStored}
use Rattle.ref_counts.specs.Table.{Table}
use Rattle.ref_counts.proofs.Sectors.{keeps, AllFit}
use Rattle.ref_counts.proofs.table.RefCounts.raise.Goals as goal

pub returns-clause-stored : goal.returns-clause-stored
returns-clause-stored c x stored =
    let before : Table = record { geometry = c.self.inside.geometry; counts = c.self.inside.counts.items } in
    let inside : c.args.block < before.geometry.blocks = subst (λ (t : Table). c.args.block < t.geometry.blocks) (sym c.self.view_is) c.requires.block in
    let room : slice_index before.counts c.args.block < before.geometry.blocks = subst (λ (t : Table). slice_index t.counts c.args.block < t.geometry.blocks) (sym c.self.view_is) c.requires.room in
    let here : c.index_mut.result.now ≡ slice_index before.counts c.args.block = c.index_mut.ensures.value ∙ get_or_default_zero before.counts c.args.block c.index_mut.result.now (omega (arith, c.self.invariant.each)) in
    keeps before c.args.block (c.index_mut.result.now + 1) c.self.invariant (omega (arith, c.self.invariant.lawful.blocks)) (subst AllFit c.deref.ensures.value c.four_bytes_each.ensures) x
    (subst (λ (t : Table). IsStored t.counts t.geometry x) (sym c.self.view_is) stored)
