use Rattle.std.proofs.Common.{◌≡◌, ℕ, None, sym, subst, ◌∙◌}
use Rattle.pointer_table.proofs.Common.{count_by, is_some, AreEmpties, IsLeastOfAll, IsTable}
use Rattle.pointer_table.proofs.SlotLaws.{length-pairs_in}
use Rattle.pointer_table.proofs.TableLaws.{made}
use Rattle.pointer_table.proofs.table.PointerTable.of_slots.Goals as goal

pub invariant_of-result : goal.invariant_of-result
invariant_of-result c =
    let g = c.args.geometry.now in
    let items = c.args.slots in
    let x = c.in_ok-index.index in
    let held = c.count_held-held.result in
    let none : IsLeastOfAll items None = c.in_ok-index.ensures.none in
    let table : IsTable (record { geometry = g; slots = items }) = made g items c.requires.lawful c.requires.count c.requires.within none in
    let counted : held ≡ count_by is_some items = c.count_held-held.ensures in (
      table,
      counted ∙ sym (length-pairs_in items table.apart),
      subst (λ (n : ℕ). AreEmpties items n x.empty x.by_bucket.next) (sym counted)
          c.in_ok-index.ensures.empties,
      c.in_ok-index.ensures.index,
      c.in_ok-index.ensures.room,
    )

pub returns-clause-repeated : goal.returns-clause-repeated
returns-clause-repeated c =
    let g = c.args.geometry.now in
    let items = c.args.slots in
    let none : IsLeastOfAll items None = c.in_ok-index.ensures.none in
    (made g items c.requires.lawful c.requires.count c.requires.within none, none)
