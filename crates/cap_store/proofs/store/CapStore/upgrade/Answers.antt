use Rattle.std.proofs.Common.{◌≡◌, inr, List, length, refl, sym, ◌∙◌, ap, subst, arith}
use Rattle.std.specs.Prelude.{map}
use Rattle.std.specs.Vec.{with_items}
use Rattle.std.proofs.lemmas.List.{length-map, with_items_is}
use Rattle.tsd_model.specs.declared.records.Record.{Record}
use Rattle.tsd_model.specs.Records.{upgraded_record}
use Rattle.image_device.specs.Image.{zeros}
use Rattle.image_layout.specs.Image.{Image}
use Rattle.cap_store.specs.Store.{AreRecords, IsTable, Store}
use Rattle.cap_store.specs.Stored.{caps_sector_bytes, IsStored}
use Rattle.cap_store.proofs.RecordLaws.{upgraded_are, upgraded_stays}
use Rattle.cap_store.proofs.Written.{both_are_all, first_is_all, second_is_zeros}
use Rattle.cap_store.proofs.store.CapStore.upgrade.Goals as goal

module _ (c : goal.After-self-2-1) where
  abbrev held : List Record
  held = c.self.inside.records.items

  abbrev new : List Record
  new = (with_items c.self.inside.records c.upgrade_each.new.records).items

  new_is : new ≡ map upgraded_record held
  new_is = with_items_is c.self.inside.records c.upgrade_each.new.records (omega arith) ∙ c.upgrade_each.ensures ∙ ap (map upgraded_record) c.deref_mut.ensures.value

  are : AreRecords 2 (map upgraded_record held)
  are = upgraded_are c.self.inside.version held c.self.invariant.kept

  each : length (map upgraded_record held) ≡ c.self.inside.geometry.primaries
  each = length-map held upgraded_record ∙ c.self.invariant.each

pub invariant_of-self : goal.invariant_of-self
invariant_of-self c = subst (λ (rs : List Record). IsTable (record { version = 2; geometry = c.self.inside.geometry; records = rs })) (sym (new_is c))
    (record { version = inr refl; lawful = c.self.invariant.lawful; each = each c; kept = are c })

pub returns-clause-same : goal.returns-clause-same
returns-clause-same c is =
    let version : c.self.inside.version ≡ 2 = ap (λ (s : Store). s.version) c.self.view_is ∙ is in
    let stays : new c ≡ held c = new_is c ∙ upgraded_stays (held c) (subst (λ v. AreRecords v (held c)) version c.self.invariant.kept) in
    (λ i. record { version = sym version i; geometry = c.self.inside.geometry; records = stays i }) ∙ c.self.view_is

pub returns-clause-one : goal.returns-clause-one
returns-clause-one c few = subst (λ (rs : List Record). (y : Image) → y 132 ≡ caps_sector_bytes 2 rs 0 → IsStored 2 rs y) (sym (new_is c))
    (λ y. first_is_all (map upgraded_record (held c)) y (are c) (let many = each c in omega (arith, many, few)))

pub returns-clause-both : goal.returns-clause-both
returns-clause-both c = subst (λ (rs : List Record). (y : Image) → y 132 ≡ caps_sector_bytes 2 rs 0 → y 133 ≡ caps_sector_bytes 2 rs 1 → IsStored 2 rs y) (sym (new_is c))
    (λ y. both_are_all (map upgraded_record (held c)) y (are c) (let many = each c in omega (arith, many, c.self.invariant.lawful.primaries.1)))

pub returns-clause-empty : goal.returns-clause-empty
returns-clause-empty c few = subst (λ (rs : List Record). caps_sector_bytes 2 rs 1 ≡ zeros) (sym (new_is c))
    (second_is_zeros (map upgraded_record (held c)) (let many = each c in omega (arith, many, few)))
