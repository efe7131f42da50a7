-- A slot that is filled or emptied: what is still known of the slots, the list of empty ones and the index.
use Rattle.std.proofs.Common.{◌≡◌, ℕ, ◌+◌, ◌/◌, ◌<◌, ◌≤◌, false, List, length, get_or, set, sym, ◌∙◌, ap, subst, arith}
use Rattle.std.proofs.Common.{Option, Some, None}
use Rattle.pointer_table.proofs.Common.{is_some, both_ways, Geometry, put_at, Patch, IsChange, sector_of, slot_sector_bytes, IsStored, IsLawful, holds, IsIndex, HasLinksAndHeads, IsPlaceOf, AreEmpties, AreSmall, ArePackable, AreWithinTo, slot_at, pairs_in, Table, pairs, MayBeHeld, IsTable, IsWith, Index}
use Rattle.image_device.specs.Image.{Image}
use Rattle.pointer_table.proofs.SectorLaws.{stored_kept}
use Rattle.pointer_table.proofs.EmptyLaws.{first_empty, empties_taken, empties_given}
use Rattle.pointer_table.proofs.SlotLaws.{some_inside, holds_from_slot, set_same, set_other}
use Rattle.pointer_table.proofs.TableLaws.{with_slot, fits, added, removed, held_added, held_removed}

-- ---- one slot

pub slot_filled : (slots : List (Option (ℕ × ℕ))) (position : ℕ) (e : ℕ × ℕ) → position < length slots → slot_at slots position ≡ None → IsWith (slot_at slots) position e (slot_at (set slots position (Some e)))
slot_filled slots position e inside empty = record {
  empty = empty;
  filled = set_same slots position (Some e) inside;
  others = λ k off. set_other slots position k (Some e) off;
}

pub slot_emptied : (slots : List (Option (ℕ × ℕ))) (position : ℕ) (e : ℕ × ℕ) → slot_at slots position ≡ Some e → IsWith (slot_at (set slots position None)) position e (slot_at slots)
slot_emptied slots position e held = record {
  empty = set_same slots position None (some_inside slots position e held);
  filled = held;
  others = λ k off. sym (set_other slots position k None off);
}

-- ---- what a table in memory keeps

abbrev pub Kept : Geometry → List (Option (ℕ × ℕ)) → ℕ → Index → Type 0
Kept g items held x =
    IsTable (record { geometry = g; slots = items })
    × (held ≡ length (pairs (record { geometry = g; slots = items })))
    × AreEmpties items held x.empty x.by_bucket.next
    × IsIndex (slot_at items) x
    × HasLinksAndHeads g.blocks g.slots x

-- a table that isn't full has an empty slot, the first of the list
few_held : (t : Table) (g : Geometry) (items : List (Option (ℕ × ℕ))) (held : ℕ) (x : Index) → ◌≡◌ {A = Table} (record { geometry = g; slots = items }) t
    → Kept g items held x → length (pairs t) < t.geometry.slots → held < length items
few_held t g items held x is kept room =
    let same : length (pairs (record { geometry = g; slots = items })) ≡ length (pairs t) = ap (λ (v : Table). length (pairs v)) is in
    let sizes : g.slots ≡ t.geometry.slots = ap (λ (v : Table). v.geometry.slots) is in
    let all = kept.0.count in
    let held_is = kept.1 in
    omega arith

pub next_empty : (t : Table) (g : Geometry) (items : List (Option (ℕ × ℕ))) (held : ℕ) (x : Index) → ◌≡◌ {A = Table} (record { geometry = g; slots = items }) t
    → Kept g items held x → length (pairs t) < t.geometry.slots → (x.empty < length items) × (slot_at items x.empty ≡ None)
next_empty t g items held x is kept room = first_empty items held x.empty x.by_bucket.next kept.2 (few_held t g items held x is kept room)

-- it is filled
pub filled : (t : Table) (g : Geometry) (items : List (Option (ℕ × ℕ))) (held : ℕ) (x now : Index) (position a b : ℕ) (slots : List (Option (ℕ × ℕ))) → ◌≡◌ {A = Table} (record { geometry = g; slots = items }) t
    → Kept g items held x → length (pairs t) < t.geometry.slots → holds (pairs t) a b ≡ false → MayBeHeld t.geometry (a, b) → position ≡ x.empty → slots ≡ set items position (Some (a, b))
    → ((next : ℕ → Option (ℕ × ℕ)) → IsWith (slot_at items) position (a, b) next → IsIndex next now)
    → ((blocks positions : ℕ) → HasLinksAndHeads blocks positions x → HasLinksAndHeads blocks positions now)
    → now.empty ≡ get_or x.by_bucket.next x.empty 0
    → ((k : ℕ) → slot_at items k ≡ None → (k ≡ position → ⊥) → get_or now.by_bucket.next k 0 ≡ get_or x.by_bucket.next k 0)
    → Kept g slots (held + 1) now
filled t g items held x now position a b slots is kept room absent within place_is set_is index rooms first stays = (table, many, empties_now, index_now, rooms g.blocks g.slots kept.4)
  where
    u : Table
    u = record { geometry = g; slots = items }

    empty : slot_at items position ≡ None
    empty = ap (slot_at items) place_is ∙ (next_empty t g items held x is kept room).1

    inside : position < length items
    inside = let at = (next_empty t g items held x is kept room).0 in let same = place_is in omega arith

    not_held : holds (pairs u) a b ≡ false
    not_held = ap (λ (v : Table). holds (pairs v) a b) is ∙ absent

    slots_are : set items position (Some (a, b)) ≡ slots
    slots_are = sym set_is

    table : IsTable (record { geometry = g; slots = slots })
    table = subst (λ (slots : List (Option (ℕ × ℕ))). IsTable (record { geometry = g; slots = slots })) slots_are
        (added u position a b kept.0 (let here = inside in let all = kept.0.count in omega arith) not_held (subst (λ (v : Table). MayBeHeld v.geometry (a, b)) (sym is) within))

    many : held + 1 ≡ length (pairs (record { geometry = g; slots = slots }))
    many = ap (λ (n : ℕ). n + 1) kept.1 ∙ (sym (held_added u position a b kept.0 (let here = inside in let all = kept.0.count in omega arith) empty not_held)
        ∙ ap (λ (slots : List (Option (ℕ × ℕ))). length (pairs_in slots)) slots_are)

    taken : AreEmpties (set items x.empty (Some (a, b))) (held + 1) (get_or x.by_bucket.next x.empty 0) now.by_bucket.next
    taken = empties_taken items held x.empty x.by_bucket.next now.by_bucket.next (a, b) kept.2 (few_held t g items held x is kept room)
        (λ k none off. stays k none (λ same. off (same ∙ place_is)))

    empties_now : AreEmpties slots (held + 1) now.empty now.by_bucket.next
    empties_now = subst (λ (link : ℕ). AreEmpties slots (held + 1) link now.by_bucket.next) (sym first)
        (subst (λ (slots : List (Option (ℕ × ℕ))). AreEmpties slots (held + 1) (get_or x.by_bucket.next x.empty 0) now.by_bucket.next)
        (ap (λ (p : ℕ). set items p (Some (a, b))) (sym place_is) ∙ slots_are) taken)

    index_now : IsIndex (slot_at slots) now
    index_now = subst (λ (slots : List (Option (ℕ × ℕ))). IsIndex (slot_at slots) now) slots_are
        (index (slot_at (set items position (Some (a, b)))) (slot_filled items position (a, b) inside empty))

-- the same in the steps of the code: the slot is taken off the list, and then the pair is threaded
pub put_kept : (t : Table) (g : Geometry) (items : List (Option (ℕ × ℕ))) (held : ℕ) (x taken now : Index) (position a b : ℕ) (slots : List (Option (ℕ × ℕ))) → ◌≡◌ {A = Table} (record { geometry = g; slots = items }) t
    → Kept g items held x → length (pairs t) < t.geometry.slots → holds (pairs t) a b ≡ false → MayBeHeld t.geometry (a, b) → position ≡ x.empty
    → taken ≡ record x { empty = get_or x.by_bucket.next x.empty 0 } → slots ≡ set items position (Some (a, b))
    → ((next : ℕ → Option (ℕ × ℕ)) → IsWith (slot_at items) position (a, b) next → IsIndex next now)
    → ((blocks positions : ℕ) → HasLinksAndHeads blocks positions taken → HasLinksAndHeads blocks positions now)
    → now.empty ≡ taken.empty
    → ((k : ℕ) → slot_at items k ≡ None → (k ≡ position → ⊥) → get_or now.by_bucket.next k 0 ≡ get_or taken.by_bucket.next k 0)
    → Kept g slots (held + 1) now
put_kept t g items held x taken now position a b slots is kept room absent within place_is taken_is set_is index rooms first stays =
    filled t g items held x now position a b slots is kept room absent within place_is set_is index
    (λ blocks positions old. rooms blocks positions (subst (HasLinksAndHeads blocks positions) (sym taken_is) (same_room blocks positions old)))
    (first ∙ ap (λ (y : Index). y.empty) taken_is)
    (λ k none off. stays k none off ∙ ap (λ (y : Index). get_or y.by_bucket.next k 0) taken_is)
  where
    same_room : (blocks positions : ℕ) → HasLinksAndHeads blocks positions x → HasLinksAndHeads blocks positions (record x { empty = get_or x.by_bucket.next x.empty 0 })
    same_room blocks positions old = record {
      sources = old.sources;
      targets = old.targets;
      by_source = old.by_source;
      by_target = old.by_target;
      by_bucket = old.by_bucket;
    }

-- where a slot holds a pair, one is held
pub some_held : (t : Table) (g : Geometry) (items : List (Option (ℕ × ℕ))) (held : ℕ) (x : Index) (position a b : ℕ) → ◌≡◌ {A = Table} (record { geometry = g; slots = items }) t
    → Kept g items held x → slot_at t.slots position ≡ Some (a, b) → 1 ≤ held
some_held t g items held x position a b is kept here =
    let u : Table = record { geometry = g; slots = items } in
    let fewer = held_removed u position a b kept.0 (ap (λ (v : Table). slot_at v.slots position) is ∙ here) in
    let held_is = kept.1 in
    omega arith

-- a slot is emptied
pub emptied : (t : Table) (g : Geometry) (items : List (Option (ℕ × ℕ))) (held left : ℕ) (x cut now : Index) (position a b : ℕ) (slots : List (Option (ℕ × ℕ))) → ◌≡◌ {A = Table} (record { geometry = g; slots = items }) t
    → Kept g items held x → slot_at t.slots position ≡ Some (a, b) → held ≡ left + 1 → slots ≡ set items position None
    → ((next : ℕ → Option (ℕ × ℕ)) → IsWith next position (a, b) (slot_at items) → IsIndex next cut)
    → ((next : ℕ → Option (ℕ × ℕ)) → next position ≡ None → IsIndex next cut → IsIndex next now)
    → HasLinksAndHeads g.blocks g.slots now
    → now.empty ≡ position → now.by_bucket.next ≡ set cut.by_bucket.next position x.empty → position < length cut.by_bucket.next
    → ((k : ℕ) → slot_at items k ≡ None → get_or cut.by_bucket.next k 0 ≡ get_or x.by_bucket.next k 0)
    → Kept g slots left now
emptied t g items held left x cut now position a b slots is kept here one_more set_is index given rooms first links inside stays = (table, many, empties_now, index_now, rooms)
  where
    u : Table
    u = record { geometry = g; slots = items }

    there : slot_at items position ≡ Some (a, b)
    there = ap (λ (v : Table). slot_at v.slots position) is ∙ here

    slots_are : set items position None ≡ slots
    slots_are = sym set_is

    table : IsTable (record { geometry = g; slots = slots })
    table = subst (λ (slots : List (Option (ℕ × ℕ))). IsTable (record { geometry = g; slots = slots })) slots_are (removed u position a b kept.0 there)

    many : left ≡ length (pairs (record { geometry = g; slots = slots }))
    many =
        let fewer = held_removed u position a b kept.0 there in
        let held_is = kept.1 in
        let less : left ≡ length (pairs_in (set items position None)) = omega arith in
        less ∙ ap (λ (slots : List (Option (ℕ × ℕ))). length (pairs_in slots)) slots_are

    empties_now : AreEmpties slots left now.empty now.by_bucket.next
    empties_now = subst (λ (link : ℕ). AreEmpties slots left link now.by_bucket.next) (sym first)
        (subst (AreEmpties slots left position) (sym links)
        (subst (λ (slots : List (Option (ℕ × ℕ))). AreEmpties slots left position (set cut.by_bucket.next position x.empty)) slots_are
        (empties_given items held left x.empty x.by_bucket.next cut.by_bucket.next position (a, b) kept.2 one_more there inside stays)))

    index_now : IsIndex (slot_at slots) now
    index_now = subst (λ (slots : List (Option (ℕ × ℕ))). IsIndex (slot_at slots) now) slots_are
        (given (slot_at (set items position None)) (set_same items position None (some_inside items position (a, b) there))
        (index (slot_at (set items position None)) (slot_emptied items position (a, b) there)))

-- ---- what is asked of a change of the index

pub absent_slots : (slots : List (Option (ℕ × ℕ))) (a b : ℕ) → holds (pairs_in slots) a b ≡ false → (k : ℕ) → slot_at slots k ≡ Some (a, b) → ⊥
absent_slots slots a b absent k here = both_ways (holds (pairs_in slots) a b) absent (holds_from_slot slots k a b here)

-- whether a pair has a slot
pub has_is : (slots : List (Option (ℕ × ℕ))) (a b : ℕ) (position : Option ℕ) → IsPlaceOf slots a b position → is_some position ≡ holds (pairs_in slots) a b
has_is slots a b None absent = sym absent
has_is slots a b (Some k) here = sym (holds_from_slot slots k a b here)

-- the pairs of a table's slots are small
pub small : (g : Geometry) (slots : List (Option (ℕ × ℕ))) → IsLawful g → length slots ≡ g.slots → AreWithinTo g g.slots slots → AreSmall slots
small g slots lawful count within k e here =
    let few = lawful.blocks in
    let ends = within.each k e (let inside = some_inside slots k e here in omega arith) here in
    (omega arith, omega arith)

-- and they can be packed
pub packable : (g : Geometry) (slots : List (Option (ℕ × ℕ))) → IsLawful g → length slots ≡ g.slots → AreWithinTo g g.slots slots → ArePackable slots
packable g slots lawful count within = record {
  few = let most = lawful.slots in omega arith;
  each = λ k e here.
      let few = lawful.blocks in
      let ends = within.each k e (let inside = some_inside slots k e here in omega arith) here in
      (omega arith, omega arith);
}

-- ---- the patch of a changed slot

pub change_after : (t : Table) (g : Geometry) (items now : List (Option (ℕ × ℕ))) (position : ℕ) (patch : Patch) (before after : Option (ℕ × ℕ)) → ◌≡◌ {A = Table} (record { geometry = g; slots = items }) t
    → now ≡ set items position after → position < t.geometry.slots → slot_at t.slots position ≡ before → patch.sector ≡ sector_of g position
    → patch.bytes ≡ slot_sector_bytes now (position / 64) → IsChange t (record { geometry = g; slots = now }) before after patch
change_after t g items now position patch before after is set_is inside was sector bytes = record {
  position = position;
  inside = inside;
  was = was;
  now = ap (λ slots. record { geometry = g; slots = slots }) set_is ∙ ap (λ (u : Table). with_slot u position after) is;
  sector = sector ∙ ap (λ (u : Table). sector_of u.geometry position) is;
  bytes = bytes;
}

pub stored_after : (t : Table) (g : Geometry) (items now : List (Option (ℕ × ℕ))) (position : ℕ) (slot : Option (ℕ × ℕ)) (patch : Patch) → ◌≡◌ {A = Table} (record { geometry = g; slots = items }) t
    → now ≡ set items position slot → IsTable (record { geometry = g; slots = now }) → patch.sector ≡ sector_of g position
    → patch.bytes ≡ slot_sector_bytes now (position / 64) → (x : Image) → IsStored t.slots t.geometry x
    → IsStored now g (put_at patch.sector patch.bytes x)
stored_after t g items now position slot patch is set_is table sector bytes x old =
    let same : record { geometry = g; slots = now } ≡ with_slot t position slot = ap (λ slots. record { geometry = g; slots = slots }) set_is ∙ ap (λ (u : Table). with_slot u position slot) is in
    subst (λ (u : Table). IsStored u.slots u.geometry (put_at patch.sector patch.bytes x)) (sym same)
    (stored_kept t.slots t.geometry position slot patch.sector patch.bytes (fits (with_slot t position slot) (subst IsTable same table))
    (sector ∙ ap (λ (u : Table). sector_of u.geometry position) is)
    (bytes ∙ ap (λ (u : Table). slot_sector_bytes u.slots (position / 64)) same) x old)
