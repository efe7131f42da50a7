-- Tables: made, changed, and compared with an image.
use Rattle.std.proofs.Common.{◌≡◌, ℕ, ◌+◌, ◌*◌, ◌/◌, ◌%◌, ◌<◌, false, inl, inr, ◌⊎◌, List, length, set, sym, ◌∙◌, ap, subst, arith}
use Rattle.std.proofs.Common.{Option, Some, None}
use Rattle.pointer_table.proofs.Common.{cases_eq, cases_order, both_ways, false_from_ne_true, length-set, set-set, set-get_or, Geometry, IsLawful, holds, with_pair, without_pair, Image, TableFault, IsRepeatedOn, IsLeastRepeated, AnswersPointers, AreReadTo, AreWithinTo, IsRepeatedIn, IsLeastOfAll, slot_at, Table, pairs, MayBeHeld, IsTable, ArePairs, length-with_new_pair, Patch, IsChange, slots_start, slot_offset, IsStored, slot_sector_bytes}
use Rattle.std.proofs.Common.{Result, Ok, Err}
use Rattle.std.specs.Result.{IfOk}
use Rattle.pointer_table.specs.declared.fault.TableFault.TheVariants as fault
use Rattle.pointer_table.specs.Repeating.{IsRepeating}
use Rattle.pointer_table.proofs.SectorLaws.{Fits4, read_at, sector_read, slot_sector, stored_at}
use Rattle.pointer_table.proofs.SlotLaws.{some_inside, holds_from_slot, slot_from_holds, rising-pairs_in, set_same, set_other, pairs_added, pairs_removed, length-pairs_in_le}

-- what follows of the pairs
pub are_pairs : (t : Table) → IsTable t → ArePairs t
are_pairs t table = record {
  rising = rising-pairs_in t.slots;
  ends = λ a b held. let k = slot_from_holds t.slots a b held in table.ends k.0 (a, b) k.2;
  room = (let most = length-pairs_in_le t.slots in let all = table.count in omega arith);
}

-- ---- made

pub made : (g : Geometry) (slots : List (Option (ℕ × ℕ))) → IsLawful g → length slots ≡ g.slots → AreWithinTo g g.slots slots → IsLeastOfAll slots None → IsTable (record { geometry = g; slots = slots })
made g slots lawful count within none = record {
  lawful = lawful;
  count = count;
  ends = λ k e here. within.each k e (let inside = some_inside slots k e here in omega arith) here;
  apart = λ i j e p q. elim (cases_order i j) [
    | inl same ↦ same
    | inr order ↦ elim order [
      | inl before ↦ absurd (none e (record { first = i; second = j; apart = before; inside = some_inside slots j e q; one = p; other = q }))
      | inr after ↦ absurd (none e (record { first = j; second = i; apart = after; inside = some_inside slots i e p; one = q; other = p }))
    ]
  ];
}

-- ---- changed

abbrev pub with_slot : Table → ℕ → Option (ℕ × ℕ) → Table
with_slot t position slot = record t { slots = set t.slots position slot }

pub added : (t : Table) (position a b : ℕ) → IsTable t → position < t.geometry.slots → holds (pairs t) a b ≡ false → MayBeHeld t.geometry (a, b) → IsTable (with_slot t position (Some (a, b)))
added t position a b table inside absent within = record {
  lawful = table.lawful;
  count = length-set t.slots position (Some (a, b)) ∙ table.count;
  ends = λ k e here. elim (cases_eq k position) [
    | inl same ↦
        let one : Some e ≡ Some (a, b) = sym here ∙ (ap (slot_at now) same ∙ at_place) in
        let pair : e ≡ (a, b) = cc in
        subst (MayBeHeld t.geometry) (sym pair) within
    | inr other ↦ table.ends k e (sym (set_other t.slots position k (Some (a, b)) other) ∙ here)
  ];
  apart = λ i j e p q. elim (cases_eq i position) [
    | inl i_here ↦ elim (cases_eq j position) [ inl j_here ↦ i_here ∙ sym j_here | inr j_off ↦ absurd (never i j e i_here j_off p q) ]
    | inr i_off ↦ elim (cases_eq j position) [
      | inl j_here ↦ absurd (never j i e j_here i_off q p)
      | inr j_off ↦ table.apart i j e (sym (set_other t.slots position i (Some (a, b)) i_off) ∙ p) (sym (set_other t.slots position j (Some (a, b)) j_off) ∙ q)
    ]
  ];
}
  where
    now : List (Option (ℕ × ℕ))
    now = set t.slots position (Some (a, b))

    at_place : slot_at (set t.slots position (Some (a, b))) position ≡ Some (a, b)
    at_place = set_same t.slots position (Some (a, b)) (let all = table.count in omega arith)

    never : (i j : ℕ) (e : ℕ × ℕ) → i ≡ position → (j ≡ position → ⊥) → slot_at (set t.slots position (Some (a, b))) i ≡ Some e → slot_at (set t.slots position (Some (a, b))) j ≡ Some e → ⊥
    never i j e here off p q =
        let one : Some (a, b) ≡ Some e = sym at_place ∙ (ap (slot_at (set t.slots position (Some (a, b)))) (sym here) ∙ p) in
        let held : slot_at t.slots j ≡ Some (a, b) = sym (set_other t.slots position j (Some (a, b)) off) ∙ (q ∙ sym one) in
        both_ways (holds (pairs t) a b) absent (holds_from_slot t.slots j a b held)

pub removed : (t : Table) (position a b : ℕ) → IsTable t → slot_at t.slots position ≡ Some (a, b) → IsTable (with_slot t position None)
removed t position a b table here = record {
  lawful = table.lawful;
  count = length-set t.slots position None ∙ table.count;
  ends = λ k e p. table.ends k e (still k e p);
  apart = λ i j e p q. table.apart i j e (still i e p) (still j e q);
}
  where
    still : (k : ℕ) (e : ℕ × ℕ) → slot_at (set t.slots position None) k ≡ Some e → slot_at t.slots k ≡ Some e
    still k e p = elim (cases_eq k position) [
      | inl same ↦
          let none : slot_at (set t.slots position None) k ≡ None = ap (slot_at (set t.slots position None)) same ∙ set_same t.slots position None (some_inside t.slots position (a, b) here) in
          absurd (cc)
      | inr other ↦ sym (set_other t.slots position k None other) ∙ p
    ]

pub held_added : (t : Table) (position a b : ℕ) → IsTable t → position < t.geometry.slots → slot_at t.slots position ≡ None → holds (pairs t) a b ≡ false → length (pairs (with_slot t position (Some (a, b)))) ≡ length (pairs t) + 1
held_added t position a b table inside empty absent =
    ap length (pairs_added t.slots position (a, b) (let all = table.count in omega arith) empty)
    ∙ (length-with_new_pair (a, b) (pairs t) absent ∙ omega arith)

pub held_removed : (t : Table) (position a b : ℕ) → IsTable t → slot_at t.slots position ≡ Some (a, b) → length (pairs (with_slot t position None)) + 1 ≡ length (pairs t)
held_removed t position a b table here =
    let inside = some_inside t.slots position (a, b) here in
    let gone = removed t position a b table here in
    let empty : slot_at (set t.slots position None) position ≡ None = set_same t.slots position None inside in
    let absent : holds (pairs (with_slot t position None)) a b ≡ false = absent_after in
    let back = held_added (with_slot t position None) position a b gone (let all = table.count in omega arith) empty absent in
    let same : with_slot (with_slot t position None) position (Some (a, b)) ≡ t =
    ap (λ slots. record t { slots = slots }) (set-set t.slots position None (Some (a, b)) ∙ (ap (set t.slots position) (sym here) ∙ set-get_or t.slots position None)) in
    sym back ∙ ap (λ s. length (pairs s)) same
  where
    absent_after : holds (pairs (with_slot t position None)) a b ≡ false
    absent_after = false_from_ne_true (holds (pairs (with_slot t position None)) a b) (λ held.
        let k = slot_from_holds (set t.slots position None) a b held in
        elim (cases_eq k.0 position) [
          | inl same ↦
              let none : slot_at (set t.slots position None) k.0 ≡ None = ap (slot_at (set t.slots position None)) same ∙ set_same t.slots position None (some_inside t.slots position (a, b) here) in
              let some = k.2 in
              absurd (cc)
          | inr other ↦ other (table.apart k.0 position (a, b) (sym (set_other t.slots position k.0 None other) ∙ k.2) here)
        ])

-- the numbers of a table's slots fit
pub fits : (t : Table) → IsTable t → (k : ℕ) → Fits4 (slot_at t.slots k)
fits t table k e here = let ends = table.ends k e here in let most = table.lawful.blocks in (omega arith, omega arith)

-- ---- compared with an image

repeated_on : (image : Image) (g : Geometry) (slots : List (Option (ℕ × ℕ))) (e : ℕ × ℕ) → length slots ≡ g.slots → AreReadTo image g g.slots slots → IsRepeatedIn slots e → IsRepeatedOn image g e
repeated_on image g slots e count read r = record {
  first = r.first;
  second = r.second;
  apart = r.apart;
  inside = (let inside = r.inside in omega arith);
  one = read.each r.first (let inside = r.inside in let apart = r.apart in omega arith) ∙ r.one;
  other = read.each r.second (let inside = r.inside in omega arith) ∙ r.other;
}

repeated_in : (image : Image) (g : Geometry) (slots : List (Option (ℕ × ℕ))) (e : ℕ × ℕ) → length slots ≡ g.slots → AreReadTo image g g.slots slots → IsRepeatedOn image g e → IsRepeatedIn slots e
repeated_in image g slots e count read r = record {
  first = r.first;
  second = r.second;
  apart = r.apart;
  inside = (let inside = r.inside in omega arith);
  one = sym (read.each r.first (let inside = r.inside in let apart = r.apart in omega arith)) ∙ r.one;
  other = sym (read.each r.second r.inside) ∙ r.other;
}

pub least_on : (image : Image) (g : Geometry) (slots : List (Option (ℕ × ℕ))) (e : ℕ × ℕ) → length slots ≡ g.slots → AreReadTo image g g.slots slots → IsLeastOfAll slots (Some e) → IsLeastRepeated image g e
least_on image g slots e count read least = record {
  repeated = repeated_on image g slots e count read least.0;
  least = λ f r. least.1 f (repeated_in image g slots f count read r);
}

-- what a loading answers, from what was read and what the search for repeated pairs gave
pub load_answers : (image : Image) (g : Geometry) (slots : List (Option (ℕ × ℕ))) (result : Result Table TableFault) → length slots ≡ g.slots → AreReadTo image g g.slots slots
    → IfOk result (λ t. (t.geometry ≡ g) × (t.slots ≡ slots)) → IsRepeating slots result → AnswersPointers image g result
load_answers image g slots (Ok t) count read is found = record {
  size = is.0;
  no_bad = read.no_bad;
  none_repeated = λ e r. found.1 e (repeated_in image g slots e count read r);
  stored = record { count = ap length is.1 ∙ count; each = λ k inside. read.each k inside ∙ ap (λ ss. slot_at ss k) (sym is.1) };
}
load_answers image g slots (Err fault.NoMemory) count read is found = tt
load_answers image g slots (Err fault.Device) count read is found = absurd found
load_answers image g slots (Err (fault.Slot k source target)) count read is found = absurd found
load_answers image g slots (Err (fault.Repeated a b)) count read is found = (read.no_bad, least_on image g slots (a, b) count read found)

-- many slots that change, and the sectors patched that have them
pub batch_stored : (slots now : List (Option (ℕ × ℕ))) (g : Geometry) (x y : Image) → IsTable (record { geometry = g; slots = now }) → IsStored slots g x
    → ((k : ℕ) → k < g.slots → (y (slot_offset g k).sector ≡ slot_sector_bytes now (k / 64)) ⊎ ((y (slot_offset g k).sector ≡ x (slot_offset g k).sector) × (slot_at now k ≡ slot_at slots k)))
    → IsStored now g y
batch_stored slots now g x y table stored patched = record {
  count = table.count;
  each = λ k inside.
      let here : (z : Image) → z (slots_start g + k / 64) ≡ z (slot_offset g k).sector = λ z. ap (λ s. z (slots_start g + s)) (sym (slot_sector k)) in
      stored_at y g k ∙ elim (patched k inside) [
        | inl written ↦
            ap (λ bytes. read_at bytes (8 * (k % 64))) (here y ∙ written)
            ∙ sector_read now (k / 64) (k % 64) k (fits (record { geometry = g; slots = now }) table) (omega arith) (omega arith)
        | inr as_before ↦
            ap (λ bytes. read_at bytes (8 * (k % 64))) (here y ∙ (as_before.0 ∙ sym (here x)))
            ∙ (sym (stored_at x g k) ∙ (stored.each k inside ∙ sym as_before.1))
      ];
}

-- ---- the pairs after a change

pub pairs_with : (old new : Table) (patch : Patch) (e : ℕ × ℕ) → IsTable old → IsChange old new None (Some e) patch → pairs new ≡ with_pair e (pairs old)
pairs_with old new patch e table change =
    ap pairs change.now ∙ pairs_added old.slots change.position e (let inside = change.inside in let all = table.count in omega arith) change.was

pub pairs_without : (old new : Table) (patch : Patch) (a b : ℕ) → IsTable old → IsChange old new (Some (a, b)) None patch → pairs new ≡ without_pair a b (pairs old)
pairs_without old new patch a b table change = ap pairs change.now ∙ pairs_removed old.slots change.position a b table.apart change.was
