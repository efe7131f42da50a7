-- Tests on tables in memory, and those of an image that has the tables.
use Rattle.std.proofs.Common.{◌≡◌, ℕ, ◌<◌, ◌&&◌, true, List, sym, ◌∙◌, ap, subst, arith}
use Rattle.std.proofs.Common.{Some, None, inl, inr}
use Rattle.image_world.proofs.Common.{slice_index, cases_Bool, Geometry, holds, count_to, Image, slot_at, pairs_in, Pointers, pairs, IsTable, one_table, holds_from_slot, slot_from_holds, Counts, LiveMap, are_marked, HasPrimaries, HasEnds, AreRight, IsLeastEnd, IsLeastCount, slots_on, are_live, PrimariesLive, EndsLive, IsLeastLoose, AreFound, IsLeastWrong, TablesAgree, AreRead}

-- ---- ends in memory

pub ends_live : (p : Pointers) (m : LiveMap) → IsTable p → IsLeastLoose p.slots m.live p.geometry.slots None → EndsLive p m
ends_live p m table none a b held =
    let k = slot_from_holds p.slots a b held in
    let inside = k.1 in
    elim (cases_Bool (are_live m.live (a, b))) [
      | inl live ↦ live
      | inr loose ↦ absurd (none (a, b) (record { position = k.0; before = omega (arith, table.count); held = k.2; loose = loose }))
    ]

-- ---- on the image

pairs_on : (p : Pointers) (m : LiveMap) (c : Counts) (x : Image) → AreRead p m c x → pairs p ≡ pairs_in (slots_on x p.geometry)
pairs_on p m c x read = ap pairs_in (one_table p.slots p.geometry x read.slots)

pub primaries_on : (p : Pointers) (m : LiveMap) (c : Counts) (x : Image) → IsTable p → m.geometry ≡ p.geometry → AreRead p m c x → PrimariesLive m → HasPrimaries x p.geometry
primaries_on p m c x table same read live b h =
    read.live b (omega (arith, table.lawful.primaries.2)) ∙ live b (subst (λ (g : Geometry). b < g.primaries) (sym same) h)

-- both ends of a pair in the slots are marked as they are live
marked_as_live : (p : Pointers) (m : LiveMap) (c : Counts) (x : Image) → IsTable p → AreRead p m c x → (k : ℕ) (e : ℕ × ℕ) → slot_at p.slots k ≡ Some e → are_marked x p.geometry e ≡ are_live m.live e
marked_as_live p m c x table read k e held = let within = table.ends k e held in λ i. read.live e.0 within.0 i && read.live e.1 within.2 i

held_in : (p : Pointers) (m : LiveMap) (c : Counts) (x : Image) → AreRead p m c x → (a b : ℕ) → holds (pairs_in (slots_on x p.geometry)) a b ≡ true → holds (pairs p) a b ≡ true
held_in p m c x read a b h = ap (λ es. holds es a b) (pairs_on p m c x read) ∙ h

pub ends_on : (p : Pointers) (m : LiveMap) (c : Counts) (x : Image) → IsTable p → AreRead p m c x → EndsLive p m → HasEnds x p.geometry
ends_on p m c x table read live e h =
    let held = held_in p m c x read e.0 e.1 h in
    let k = slot_from_holds p.slots e.0 e.1 held in
    marked_as_live p m c x table read k.0 e k.2 ∙ live e.0 e.1 held

pub least_end : (p : Pointers) (m : LiveMap) (c : Counts) (x : Image) (a b : ℕ) → IsTable p → AreRead p m c x → IsLeastLoose p.slots m.live p.geometry.slots (Some (a, b)) → IsLeastEnd x p.geometry (a, b)
least_end p m c x a b table read least = record {
  held = sym (ap (λ es. holds es a b) (pairs_on p m c x read)) ∙ holds_from_slot p.slots least.0.position a b least.0.held;
  free = marked_as_live p m c x table read least.0.position (a, b) least.0.held ∙ least.0.loose;
  least = λ f h free.
      let k = slot_from_holds p.slots f.0 f.1 (held_in p m c x read f.0 f.1 h) in
      let inside = k.1 in
      least.1 f (record { position = k.0; before = omega (arith, table.count); held = k.2; loose = sym (marked_as_live p m c x table read k.0 f k.2) ∙ free });
}

-- a count on the image is that in memory, and so is what is found
found_on : (p : Pointers) (m : LiveMap) (c : Counts) (x : Image) (b : ℕ) → AreRead p m c x → count_to (pairs p) b ≡ count_to (pairs_in (slots_on x p.geometry)) b
found_on p m c x b read = ap (λ es. count_to es b) (pairs_on p m c x read)

pub least_count : (p : Pointers) (m : LiveMap) (c : Counts) (x : Image) (found : List ℕ) (b stored number : ℕ) → AreRead p m c x → AreFound found p
    → IsLeastWrong c.counts found p.geometry.blocks b → stored ≡ slice_index c.counts b → number ≡ slice_index found b → IsLeastCount x p.geometry b stored number
least_count p m c x found b stored number read is least here there = record {
  inside = least.inside;
  stored_is = here ∙ sym (read.counts b least.inside);
  found_is = there ∙ (is b least.inside ∙ found_on p m c x b read);
  wrong = λ e. least.wrong (sym here ∙ (e ∙ there));
  least = λ a less.
      let inside = least.inside in
      let low : a < p.geometry.blocks = omega arith in
      read.counts a low ∙ (least.least a less ∙ (is a low ∙ found_on p m c x a read));
}

-- tables that agree are of an image that passes
pub right_on : (p : Pointers) (m : LiveMap) (c : Counts) (x : Image) → IsTable p → m.geometry ≡ p.geometry → AreRead p m c x → TablesAgree p m c → AreRight x p.geometry
right_on p m c x table same read agree = record {
  no_bad = read.no_bad;
  none_repeated = read.none_repeated;
  primaries = primaries_on p m c x table same read agree.primaries;
  ends = ends_on p m c x table read agree.ends;
  counts = λ b h. read.counts b h ∙ (agree.counts b h ∙ found_on p m c x b read);
}
