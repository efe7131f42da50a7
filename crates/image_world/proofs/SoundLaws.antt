-- Tables that sectors have, and the tests.
use Rattle.std.proofs.Common.{◌≡◌, ℕ, ◌-◌, ◌<◌, true, false, inl, inr, cond, ◌&&◌, ◌==◌, refl, sym, ◌∙◌, ap, subst, arith}
use Rattle.std.proofs.Common.{Some, None, Ok}
use Rattle.image_world.proofs.Common.{map, range_with_len, cases_lt, cases_eq, nat_tests, length-map-range_with_len, Geometry, count_to, holds, Header, header_sector, sweep_flag, IsHeaderReading, Image, says_open, is_bit_set, stored_count, source_field, target_field, home, slot_at, pairs_in, MayBeHeld, slot_of, stored_slot, is_bad_slot, one_table, stored_elsewhere, good_slot, some_inside, one_counts, same_counts, one_map, same_bits, stored_record, one_store, same_records, IsFormatGateOpen, HasJournal, HasHeader, AreRight, IsGood, HasTables, AreSound, Tables, pairs_of, header_on, slots_on, tables_as, tables_of}
use Rattle.image_world.proofs.AreaLaws.{SameAreas, live_stored, slots_stored, counts_stored, records_stored}
use Rattle.image_world.proofs.StandLaws.{pair_within}

-- ---- the tables of an image
pub tables_had : (x : Image) → HasHeader x → HasTables (tables_of x) x
unfolding tables_of
tables_had x right = record {
  header = right;
  live = live_stored x (header_on x).geometry;
  slots = slots_stored x (header_on x).geometry;
  counts = counts_stored x (header_on x).geometry;
  records = records_stored (header_on x).version x (header_on x).geometry;
  flag = refl;
}

-- tables that it has are those
pub has_one : (t : Tables) (x : Image) → AreSound t → HasTables t x → tables_of x ≡ t
unfolding tables_of
has_one t x sound had =
    let h : Header = record { version = t.version; geometry = t.geometry } in
    let header : header_on x ≡ h = sym had.header.3 in
    let live = one_map t.live t.geometry x sound.each_block had.live in
    let slots = one_table t.slots t.geometry x had.slots in
    let counts = one_counts t.counts t.geometry x sound.each_count had.counts in
    let records : t.records ≡ map (stored_record t.version x) (range_with_len 0 t.geometry.primaries) =
    one_store t.version t.records x had.records ∙ ap (λ (n : ℕ). map (stored_record t.version x) (range_with_len 0 n)) sound.each_record in
    let all : t ≡ tables_as h x = λ i. record {
      version = t.version;
      geometry = t.geometry;
      live = live i;
      slots = slots i;
      counts = counts i;
      records = records i;
      is_sweeping = sym had.flag i;
    } in
    ap (λ k. tables_as k x) header ∙ sym all

-- it has them still where only other sectors change
pub had_elsewhere : (t : Tables) (x y : Image) → AreSound t → y header_sector ≡ x header_sector → SameAreas t.geometry x y → HasTables t x → HasTables t y
had_elsewhere t x y sound header same had = record {
  header = subst (λ bytes. IsHeaderReading bytes (Ok (record { version = t.version; geometry = t.geometry }))) (sym header) had.header;
  live = same_bits t.live t.geometry x y (λ n from to. same n (omega arith) (omega arith)) had.live;
  slots = stored_elsewhere t.slots t.geometry x y (λ n from to. same n (omega arith) (omega arith)) had.slots;
  counts = same_counts t.counts t.geometry x y (λ n from to. same n (omega arith) (omega arith)) had.counts;
  records = same_records t.version t.records x y sound.version (omega (arith, sound.each_record, sound.slots.lawful.primaries.1)) (λ n from to. same n (omega arith) (omega arith)) had.records;
  flag = ap says_open (same sweep_flag (omega arith) (omega arith)) ∙ had.flag;
}

-- ---- the tests
bad_within : (g : Geometry) (source target : ℕ) → ((e : ℕ × ℕ) → slot_of source target ≡ Some e → MayBeHeld g e) → is_bad_slot g source target ≡ false
bad_within g source target within = elim (cases_eq source 0) [
  | inl none ↦ grind (arith, nat_tests)
  | inr some ↦
      let is : slot_of source target ≡ Some (source - 1, target) = let e : (source == 0) ≡ false = grind (arith, nat_tests) in ap (λ t. cond t None (Some (source - 1, target))) e in
      let w = within (source - 1, target) is in
      let w0 = w.0 in let w1 = w.1 in let w2 = w.2 in
      grind (arith, nat_tests)
]

pub sound_right : (t : Tables) (x : Image) → AreSound t → HasTables t x → AreRight x t.geometry
sound_right t x sound had = record {
  no_bad = λ k h. bad_within g (source_field x g k) (target_field x g k) (λ e is. sound.slots.ends k e (sym (had.slots.each k h) ∙ is));
  none_repeated = λ e r.
      let one = sym (had.slots.each r.first (let a = r.apart in let b = r.inside in omega arith)) ∙ r.one in
      let other = sym (had.slots.each r.second r.inside) ∙ r.other in
      let same = sound.slots.apart r.first r.second e one other in
      let apart = r.apart in
      omega arith;
  primaries = λ b h. had.live b (let most = sound.slots.lawful.primaries.2 in omega arith) ∙ sound.primaries b h;
  ends = λ e h.
      let held : holds (pairs_of t) e.0 e.1 ≡ true = ap (λ es. holds es e.0 e.1) pairs ∙ h in
      let within = within_of e.0 e.1 h in
      (λ i. had.live e.0 within.0 i && had.live e.1 within.2 i) ∙ sound.ends e.0 e.1 held;
  counts = λ b h. had.counts b h ∙ (sound.counted b h ∙ ap (λ es. count_to es b) pairs);
}
  where
    g : Geometry
    g = t.geometry

    pairs : pairs_of t ≡ pairs_in (slots_on x g)
    pairs = ap pairs_in (one_table t.slots g x had.slots)

    within_of : (a b : ℕ) → holds (pairs_in (slots_on x g)) a b ≡ true → MayBeHeld g (a, b)
    within_of a b h = pair_within x g (λ k inside. bad_within g (source_field x g k) (target_field x g k) (λ e is. sound.slots.ends k e (sym (had.slots.each k inside) ∙ is))) a b h

pub right_sound : (x : Image) → HasHeader x → AreRight x (header_on x).geometry → AreSound (tables_of x)
unfolding tables_of
right_sound x header right = record {
  version = header.1;
  slots = record {
    lawful = header.2;
    count = length-map-range_with_len (stored_slot x g) 0 g.slots;
    ends = λ k e is.
        let inside = within_slots k e is in
        good_slot g (source_field x g k) (target_field x g k) e (right.no_bad k inside) (at k inside ∙ is);
    apart = λ i j e one other.
        let here = within_slots i e one in
        let there = within_slots j e other in
        elim (cases_eq i j) [
          | inl same ↦ same
          | inr unlike ↦ elim (cases_lt i j) [
            | inl less ↦ absurd (right.none_repeated e (record { first = i; second = j; apart = less; inside = there; one = at i here ∙ one; other = at j there ∙ other }))
            | inr more ↦ absurd (right.none_repeated e (record { first = j; second = i; apart = omega arith; inside = here; one = at j there ∙ other; other = at i here ∙ one }))
          ]
        ];
  };
  each_block = length-map-range_with_len (is_bit_set x g) 0 g.blocks;
  each_count = length-map-range_with_len (stored_count x g) 0 g.blocks;
  each_record = length-map-range_with_len (stored_record (header_on x).version x) 0 g.primaries;
  primaries = λ b h. sym (live_stored x g b (let most = header.2.primaries.2 in omega arith)) ∙ right.primaries b h;
  ends = λ a b h.
      let within = pair_within x g right.no_bad a b h in
      (λ i. sym (live_stored x g a within.0) i && sym (live_stored x g b within.2) i) ∙ right.ends (a, b) h;
  counted = λ b h. sym (counts_stored x g b h) ∙ right.counts b h;
}
  where
    g : Geometry
    g = (header_on x).geometry

    within_slots : (k : ℕ) (e : ℕ × ℕ) → slot_at (slots_on x g) k ≡ Some e → k < g.slots
    within_slots k e is = omega (arith, some_inside (slots_on x g) k e is, length-map-range_with_len (stored_slot x g) 0 g.slots)

    at : (k : ℕ) → k < g.slots → stored_slot x g k ≡ slot_at (slots_on x g) k
    at k h = (slots_stored x g).each k h

-- ---- images
pub tables_good : (t : Tables) (image : Image) → IsFormatGateOpen image → HasJournal image → AreSound t → HasTables t (home image) → IsGood image
tables_good t image formatted journal sound had = record {
  formatted = formatted;
  journal = journal;
  header = subst (λ h. IsHeaderReading (home image header_sector) (Ok h)) had.header.3 had.header;
  tables = subst (λ (h : Header). AreRight (home image) h.geometry) had.header.3 (sound_right t (home image) sound had);
}
