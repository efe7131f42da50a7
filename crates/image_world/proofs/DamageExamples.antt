-- Worked examples: which fault the damaged images have, by computing.
use Rattle.std.proofs.Common.{◌≡◌, ℕ, zero, suc, ◌<◌, ◌==◌, ◌&&◌, ◌||◌, ◌⊎◌, not, Bool, true, false, inl, inr, List, [], ◌∷◌, ◌++◌, refl, sym, ◌∙◌, ap, subst, arith}
use Rattle.std.proofs.Common.{Option, Some, None}
use Rattle.image_world.proofs.Common.{slice_index, list_all, list_any, cases_eq, and_parts, nat_tests, Geometry, IsLawful, pair_lt, all_of_held, put_at, header_bytes, Image, is_bit_set, stored_count, descriptor_bytes, home, open_records, has_valid_records, is_bad_at, HasNoBad, is_at, slot_at, pairs_in, holds-pairs_in, holds_from_slot, HasNoRepeated, HasPrimaries, HasEnds, are_marked, found_count, IsGood, IsFirstFault, slots_on}
use Rattle.image_layout.specs.declared.fault.HeaderFault.TheVariants as why
use Rattle.image_layout.specs.declared.fault.ImageFault.TheVariants as fault
use Rattle.image_world.proofs.AreaLaws.{slots_stored}
use Rattle.image_world.proofs.Examples.{size, slot, allocated, poked}

-- ---- tests by computing
abbrev all_below : (ℕ → Bool) → ℕ → Bool
all_below test zero = true
all_below test (suc n) = test n && all_below test n

each_below : (test : ℕ → Bool) (n : ℕ) → all_below test n ≡ true → (k : ℕ) → k < n → test k ≡ true
each_below test zero all k h = absurd (omega arith)
each_below test (suc n) all k h =
    let parts = and_parts (test n) (all_below test n) all in
    elim (cases_eq k n) [ inl same ↦ ap test same ∙ parts.0 | inr other ↦ each_below test n parts.1 k (omega arith) ]

-- no later slot holds the pair of an earlier one
abbrev are_apart : List (Option (ℕ × ℕ)) → Bool
are_apart [] = true
are_apart (None ∷ slots) = are_apart slots
are_apart (Some e ∷ slots) = not (list_any (is_at e.0 e.1) slots) && are_apart slots

apart_in : (slots : List (Option (ℕ × ℕ))) → are_apart slots ≡ true → (e : ℕ × ℕ) (i j : ℕ) → i < j → slot_at slots i ≡ Some e → slot_at slots j ≡ Some e → ⊥
apart_in [] all e i j h one other = cc
apart_in (s ∷ slots) all e zero zero h one other = omega arith
apart_in (s ∷ slots) all e (suc i) zero h one other = omega arith
apart_in (None ∷ slots) all e zero (suc j) h one other = cc
apart_in (Some f ∷ slots) all e zero (suc j) h one other =
    let parts = and_parts (not (list_any (is_at f.0 f.1) slots)) (are_apart slots) all in
    let same : f ≡ e = cc in
    let held : list_any (is_at e.0 e.1) slots ≡ true = sym (holds-pairs_in slots e.0 e.1) ∙ holds_from_slot slots j e.0 e.1 other in
    off (list_any (is_at f.0 f.1) slots) parts.0 (subst (λ (g : ℕ × ℕ). list_any (is_at g.0 g.1) slots ≡ true) (sym same) held)
  where
    off : (t : Bool) → not t ≡ true → t ≡ true → ⊥
    off true h k = cc
    off false h k = cc
apart_in (None ∷ slots) all e (suc i) (suc j) h one other = apart_in slots all e i j (omega arith) one other
apart_in (Some f ∷ slots) all e (suc i) (suc j) h one other =
    apart_in slots (and_parts (not (list_any (is_at f.0 f.1) slots)) (are_apart slots) all).1 e i j (omega arith) one other

module _ (x : Image) (g : Geometry) where
  no_bad_before : (n : ℕ) → all_below (λ k. not (is_bad_at x g k)) n ≡ true → (k : ℕ) → k < n → is_bad_at x g k ≡ false
  no_bad_before n all k h = off (is_bad_at x g k) (each_below (λ j. not (is_bad_at x g j)) n all k h)
    where
      off : (t : Bool) → not t ≡ true → t ≡ false
      off true h = cc
      off false h = refl

  no_bad_by : all_below (λ k. not (is_bad_at x g k)) g.slots ≡ true → HasNoBad x g
  no_bad_by all = no_bad_before g.slots all

  apart_by : are_apart (slots_on x g) ≡ true → HasNoRepeated x g
  apart_by all e r =
      apart_in (slots_on x g) all e r.first r.second r.apart
      (sym ((slots_stored x g).each r.first (let a = r.apart in let b = r.inside in omega arith)) ∙ r.one)
      (sym ((slots_stored x g).each r.second r.inside) ∙ r.other)

  primaries_by : all_below (is_bit_set x g) g.primaries ≡ true → HasPrimaries x g
  primaries_by all b h = each_below (is_bit_set x g) g.primaries all b h

  ends_by : list_all (are_marked x g) (pairs_in (slots_on x g)) ≡ true → HasEnds x g
  ends_by all e held = all_of_held (are_marked x g) (pairs_in (slots_on x g)) e.0 e.1 all held

  equal : (m n : ℕ) → (m == n) ≡ true → m ≡ n
  equal m n h = grind (arith, nat_tests)

  counts_by : (n : ℕ) → all_below (λ b. stored_count x g b == found_count x g b) n ≡ true → (b : ℕ) → b < n → stored_count x g b ≡ found_count x g b
  counts_by n all b h = equal (stored_count x g b) (found_count x g b) (each_below (λ b. stored_count x g b == found_count x g b) n all b h)

below_none : (t : Bool) → not t ≡ true → t ≡ false
below_none true h = cc
below_none false h = refl

lawful : IsLawful size
lawful = record { sectors = inl refl; blocks = (omega arith, omega arith); primaries = (omega arith, omega arith, omega arith); slots = (omega arith, omega arith) }

-- ---- images that pass
pub the_allocated_disk_is_good : IsGood allocated
unfolding open_records has_valid_records
the_allocated_disk_is_good = record {
  formatted = refl;
  journal = refl;
  header = (refl, inl refl, lawful, refl);
  tables = record {
    no_bad = no_bad_by (home allocated) size refl;
    none_repeated = apart_by (home allocated) size refl;
    primaries = primaries_by (home allocated) size refl;
    ends = ends_by (home allocated) size refl;
    counts = counts_by (home allocated) size 8 refl;
  };
}

-- block 4 is lost, and the sweep flag is open: an image with either is good
pub a_lost_block_is_no_fault : IsGood (poked 135 (31 ∷ []))
unfolding open_records has_valid_records
a_lost_block_is_no_fault = let x = home (poked 135 (31 ∷ [])) in record {
  formatted = refl;
  journal = refl;
  header = (refl, inl refl, lawful, refl);
  tables = record { no_bad = no_bad_by x size refl; none_repeated = apart_by x size refl; primaries = primaries_by x size refl; ends = ends_by x size refl; counts = counts_by x size 8 refl };
}

pub an_open_flag_is_no_fault : IsGood (poked 131 (1 ∷ []))
unfolding open_records has_valid_records
an_open_flag_is_no_fault = let x = home (poked 131 (1 ∷ [])) in record {
  formatted = refl;
  journal = refl;
  header = (refl, inl refl, lawful, refl);
  tables = record { no_bad = no_bad_by x size refl; none_repeated = apart_by x size refl; primaries = primaries_by x size refl; ends = ends_by x size refl; counts = counts_by x size 8 refl };
}

-- ---- images that don't
pub a_closed_format_gate : IsFirstFault (poked 1 []) fault.NotFormatted
a_closed_format_gate = refl

-- the gate of record 0 is open, and its descriptor has no home
pub an_open_record_with_no_home : IsFirstFault (poked 2 (1 ∷ [])) fault.Descriptor
unfolding has_valid_records
an_open_record_with_no_home = (refl, refl)

-- home 1 is the format gate, which no record may have
pub an_open_record_with_an_unlawful_home : IsFirstFault (put_at 3 (descriptor_bytes (1 ∷ [])) (poked 2 (1 ∷ []))) fault.Descriptor
unfolding has_valid_records
an_open_record_with_an_unlawful_home = (refl, refl)

pub no_magic : IsFirstFault (poked 0 []) (fault.Header why.Magic)
unfolding open_records has_valid_records
no_magic = (refl, refl, λ same. let first = ap (λ bytes. slice_index bytes 0) same in omega arith)

pub version_seven : IsFirstFault (put_at 0 (header_bytes (record { version = 7; geometry = size })) allocated) (fault.Header (why.Version 7))
unfolding open_records has_valid_records
version_seven = (refl, refl, (refl, refl, λ is. elim is [ inl one ↦ omega arith | inr two ↦ omega arith ]))

pub three_sectors_a_block : IsFirstFault (put_at 0 (header_bytes (record { version = 1; geometry = record size { sectors = 3 } })) allocated) (fault.Header (why.Field 1 3))
unfolding open_records has_valid_records
three_sectors_a_block = (refl, refl, (refl, inl refl, inl (refl, refl, not_three 3 refl)))
  where
    not_three : (k : ℕ) → k ≡ 3 → (k ≡ 1) ⊎ (k ≡ 2) ⊎ (k ≡ 4) ⊎ (k ≡ 8) → ⊥
    not_three k is (inl e) = omega arith
    not_three k is (inr (inl e)) = omega arith
    not_three k is (inr (inr (inl e))) = omega arith
    not_three k is (inr (inr (inr e))) = omega arith

pub only_primary_blocks : IsFirstFault (put_at 0 (header_bytes (record { version = 1; geometry = record size { primaries = 8 } })) allocated) (fault.Header (why.Field 3 8))
unfolding open_records has_valid_records
only_primary_blocks = (refl, refl, (refl, inl refl, inr (inr (inl (refl, refl, inl refl, (omega arith, omega arith), λ is. let less = is.2 in omega arith)))))

-- a target that is no block
pub a_pair_to_block_nine : IsFirstFault (poked 136 (slot 1 1 ++ slot 1 2 ++ slot 1 9)) (fault.Slot 2 1 9)
unfolding open_records has_valid_records
a_pair_to_block_nine = record {
  formatted = refl;
  journal = refl;
  header = (refl, inl refl, lawful, refl);
  tables = record { inside = omega arith; source_is = refl; target_is = refl; bad = refl; least = no_bad_before (home (poked 136 (slot 1 1 ++ slot 1 2 ++ slot 1 9))) size 2 refl };
}

-- a target that is primary, before a worse slot
pub a_pair_to_a_primary_block : IsFirstFault (poked 136 (slot 1 0 ++ slot 9 9)) (fault.Slot 0 1 0)
unfolding open_records has_valid_records
a_pair_to_a_primary_block = record {
  formatted = refl;
  journal = refl;
  header = (refl, inl refl, lawful, refl);
  tables = record { inside = omega arith; source_is = refl; target_is = refl; bad = refl; least = no_bad_before (home (poked 136 (slot 1 0 ++ slot 9 9))) size 0 refl };
}

pub a_pair_in_two_slots : IsFirstFault (poked 136 (slot 1 1 ++ slot 1 1 ++ slot 1 2 ++ slot 1 3)) (fault.Repeated 0 1)
unfolding open_records has_valid_records
a_pair_in_two_slots = let x = home (poked 136 (slot 1 1 ++ slot 1 1 ++ slot 1 2 ++ slot 1 3)) in record {
  formatted = refl;
  journal = refl;
  header = (refl, inl refl, lawful, refl);
  tables = (
    no_bad_by x size refl,
    record {
      repeated = record { first = 0; second = 1; apart = omega arith; inside = omega arith; one = refl; other = refl };
      least = λ f r. below_none (pair_lt f (0, 1)) (all_of_held (λ e. not (pair_lt e (0, 1))) (pairs_in (slots_on x size)) f.0 f.1 refl (holds_from_slot (slots_on x size) r.second f.0 f.1 (sym ((slots_stored x size).each r.second r.inside) ∙ r.other)));
    },
  );
}

-- bits of blocks 1 to 3 alone
pub a_free_primary_block : IsFirstFault (poked 135 (14 ∷ [])) (fault.Primary 0)
unfolding open_records has_valid_records
a_free_primary_block = let x = home (poked 135 (14 ∷ [])) in record {
  formatted = refl;
  journal = refl;
  header = (refl, inl refl, lawful, refl);
  tables = (no_bad_by x size refl, apart_by x size refl, record { inside = omega arith; free = refl; least = λ a h. absurd (omega arith) });
}

-- bits of blocks 0 to 2 alone
pub a_free_target : IsFirstFault (poked 135 (7 ∷ [])) (fault.EndNotLive 0 3)
unfolding open_records has_valid_records
a_free_target = let x = home (poked 135 (7 ∷ [])) in record {
  formatted = refl;
  journal = refl;
  header = (refl, inl refl, lawful, refl);
  tables = (
    no_bad_by x size refl,
    apart_by x size refl,
    primaries_by x size refl,
    record {
      held = refl;
      free = refl;
      least = λ f held bad. below_none (pair_lt f (0, 3)) (either (are_marked x size f) (not (pair_lt f (0, 3))) bad (all_of_held (λ e. are_marked x size e || not (pair_lt e (0, 3))) (pairs_in (slots_on x size)) f.0 f.1 refl held));
    },
  );
}
  where
    either : (s t : Bool) → s ≡ false → (s || t) ≡ true → t ≡ true
    either s t no_s some = grind (arith, nat_tests)

-- two pairs, and three counts of 1
pub a_count_too_many : IsFirstFault (poked 136 (slot 1 1 ++ slot 1 2)) (fault.Count 3 1 0)
unfolding open_records has_valid_records
a_count_too_many = let x = home (poked 136 (slot 1 1 ++ slot 1 2)) in record {
  formatted = refl;
  journal = refl;
  header = (refl, inl refl, lawful, refl);
  tables = (
    no_bad_by x size refl,
    apart_by x size refl,
    primaries_by x size refl,
    ends_by x size refl,
    record { inside = omega arith; stored_is = refl; found_is = refl; wrong = λ e. omega arith; least = counts_by x size 3 refl },
  );
}
