-- Each image has an answer of the tests.
use Rattle.std.proofs.Common.{◌≡◌, ◌≢◌, ℕ, ◌≤◌, true, false, inl, inr, Bool, ◌⊎◌, ◌==◌, not, List, [], ◌∷◌, take, refl, sym, ◌∙◌, arith, Ok, Err}
use Rattle.image_world.proofs.Common.{cases_Bool, cases_eq, cases_lt, both_ways, nat_tests, Geometry, IsLawful, holds, World, ImageFault, header_sector, format_gate, magic, header_of, IsVersion, IsSectors, IsPrimaries, IsFirstBad, IsHeaderReading, Image, says_open, is_bit_set, stored_count, source_field, target_field, home, has_valid_records, pairs_in, stored_slot, is_bad_at, HasNoBad, IsRepeatedOn, rising-pairs_in, holds_from_slot, HasHeader, HasNoRepeated, HasPrimaries, HasEnds, are_marked, found_count, AreRight, IsTableFault, IsGood, IsFirstFault, world_of, Stands, header_on, slots_on}
use Rattle.image_layout.specs.declared.fault.ImageFault.TheVariants as fault
use Rattle.image_layout.specs.declared.fault.HeaderFault.{HeaderFault}
use Rattle.image_layout.specs.declared.fault.HeaderFault.TheVariants.{Magic, Version, Field}
use Rattle.image_world.proofs.AreaLaws.{slots_stored}
use Rattle.image_world.proofs.LeastLaws.{least_below, least_pair, repeated_or_not}

-- ---- a header
same_numbers : (xs ys : List ℕ) → (xs ≡ ys) ⊎ (xs ≢ ys)
same_numbers [] [] = inl refl
same_numbers [] (y ∷ ys) = inr (λ e. cc)
same_numbers (x ∷ xs) [] = inr (λ e. cc)
same_numbers (x ∷ xs) (y ∷ ys) = elim (cases_eq x y) [
  | inr other ↦ inr (λ e. other (cc))
  | inl here ↦ elim (same_numbers xs ys) [ inl rest ↦ inl (cc) | inr other ↦ inr (λ e. other (cc)) ]
]

version_or_not : (v : ℕ) → IsVersion v ⊎ (IsVersion v → ⊥)
version_or_not v = elim (cases_eq v 1) [
  | inl one ↦ inl (inl one)
  | inr not_one ↦ elim (cases_eq v 2) [
    | inl two ↦ inl (inr two)
    | inr not_two ↦ inr (λ is. elim is [ inl e ↦ not_one e | inr e ↦ not_two e ])
  ]
]

sectors_or_not : (g : Geometry) → IsSectors g ⊎ (IsSectors g → ⊥)
sectors_or_not g = elim (cases_eq g.sectors 1) [
  | inl e ↦ inl (inl e)
  | inr a ↦ elim (cases_eq g.sectors 2) [
    | inl e ↦ inl (inr (inl e))
    | inr b ↦ elim (cases_eq g.sectors 4) [
      | inl e ↦ inl (inr (inr (inl e)))
      | inr c ↦ elim (cases_eq g.sectors 8) [
        | inl e ↦ inl (inr (inr (inr e)))
        | inr d ↦ inr (λ is. none g.sectors is a b c d)
      ]
    ]
  ]
]
  where
    none : (k : ℕ) → (k ≡ 1) ⊎ (k ≡ 2) ⊎ (k ≡ 4) ⊎ (k ≡ 8) → k ≢ 1 → k ≢ 2 → k ≢ 4 → k ≢ 8 → ⊥
    none k (inl e) a b c d = a e
    none k (inr (inl e)) a b c d = b e
    none k (inr (inr (inl e))) a b c d = c e
    none k (inr (inr (inr e))) a b c d = d e

within_or_not : (low n high : ℕ) → ((low ≤ n) × (n ≤ high)) ⊎ ((low ≤ n) × (n ≤ high) → ⊥)
within_or_not low n high = elim (cases_lt n low) [
  | inl less ↦ inr (λ is. let from = is.0 in omega arith)
  | inr from ↦ elim (cases_lt high n) [
    | inl more ↦ inr (λ is. let to = is.1 in omega arith)
    | inr to ↦ inl (from, to)
  ]
]

primaries_or_not : (g : Geometry) → IsPrimaries g ⊎ (IsPrimaries g → ⊥)
primaries_or_not g = elim (within_or_not 1 g.primaries 16) [
  | inr fails ↦ inr (λ is. fails (is.0, is.1))
  | inl does ↦ elim (cases_lt g.primaries g.blocks) [
    | inl less ↦ inl (does.0, does.1, less)
    | inr more ↦ inr (λ is. let less = is.2 in omega arith)
  ]
]

lawful_or_bad : (g : Geometry) → IsLawful g ⊎ ((n : ℕ) × (found : ℕ) × IsFirstBad g n found)
lawful_or_bad g = elim (sectors_or_not g) [
  | inr fails ↦ inr (1, g.sectors, inl (refl, refl, fails))
  | inl sectors ↦ elim (within_or_not 8 g.blocks 1048576) [
    | inr fails ↦ inr (2, g.blocks, inr (inl (refl, refl, sectors, fails)))
    | inl blocks ↦ elim (primaries_or_not g) [
      | inr fails ↦ inr (3, g.primaries, inr (inr (inl (refl, refl, sectors, blocks, fails))))
      | inl primaries ↦ elim (within_or_not 1 g.slots 4194304) [
        | inr fails ↦ inr (4, g.slots, inr (inr (inr (refl, refl, sectors, blocks, primaries, fails))))
        | inl slots ↦ inl (record { sectors = sectors; blocks = blocks; primaries = primaries; slots = slots })
      ]
    ]
  ]
]

pub header_or_fault : (bytes : List ℕ) → IsHeaderReading bytes (Ok (header_of bytes)) ⊎ ((why : HeaderFault) × IsHeaderReading bytes (Err why))
header_or_fault bytes = elim (same_numbers (take 8 bytes) magic) [
  | inr fails ↦ inr (Magic, fails)
  | inl does ↦ elim (version_or_not (header_of bytes).version) [
    | inr fails ↦ inr (Version (header_of bytes).version, (does, refl, fails))
    | inl version ↦ elim (lawful_or_bad (header_of bytes).geometry) [
      | inl lawful ↦ inl (does, version, lawful, refl)
      | inr bad ↦ inr (Field bad.0 bad.1, (does, version, bad.2))
    ]
  ]
]

-- ---- tests 4 to 8
module _ (x : Image) (g : Geometry) where
  abbrev Fails : Type 0
  Fails = (why : ImageFault) × IsTableFault x g why

  counts_or_fault : HasNoBad x g → HasNoRepeated x g → HasPrimaries x g → HasEnds x g → AreRight x g ⊎ Fails
  counts_or_fault good apart primaries ends = elim (least_below (λ b. not (stored_count x g b == found_count x g b)) g.blocks) [
    | inl none ↦ inl (record { no_bad = good; none_repeated = apart; primaries = primaries; ends = ends; counts = λ b h. equal (stored_count x g b) (found_count x g b) (none b h) })
    | inr bad ↦ inr (
      fault.Count bad.number (stored_count x g bad.number) (found_count x g bad.number),
      (
        good,
        apart,
        primaries,
        ends,
        record {
          inside = bad.inside;
          stored_is = refl;
          found_is = refl;
          wrong = unlike (stored_count x g bad.number) (found_count x g bad.number) bad.passes;
          least = λ a h. equal (stored_count x g a) (found_count x g a) (bad.least a h);
        },
      ),
    )
  ]
    where
      equal : (m n : ℕ) → not (m == n) ≡ false → m ≡ n
      equal m n h = grind (arith, nat_tests)

      unlike : (m n : ℕ) → not (m == n) ≡ true → m ≢ n
      unlike m n h e = grind (arith, nat_tests)

  ends_or_fault : HasNoBad x g → HasNoRepeated x g → HasPrimaries x g → AreRight x g ⊎ Fails
  ends_or_fault good apart primaries = elim (least_pair (λ e. are_marked x g e ≡ false) decides (pairs_in (slots_on x g)) (rising-pairs_in (slots_on x g))) [
    | inl none ↦ counts_or_fault good apart primaries (λ e held. true_if (are_marked x g e) (none e held))
    | inr bad ↦ inr (fault.EndNotLive bad.pair.0 bad.pair.1, (good, apart, primaries, record { held = bad.held; free = bad.has; least = bad.least }))
  ]
    where
      decides : (e : ℕ × ℕ) → (are_marked x g e ≡ false) ⊎ (are_marked x g e ≡ false → ⊥)
      decides e = elim (cases_Bool (are_marked x g e)) [ inl does ↦ inr (λ fails. both_ways (are_marked x g e) fails does) | inr fails ↦ inl fails ]

      true_if : (t : Bool) → (t ≡ false → ⊥) → t ≡ true
      true_if true h = refl
      true_if false h = absurd (h refl)

  primaries_or_fault : HasNoBad x g → HasNoRepeated x g → AreRight x g ⊎ Fails
  primaries_or_fault good apart = elim (least_below (λ b. not (is_bit_set x g b)) g.primaries) [
    | inl none ↦ ends_or_fault good apart (λ b h. on (is_bit_set x g b) (none b h))
    | inr bad ↦ inr (fault.Primary bad.number, (good, apart, record { inside = bad.inside; free = off (is_bit_set x g bad.number) bad.passes; least = λ a h. on (is_bit_set x g a) (bad.least a h) }))
  ]
    where
      on : (t : Bool) → not t ≡ false → t ≡ true
      on true h = refl
      on false h = absurd (cc)

      off : (t : Bool) → not t ≡ true → t ≡ false
      off true h = absurd (cc)
      off false h = refl

  repeats_or_fault : HasNoBad x g → AreRight x g ⊎ Fails
  repeats_or_fault good = elim (least_pair (IsRepeatedOn x g) (repeated_or_not g.slots (stored_slot x g)) (pairs_in (slots_on x g)) (rising-pairs_in (slots_on x g))) [
    | inl none ↦ primaries_or_fault good (λ e r. none e (held e r) r)
    | inr bad ↦ inr (fault.Repeated bad.pair.0 bad.pair.1, (good, record { repeated = bad.has; least = λ f r. bad.least f (held f r) r }))
  ]
    where
      held : (e : ℕ × ℕ) → IsRepeatedOn x g e → holds (pairs_in (slots_on x g)) e.0 e.1 ≡ true
      held e r = holds_from_slot (slots_on x g) r.second e.0 e.1 (sym ((slots_stored x g).each r.second r.inside) ∙ r.other)

  pub right_or_fault : AreRight x g ⊎ Fails
  right_or_fault = elim (least_below (is_bad_at x g) g.slots) [
    | inl none ↦ repeats_or_fault none
    | inr bad ↦ inr (
      fault.Slot bad.number (source_field x g bad.number) (target_field x g bad.number),
      record {
        inside = bad.inside;
        source_is = refl;
        target_is = refl;
        bad = bad.passes;
        least = bad.least;
      },
    )
  ]

-- ---- all of them
pub damaged : (image : Image) (why : ImageFault) → says_open (image format_gate) ≡ true → has_valid_records image ≡ true → HasHeader (home image) → IsTableFault (home image) (header_on (home image)).geometry why → IsFirstFault image why
damaged image fault.NotFormatted formatted journal header p = absurd p
damaged image fault.Descriptor formatted journal header p = absurd p
damaged image (fault.Header why) formatted journal header p = absurd p
damaged image (fault.Slot k s t) formatted journal header p = record { formatted = formatted; journal = journal; header = header; tables = p }
damaged image (fault.Repeated a b) formatted journal header p = record { formatted = formatted; journal = journal; header = header; tables = p }
damaged image (fault.Primary b) formatted journal header p = record { formatted = formatted; journal = journal; header = header; tables = p }
damaged image (fault.EndNotLive a b) formatted journal header p = record { formatted = formatted; journal = journal; header = header; tables = p }
damaged image (fault.Count b s f) formatted journal header p = record { formatted = formatted; journal = journal; header = header; tables = p }

pub good_or_fault : (image : Image) → IsGood image ⊎ ((why : ImageFault) × IsFirstFault image why)
good_or_fault image = elim (cases_Bool (says_open (image format_gate))) [
  | inr closed ↦ inr (fault.NotFormatted, closed)
  | inl formatted ↦ elim (cases_Bool (has_valid_records image)) [
    | inr fails ↦ inr (fault.Descriptor, (formatted, fails))
    | inl journal ↦ elim (header_or_fault (home image header_sector)) [
      | inr bad ↦ inr (fault.Header bad.0, (formatted, journal, bad.1))
      | inl header ↦ elim (right_or_fault (home image) (header_on (home image)).geometry) [
        | inl right ↦ inl (record { formatted = formatted; journal = journal; header = header; tables = right })
        | inr bad ↦ inr (bad.0, damaged image bad.0 formatted journal header bad.1)
      ]
    ]
  ]
]

pub world_or_fault : (image : Image) → ((w : World) × Stands image w) ⊎ ((why : ImageFault) × IsFirstFault image why)
world_or_fault image = elim (good_or_fault image) [
  | inl good ↦ inl (world_of image, record { good = good; world = refl })
  | inr bad ↦ inr bad
]
