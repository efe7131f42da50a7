-- Reading the slots of an image, sector after sector.
use Rattle.std.proofs.Common.{◌≡◌, ℕ, ◌+◌, ◌-◌, ◌*◌, ◌/◌, ◌%◌, ◌<◌, ◌≤◌, min, true, false, not, cond, ◌&&◌, ◌||◌, ◌==◌, nat_lt, nat_le, inl, inr, List, length, set, refl, sym, ◌∙◌, ap, subst, arith}
use Rattle.std.proofs.Common.{Option}
use Rattle.std.proofs.Common.{Some, None}
use Rattle.pointer_table.proofs.Common.{div_ceil, cases_eq, eqb-false, ltb-false, leb-false, or_parts, div_ceil_times, little_from, Geometry, slots_start, Image, source_field, target_field, RawSlot, is_bad_slot, is_bad_at, IsLeastBadSlot, slot_in, AreReadTo, AreWithinTo, slot_of, stored_slot, slot_at, MayBeHeld}
use Rattle.pointer_table.proofs.SlotLaws.{set_same, set_other}

-- ---- where a slot's two numbers stand

slot_part : (k part : ℕ) → 64 * part ≤ k → k < 64 * part + 64 → 8 * k / 512 ≡ part
slot_part k part from below = omega arith

slot_index : (k part : ℕ) → 64 * part ≤ k → k < 64 * part + 64 → 8 * k % 512 ≡ 8 * (k - 64 * part)
slot_index k part from below = omega arith

pub source_at : (image : Image) (g : Geometry) (k part : ℕ) (sector : List ℕ) → 64 * part ≤ k → k < 64 * part + 64 → image (slots_start g + part) ≡ sector
    → source_field image g k ≡ little_from (8 * (k - 64 * part)) 4 sector
source_at image g k part sector from below is =
    ap (λ p. little_from (8 * k % 512) 4 (image (slots_start g + p))) (slot_part k part from below)
    ∙ (ap (little_from (8 * k % 512) 4) is ∙ ap (λ b. little_from b 4 sector) (slot_index k part from below))

pub target_at : (image : Image) (g : Geometry) (k part : ℕ) (sector : List ℕ) → 64 * part ≤ k → k < 64 * part + 64 → image (slots_start g + part) ≡ sector
    → target_field image g k ≡ little_from (8 * (k - 64 * part) + 4) 4 sector
target_at image g k part sector from below is =
    ap (λ p. little_from (8 * k % 512 + 4) 4 (image (slots_start g + p))) (slot_part k part from below)
    ∙ (ap (little_from (8 * k % 512 + 4) 4) is ∙ ap (λ b. little_from (b + 4) 4 sector) (slot_index k part from below))

-- ---- one slot more

-- a slot that isn't bad
pub good_slot : (g : Geometry) (source target : ℕ) (e : ℕ × ℕ) → is_bad_slot g source target ≡ false → slot_of source target ≡ Some e → MayBeHeld g e
good_slot g source target e good is =
    elim (source == 0) as (λ t. (source == 0) ≡ t → (not t && (nat_lt g.blocks source || nat_le g.blocks target || nat_lt target g.primaries)) ≡ false → cond t None (Some (source - 1, target)) ≡ Some e → MayBeHeld g e) [
      | true ↦ λ z h s. absurd (cc)
      | false ↦ λ z h s.
          let same : (source - 1, target) ≡ e = cc in
          let most = or_parts (nat_lt g.blocks source || nat_le g.blocks target) (nat_lt target g.primaries) h in
          let two = or_parts (nat_lt g.blocks source) (nat_le g.blocks target) most.0 in
          let low = ltb-false g.blocks source two.0 in
          let high = leb-false g.blocks target two.1 in
          let apart = ltb-false target g.primaries most.1 in
          let some : source ≡ 0 → ⊥ = eqb-false source 0 z in
          subst (MayBeHeld g) same (omega arith, omega arith, omega arith)
    ] refl good is

pub read_more : (image : Image) (g : Geometry) (position : ℕ) (raws : List (Option (ℕ × ℕ))) (raw : RawSlot) → position < length raws
    → raw.source ≡ source_field image g position → raw.target ≡ target_field image g position → is_bad_slot g raw.source raw.target ≡ false
    → AreReadTo image g position raws → AreReadTo image g (position + 1) (set raws position (slot_in raw))
read_more image g position raws raw inside source target good so_far = record {
  each = λ k below. elim (cases_eq k position) [
    | inl here ↦
        ap (stored_slot image g) here
        ∙ (ap (λ s. slot_of s (target_field image g position)) (sym source) ∙ (ap (slot_of raw.source) (sym target)
        ∙ (sym (set_same raws position (slot_in raw) inside)
        ∙ ap (slot_at (set raws position (slot_in raw))) (sym here))))
    | inr other ↦
        so_far.each k (omega arith)
        ∙ sym (set_other raws position k (slot_in raw) other)
  ];
  no_bad = λ k below. elim (cases_eq k position) [
    | inl here ↦ ap (is_bad_at image g) here ∙ (ap (λ s. is_bad_slot g s (target_field image g position)) (sym source) ∙ (ap (is_bad_slot g raw.source) (sym target) ∙ good))
    | inr other ↦ so_far.no_bad k (omega arith)
  ];
}

pub within_more : (g : Geometry) (position : ℕ) (raws : List (Option (ℕ × ℕ))) (raw : RawSlot) → position < length raws → is_bad_slot g raw.source raw.target ≡ false
    → AreWithinTo g position raws → AreWithinTo g (position + 1) (set raws position (slot_in raw))
within_more g position raws raw inside good so_far = record {
  each = λ k e below here. elim (cases_eq k position) [
    | inl same ↦
        good_slot g raw.source raw.target e good
        (sym (set_same raws position (slot_in raw) inside)
        ∙ (ap (slot_at (set raws position (slot_in raw))) (sym same) ∙ here))
    | inr other ↦
        so_far.each k e (omega arith)
        (sym (set_other raws position k (slot_in raw) other) ∙ here)
  ];
}

-- a bad one behind those that were read
pub least_bad : (image : Image) (g : Geometry) (position : ℕ) (raws : List (Option (ℕ × ℕ))) (raw : RawSlot) → position < g.slots
    → raw.source ≡ source_field image g position → raw.target ≡ target_field image g position → is_bad_slot g raw.source raw.target ≡ true
    → AreReadTo image g position raws → IsLeastBadSlot image g position raw.source raw.target
least_bad image g position raws raw inside source target bad so_far = record {
  inside = inside;
  source_is = source;
  target_is = target;
  bad = bad;
  least = so_far.no_bad;
}

-- ---- one sector more

parts_of : ℕ → ℕ
parts_of m = div_ceil (8 * m) 512

-- a sector of the slots' area has slots
pub part_inside : (m part : ℕ) → part < div_ceil (8 * m) 512 → 64 * part < m
part_inside m part h = let bounds = div_ceil_times (8 * m) 512 (omega arith) in omega arith

-- and all of them together have all slots
pub parts_all : (m parts : ℕ) → div_ceil (8 * m) 512 ≤ parts → min m (64 * parts) ≡ m
parts_all m parts h = let bounds = div_ceil_times (8 * m) 512 (omega arith) in omega arith
