-- The slots of an image have one answer, which no write elsewhere changes.
use Rattle.std.proofs.Common.{◌≡◌, ℕ, ◌+◌, ◌*◌, ◌/◌, ◌%◌, ◌<◌, ◌≤◌, true, inl, inr, List, refl, sym, ◌∙◌, ap, arith}
use Rattle.std.proofs.Common.{Option, None, Result, Ok, Err}
use Rattle.std.specs.Prelude.{map}
use Rattle.pointer_table.proofs.Common.{div_ceil, range_with_len, cases_order, both_ways, div_ceil_times, ext_get_or, fill_by_all, Geometry, slots_start, data_start, Image, source_field, target_field, is_bad_slot, is_bad_at, HasNoBad, IsLeastBadSlot, IsLeastRepeated, IsLoaded, WasDecided, AnswersPointers, stored_slot, IsStored, Table, TableFault}
use Rattle.tsd_model.proofs.PlaceLaws.{same_pair}
use Rattle.pointer_table.specs.declared.fault.TableFault.TheVariants as fault
use Rattle.pointer_table.proofs.SectorLaws.{read_at, stored_at}

-- ---- one answer

bad_there : (image : Image) (g : Geometry) (k source target : ℕ) → IsLeastBadSlot image g k source target → is_bad_at image g k ≡ true
bad_there image g k source target least = ap (λ s. is_bad_slot g s (target_field image g k)) (sym least.source_is) ∙ (ap (is_bad_slot g source) (sym least.target_is) ∙ least.bad)

same_bad : (image : Image) (g : Geometry) (k s t j u v : ℕ) → IsLeastBadSlot image g k s t → IsLeastBadSlot image g j u v → ◌≡◌ {A = Result Table TableFault} (Err (fault.Slot k s t)) (Err (fault.Slot j u v))
same_bad image g k s t j u v one other = elim (cases_order k j) [
  | inl same ↦
      let source : s ≡ u = one.source_is ∙ (ap (source_field image g) same ∙ sym other.source_is) in
      let target : t ≡ v = one.target_is ∙ (ap (target_field image g) same ∙ sym other.target_is) in
      cc
  | inr order ↦ elim order [
    | inl before ↦ absurd (both_ways (is_bad_at image g k) (other.least k before) (bad_there image g k s t one))
    | inr after ↦ absurd (both_ways (is_bad_at image g j) (one.least j after) (bad_there image g j u v other))
  ]
]

not_bad : (image : Image) (g : Geometry) (k s t : ℕ) → HasNoBad image g → IsLeastBadSlot image g k s t → ⊥
not_bad image g k s t none least = both_ways (is_bad_at image g k) (none k least.inside) (bad_there image g k s t least)

same_repeated : (image : Image) (g : Geometry) (a b c d : ℕ) → IsLeastRepeated image g (a, b) → IsLeastRepeated image g (c, d) → ◌≡◌ {A = Result Table TableFault} (Err (fault.Repeated a b)) (Err (fault.Repeated c d))
same_repeated image g a b c d one other =
    let both = same_pair a b c d (other.least (a, b) one.repeated) (one.least (c, d) other.repeated) in
    let source = both.0 in
    let target = both.1 in
    cc

same_table : (image : Image) (g : Geometry) (t u : Table) → IsLoaded image g t → IsLoaded image g u → ◌≡◌ {A = Result Table TableFault} (Ok t) (Ok u)
same_table image g t u one other =
    let size : t.geometry ≡ u.geometry = one.size ∙ sym other.size in
    let slots : t.slots ≡ u.slots =
    ext_get_or None t.slots u.slots (one.stored.count ∙ sym other.stored.count)
    (λ k inside. let all = one.stored.count in sym (one.stored.each k (omega arith)) ∙ other.stored.each k (omega arith)) in
    λ i. Ok (record { geometry = size i; slots = slots i })

pub one_answer : (image : Image) (g : Geometry) (one other : Result Table TableFault) → WasDecided one → WasDecided other → AnswersPointers image g one → AnswersPointers image g other → one ≡ other
one_answer image g (Err fault.NoMemory) other j k a b = absurd j
one_answer image g (Err fault.Device) other j k a b = absurd j
one_answer image g (Ok t) (Ok u) j k a b = same_table image g t u a b
one_answer image g (Ok t) (Err fault.NoMemory) j k a b = absurd k
one_answer image g (Ok t) (Err fault.Device) j k a b = absurd k
one_answer image g (Ok t) (Err (fault.Slot n u v)) j k a b = absurd (not_bad image g n u v a.no_bad b)
one_answer image g (Ok t) (Err (fault.Repeated c d)) j k a b = absurd (a.none_repeated (c, d) b.1.repeated)
one_answer image g (Err (fault.Slot m s t)) (Ok u) j k a b = absurd (not_bad image g m s t b.no_bad a)
one_answer image g (Err (fault.Slot m s t)) (Err fault.NoMemory) j k a b = absurd k
one_answer image g (Err (fault.Slot m s t)) (Err fault.Device) j k a b = absurd k
one_answer image g (Err (fault.Slot m s t)) (Err (fault.Slot n u v)) j k a b = same_bad image g m s t n u v a b
one_answer image g (Err (fault.Slot m s t)) (Err (fault.Repeated c d)) j k a b = absurd (not_bad image g m s t b.0 a)
one_answer image g (Err (fault.Repeated c d)) (Ok u) j k a b = absurd (b.none_repeated (c, d) a.1.repeated)
one_answer image g (Err (fault.Repeated c d)) (Err fault.NoMemory) j k a b = absurd k
one_answer image g (Err (fault.Repeated c d)) (Err fault.Device) j k a b = absurd k
one_answer image g (Err (fault.Repeated c d)) (Err (fault.Slot n u v)) j k a b = absurd (not_bad image g n u v a.0 b)
one_answer image g (Err (fault.Repeated c d)) (Err (fault.Repeated e f)) j k a b = same_repeated image g c d e f a.1 b.1

pub one_table : (slots : List (Option (ℕ × ℕ))) (g : Geometry) (x : Image) → IsStored slots g x → slots ≡ map (stored_slot x g) (range_with_len 0 g.slots)
one_table slots g x stored = fill_by_all (stored_slot x g) slots g.slots None stored.count (λ k inside. sym (stored.each k inside))

-- ---- writes elsewhere

pub stored_elsewhere : (slots : List (Option (ℕ × ℕ))) (g : Geometry) (x y : Image) → ((n : ℕ) → slots_start g ≤ n → n < data_start g → y n ≡ x n) → IsStored slots g x → IsStored slots g y
stored_elsewhere slots g x y same old = record {
  count = old.count;
  each = λ k inside.
      let bounds = div_ceil_times (8 * g.slots) 512 (omega arith) in
      let area : data_start g ≡ slots_start g + div_ceil (8 * g.slots) 512 = refl in
      stored_at y g k ∙ (ap (λ bytes. read_at bytes (8 * (k % 64))) (same (slots_start g + k / 64) (omega arith) (omega arith)) ∙ (sym (stored_at x g k) ∙ old.each k inside));
}
