-- The slots of a fresh disk, and sectors that are written as those of a table.
use Rattle.std.proofs.Common.{◌≡◌, ℕ, zero, suc, ◌+◌, ◌*◌, ◌/◌, ◌%◌, inl, inr, [], ◌++◌, replicate, refl, ◌∙◌, ap, arith}
use Rattle.std.proofs.Common.{Option, None}
use Rattle.pointer_table.proofs.Common.{div_ceil, cases_lt, div_ceil_times, length-replicate, get_or-replicate, get_or_past, replicate-append-replicate, zeros, slots_start, data_start, IsLawful, Geometry, row_bytes, slot_bytes, slot_sector_bytes, AreWritten, IsStored, slot_at, pairs_in, Table, pairs, IsTable}
use Rattle.image_device.specs.Image.{Image}
use Rattle.pointer_table.specs.Fresh.{fresh_slots}
use Rattle.pointer_table.proofs.SectorLaws.{read_at, sector_read, stored_at}
use Rattle.pointer_table.proofs.TableLaws.{fits}

none_at : (n k : ℕ) → slot_at (replicate n None) k ≡ None
none_at n k = elim (cases_lt k n) [
  | inl h ↦ get_or-replicate n k None None h
  | inr h ↦ get_or_past (replicate n None) k None (let len = length-replicate {A = Option (ℕ × ℕ)} n None in omega (arith, len))
]

-- ---- the bytes of empty slots
empty_row : (n first k : ℕ) → row_bytes (replicate n None) first k ≡ replicate (8 * k) 0
unfolding row_bytes
empty_row n first zero = refl
empty_row n first (suc k) =
    let rest = empty_row n first k in
    let last : slot_bytes (slot_at (replicate n None) (first + k)) ≡ replicate 8 0 = ap slot_bytes (none_at n (first + k)) in
    let size : 8 * k + 8 ≡ 8 * suc k = omega arith in
    (λ i. rest i ++ last i) ∙ (replicate-append-replicate (8 * k) 8 0 ∙ ap (λ (m : ℕ). replicate m 0) size)

pub empty_sector : (g : Geometry) (part : ℕ) → slot_sector_bytes (fresh_slots g) part ≡ zeros
empty_sector g part = empty_row g.slots (64 * part) 64

-- ---- the table of a fresh disk
pub fresh_table : (g : Geometry) → IsLawful g → IsTable (record { geometry = g; slots = fresh_slots g })
fresh_table g lawful = record {
  lawful = lawful;
  count = length-replicate g.slots None;
  ends = λ k e is. absurd (let none = none_at g.slots k in cc);
  apart = λ i j e one other. absurd (let none = none_at g.slots i in cc);
}

none_held : (n : ℕ) → pairs_in (replicate n None) ≡ []
none_held zero = refl
none_held (suc n) = none_held n

pub no_pairs : (g : Geometry) → pairs (record { geometry = g; slots = fresh_slots g }) ≡ []
no_pairs g = none_held g.slots

-- ---- sectors that are written as those of a table
pub written_stored : (t : Table) (x : Image) → IsTable t → AreWritten t.slots t.geometry x → IsStored t.slots t.geometry x
written_stored t x table written = record {
  count = table.count;
  each = λ k inside.
      let bounds = div_ceil_times (8 * t.geometry.slots) 512 (omega arith) in
      let area : data_start t.geometry ≡ slots_start t.geometry + div_ceil (8 * t.geometry.slots) 512 = refl in
      stored_at x t.geometry k
      ∙ (ap (λ bytes. read_at bytes (8 * (k % 64))) (written (k / 64) (omega arith))
      ∙ sector_read t.slots (k / 64) (k % 64) k (fits t table) (omega arith) (omega arith));
}
