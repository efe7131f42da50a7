-- The records of the sectors, one sector after another.
use Rattle.std.proofs.Common.{◌≡◌, inl, inr, ℕ, ◌+◌, ◌-◌, ◌*◌, ◌/◌, ◌%◌, ◌<◌, ◌≤◌, List, length, take, drop, Some, refl, sym, ◌∙◌, ap, subst, arith}
use Rattle.std.specs.Prelude.{slice_get}
use Rattle.std.specs.Int.{div_ceil}
use Rattle.std.proofs.lemmas.Bool.{cases_lt}
use Rattle.std.proofs.lemmas.List.{length-take, length-drop}
use Rattle.std.proofs.lemmas.Option.{same_Some, none-some, slice_get_past}
use Rattle.tsd_model.specs.declared.records.Record.{Record}
use Rattle.image_layout.specs.Header.{IsVersion}
use Rattle.image_layout.specs.Image.{Image}
use Rattle.cap_store.specs.Store.{IsRecord}
use Rattle.cap_store.specs.Stored.{kept_as, per_sector, sector_record, stored_record}
use Rattle.cap_store.proofs.RecordLaws.{for_version}

-- a record in a whole sector is of the version
pub record_at_is : (bytes : List ℕ) (k : ℕ) → length bytes ≡ 512 → (version : ℕ) → IsVersion version → k < per_sector version → IsRecord version (sector_record version bytes k)
record_at_is bytes k whole = for_version (λ v. k < per_sector v → IsRecord v (sector_record v bytes k))
    (λ inside. record { read = (refl, long 16 (32 * k) (omega arith)); write = (refl, long 16 (32 * k + 16) (omega arith)) })
    (λ inside. record { read = (refl, long 32 (64 * k) (omega arith)); write = (refl, long 32 (64 * k + 32) (omega arith)) })
  where
    long : (len at : ℕ) → at + len ≤ 512 → length (take len (drop at bytes)) ≡ len
    long len at fits =
        let cut = length-take len (drop at bytes) in
        let left = length-drop at bytes in
        omega (arith, cut, left, whole)

-- so many sectors have all records
pub covers : (len part : ℕ) (version : ℕ) → IsVersion version → div_ceil len (per_sector version) ≤ part → len ≤ part * per_sector version
covers len part = for_version (λ v. div_ceil len (per_sector v) ≤ part → len ≤ part * per_sector v) (λ enough. omega arith) (λ enough. omega arith)

-- the k-th record of a sector is that of a block
pub record_in : (x : Image) (part k : ℕ) (version : ℕ) → IsVersion version → k < per_sector version → stored_record version x (part * per_sector version + k) ≡ sector_record version (x (132 + part)) k
record_in x part k = for_version (λ v. k < per_sector v → stored_record v x (part * per_sector v + k) ≡ sector_record v (x (132 + part)) k)
    (λ inside.
    let sector : 32 * (part * 16 + k) / 512 ≡ part = omega arith in
    let byte : 32 * (part * 16 + k) % 512 ≡ 32 * k = omega arith in
    (λ i. record { read = kept_as 1 (take 16 (drop (byte i) (x (132 + sector i)))); write = kept_as 1 (take 16 (drop (byte i + 16) (x (132 + sector i)))) }))
    (λ inside.
    let sector : 64 * (part * 8 + k) / 512 ≡ part = omega arith in
    let byte : 64 * (part * 8 + k) % 512 ≡ 64 * k = omega arith in
    (λ i. record { read = kept_as 2 (take 32 (drop (byte i) (x (132 + sector i)))); write = kept_as 2 (take 32 (drop (byte i + 32) (x (132 + sector i)))) }))

module _ (version part each : ℕ) (old new : List Record) (bytes : List ℕ) (is : IsVersion version) (size : each ≡ per_sector version)
    (here : (k : ℕ) → k < per_sector version → part * each + k < length old → slice_get new (part * each + k) ≡ Some (sector_record version bytes k))
    (before : (block : ℕ) → block < part * each → slice_get new block ≡ slice_get old block) where
  -- so far each record is of the version
  pub kept_more : length new ≡ length old
      → ((k : ℕ) → k < per_sector version → IsRecord version (sector_record version bytes k))
      → ((block : ℕ) (r : Record) → block < part * each → slice_get old block ≡ Some r → IsRecord version r)
      → (block : ℕ) (r : Record) → block < (part + 1) * each → slice_get new block ≡ Some r → IsRecord version r
  kept_more same kept so_far block r less is_r = elim (cases_lt block (part * each)) [
    | inl below ↦ so_far block r below (sym (before block below) ∙ is_r)
    | inr at ↦ elim (cases_lt block (length old)) [
      | inl inside ↦
          let k : ℕ = block - part * each in
          let fits : k < per_sector version = omega arith in
          let position : block ≡ part * each + k = omega arith in
          subst (IsRecord version) (same_Some (sector_record version bytes k) r (sym (here k fits (omega arith)) ∙ ap (slice_get new) (sym position) ∙ is_r)) (kept k fits)
      | inr past ↦ absurd (none-some r (sym (slice_get_past new block (omega arith)) ∙ is_r))
    ]
  ]

  -- so far each record is that of the image
  pub read_more : (x : Image) → bytes ≡ x (132 + part)
      → ((block : ℕ) → block < part * each → block < length old → slice_get old block ≡ Some (stored_record version x block))
      → (block : ℕ) → block < (part + 1) * each → block < length old → slice_get new block ≡ Some (stored_record version x block)
  read_more x read so_far block less inside = elim (cases_lt block (part * each)) [
    | inl below ↦ before block below ∙ so_far block below inside
    | inr at ↦
        let k : ℕ = block - part * each in
        let fits : k < per_sector version = omega arith in
        let position : block ≡ part * each + k = omega arith in
        ap (slice_get new) position ∙ here k fits (omega arith)
        ∙ ap Some (ap (λ l. sector_record version l k) read ∙ sym (record_in x part k version is fits) ∙ ap (λ b. stored_record version x b) (ap (λ n. part * n + k) (sym size) ∙ sym position))
  ]
