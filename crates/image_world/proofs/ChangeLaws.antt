-- Changes of tables, and the changes of the world that they are.
use Rattle.std.proofs.Common.{◌≡◌, ℕ, true, false, inl, inr, cond, List, refl, sym, ◌∙◌}
use Rattle.image_world.proofs.Common.{map, slice_set, cases_Bool, settle, swept, upgraded_record, upgraded, with_caps, World, settle-of_records, swept-of_records, world_with, left_of, Tables}
use Rattle.tsd_model.specs.declared.records.Record.{Record}
use Rattle.image_world.specs.Changes.{with_records, upgraded_tables}

-- other records, and another version, are passed on to what is left
pub left_of_records : (t : Tables) (w : World) (version : ℕ) (rs : List Record) → left_of t (record w { version = version; records = rs }) ≡ record (left_of t w) { version = version; records = rs }
unfolding left_of
left_of_records t w version rs = elim t.is_sweeping as (λ s. cond s (swept (record w { version = version; records = rs })) (settle (record w { version = version; records = rs })) ≡ record (cond s (swept w) (settle w)) { version = version; records = rs }) [
  | true ↦ swept-of_records w version rs
  | false ↦ settle-of_records w version rs
]

-- the records of what is left are those of the tables
pub left_records : (t : Tables) (c : ℕ → List ℕ) → (left_of t (world_with t c)).records ≡ t.records
unfolding left_of world_with
left_records t c = elim (cases_Bool t.is_sweeping) [ inl e ↦ rw e refl | inr e ↦ rw e refl ]

pub left_version : (t : Tables) (c : ℕ → List ℕ) → (left_of t (world_with t c)).version ≡ t.version
unfolding left_of world_with
left_version t c = elim (cases_Bool t.is_sweeping) [ inl e ↦ rw e refl | inr e ↦ rw e refl ]

pub tables_records : (t : Tables) (version : ℕ) (rs : List Record) (c : ℕ → List ℕ) → let now : Tables = record t { version = version; records = rs } in
    left_of now (world_with now c) ≡ record (left_of t (world_with t c)) { version = version; records = rs }
unfolding left_of world_with
tables_records t version rs c = left_of_records t (world_with t c) version rs

pub caps_change : (t : Tables) (c : ℕ → List ℕ) (b : ℕ) (r : Record) → let now = with_records t (slice_set t.records b r) in
    left_of now (world_with now c) ≡ with_caps (left_of t (world_with t c)) b r
caps_change t c b r =
    tables_records t t.version (slice_set t.records b r) c
    ∙ (λ i. record (left_of t (world_with t c)) { version = sym (left_version t c) i; records = slice_set (sym (left_records t c) i) b r })

pub upgrade_change : (t : Tables) (c : ℕ → List ℕ) → let now = upgraded_tables t in
    left_of now (world_with now c) ≡ upgraded (left_of t (world_with t c))
upgrade_change t c =
    tables_records t 2 (map upgraded_record t.records) c
    ∙ (λ i. record (left_of t (world_with t c)) { version = 2; records = map upgraded_record (sym (left_records t c) i) })

pub flag_change : (t : Tables) (w : World) → (left_of (record t { is_sweeping = true }) w ≡ swept w) × (left_of (record t { is_sweeping = false }) w ≡ settle w)
unfolding left_of
flag_change t w = (refl, refl)
