-- Records that are changed.
use Rattle.std.proofs.Common.{◌≡◌, ◌≢◌, ℕ, ◌+◌, ◌<◌, ◌≤◌, ◌==◌, inl, inr, List, [], ◌∷◌, length, refl, sym, ◌∙◌, ap, subst, arith, Ok}
use Rattle.volume_laws.proofs.Common.{filter, slice_set, cases_Bool, length-set, Record, has_number, with_caps, put_at, header_sector, format_gate, caps_start, counts_start, IsHeaderReading, Image, says_open, Patch, put_elsewhere, stored_elsewhere, same_counts, same_bits, Store, kept, settle-of_records, swept-of_records, doomed_by_graph, graph-of_records, AreSound, Tables, left_of, world_with, zeros_of, owed, Turns, left_records}
use Rattle.tsd_model.specs.declared.caps.CapPair.{CapPair}
use Rattle.cap_store.specs.Stored.{IsStored}
use Rattle.cap_store.specs.Changes.{KeepsStored}
use Rattle.volume_laws.proofs.BlockLaws.{away}

-- ---- worlds
pub left_kept : (t : Tables) (rs : List Record) (c : ℕ → List ℕ) → left_of (record t { records = rs }) (world_with (record t { records = rs }) c) ≡ record (left_of t (world_with t c)) { records = rs }
unfolding left_of world_with
left_kept t rs c = elim (cases_Bool t.is_sweeping) [
  | inl e ↦ rw e (swept-of_records (world_with t c) t.version rs)
  | inr e ↦ rw e (settle-of_records (world_with t c) t.version rs)
]

-- a primary block's record is set
pub left_with_caps : (t : Tables) (b : ℕ) (r : Record) (c : ℕ → List ℕ)
    → left_of (record t { records = slice_set t.records b r }) (world_with (record t { records = slice_set t.records b r }) c) ≡ with_caps (left_of t (world_with t c)) b r
left_with_caps t b r c = left_kept t (slice_set t.records b r) c ∙ ap (λ (rs : List Record). record (left_of t (world_with t c)) { records = slice_set rs b r }) (sym (left_records t c))

pub owed_kept : (t : Tables) (rs : List Record) → owed (record t { records = rs }) ≡ owed t
unfolding world_with
owed_kept t rs =
    let w = world_with t (zeros_of t) in
    ap (λ (gone : List ℕ). length gone + length (filter (λ (e : ℕ × ℕ). has_number gone e.0) w.pairs)) (doomed_by_graph (record w { records = rs }) w (graph-of_records w w.version rs))

-- ---- sectors
pub sound_kept : (t : Tables) (rs : List Record) → length rs ≡ length t.records → AreSound t → AreSound (record t { records = rs })
sound_kept t rs long sound = record {
  version = sound.version;
  slots = sound.slots;
  each_block = sound.each_block;
  each_count = sound.each_count;
  each_record = long ∙ sound.each_record;
  primaries = sound.primaries;
  ends = sound.ends;
  counted = sound.counted;
}

pub caps_turn : (t : Tables) (b : ℕ) (r : Record) (p : Patch) → AreSound t → caps_start ≤ p.sector → p.sector < counts_start
    → ((x : Image) → IsStored t.version t.records x → IsStored t.version (slice_set t.records b r) (put_at p.sector p.bytes x))
    → Turns t (record t { records = slice_set t.records b r }) (p ∷ [])
caps_turn t b r p sound from to stored = record {
  sound = sound_kept t (slice_set t.records b r) (length-set t.records b r) sound;
  size = refl;
  has = λ z had.
      let same : (n : ℕ) → n ≢ p.sector → put_at p.sector p.bytes z n ≡ z n = λ n other. put_elsewhere p.sector p.bytes z n (away p.sector n other) in
      record {
        header = subst (λ bytes. IsHeaderReading bytes (Ok (record { version = t.version; geometry = t.geometry }))) (sym (same header_sector (λ e. omega arith))) had.header;
        live = same_bits t.live t.geometry z (put_at p.sector p.bytes z) (λ n f u. same n (λ e. omega arith)) had.live;
        slots = stored_elsewhere t.slots t.geometry z (put_at p.sector p.bytes z) (λ n f u. same n (λ e. omega arith)) had.slots;
        counts = same_counts t.counts t.geometry z (put_at p.sector p.bytes z) (λ n f u. same n (λ e. omega arith)) had.counts;
        records = stored z had.records;
        flag = ap says_open (same 131 (λ e. omega arith)) ∙ had.flag;
      };
  contents = λ z n above. put_elsewhere p.sector p.bytes z n (away p.sector n (λ e. omega arith));
  gate = λ z. put_elsewhere p.sector p.bytes z format_gate (away p.sector format_gate (λ e. omega arith));
}

-- a store that set a record, with the patch of its sector
pub caps_set : (t : Tables) (old new : Store) (b : ℕ) (caps : CapPair) (p : Patch) → AreSound t → old.version ≡ t.version → old.records ≡ t.records
    → new ≡ record old { records = slice_set old.records b (kept old.version caps) }
    → (caps_start ≤ p.sector) × (p.sector < counts_start) → KeepsStored old new p
    → Turns t (record t { records = slice_set t.records b (kept t.version caps) }) (p ∷ [])
caps_set t old new b caps p sound ev er set inside keeps =
    caps_turn t b (kept t.version caps) p sound inside.0 inside.1 (λ x stored.
    let before : IsStored old.version old.records x = subst (λ (q : ℕ × List Record). IsStored q.0 q.1 x) (λ i. (sym ev i, sym er i)) stored in
    let version : new.version ≡ t.version = ap (λ (s : Store). s.version) set ∙ ev in
    let records : new.records ≡ slice_set t.records b (kept t.version caps) = ap (λ (s : Store). s.records) set ∙ (λ i. slice_set (er i) b (kept (ev i) caps)) in
    subst (λ (q : ℕ × List Record). IsStored q.0 q.1 (put_at p.sector p.bytes x)) (λ i. (version i, records i)) (keeps x before))
