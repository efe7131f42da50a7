-- A pointer more.
use Rattle.std.proofs.Common.{◌≡◌, ◌≢◌, ℕ, ◌+◌, ◌<◌, ◌≤◌, true, false, ◌==◌, inl, inr, Bool, cond, List, [], ◌∷◌, length, refl, sym, ◌∙◌, ap, subst, arith, Ok}
use Rattle.volume_laws.proofs.Common.{slice_set, slice_index, cases_eq, and_from, or_cases, nat_tests, length-set, get_or-set_same, get_or-set_other, Geometry, is_pair, holds, with_pair, count_to, holds-with_pair, is_pair_ext, count-with_pair, count_to_below, World, is_live, settle, with_pointer, put_at, header_sector, format_gate, counts_start, bitmap_start, slots_start, data_start, IsHeaderReading, Image, says_open, Patch, with_patch, overlaid, put_elsewhere, overlaid_with_patch, pairs, IsTable, MayBeHeld, Pointers, IsSlotSector, KeepsStored, Counts, LiveMap, Store, Header, pairs_in, AreSlots, rising-pairs_in, slot_from_holds, stored_elsewhere, IsStored, KeepsCounts, same_counts, is_marked_in, same_bits, same_records, HasTables, AreSound, Tables, pairs_of, left_of, world_with, zeros_of, blank_of, doomed_list-with_pointer, doomed_pairs-with_pointer, create_settles, settle_none, doomed_size, graph_in, owed, tables_in, Turns}
use Rattle.std.specs.Prelude.{Option}
use Rattle.volume_laws.proofs.BlockLaws.{length-with_patch}
use Rattle.volume_laws.proofs.TableWorlds.{laid_out, graph_laid_out, same_doomed, none_owed, blank, told_live, told_absent, left_told}
use Rattle.volume_laws.proofs.BlockLaws.{away}

-- ---- one or none
pub one_at : (b c : ℕ) → c ≡ b → ◌≡◌ {A = ℕ} (cond (b == c) 1 0) 1
one_at b c same = let e : (b == c) ≡ true = grind (arith, nat_tests) in rw e refl

none_if : (t : Bool) → t ≡ false → ◌≡◌ {A = ℕ} (cond t 1 0) 0
none_if t e = rw e refl

pub none_at : (b c : ℕ) → c ≢ b → ◌≡◌ {A = ℕ} (cond (b == c) 1 0) 0
none_at b c other = let e : (b == c) ≡ false = grind (arith, nat_tests) in rw e refl

-- ---- tables with a pair more
abbrev pub with_slots : Tables → List (Option (ℕ × ℕ)) → ℕ → Tables
with_slots t slots b = record t { slots = slots; counts = slice_set t.counts b (slice_index t.counts b + 1) }

-- what memory tells says of the raw world
pub record IsOpenTo (t : Tables) (a b : ℕ) : Type 0 where
  pub still : t.is_sweeping ≡ false
  pub source : is_live (blank_of t) a ≡ true
  pub target : is_live (blank_of t) b ≡ true
  pub apart : t.geometry.primaries ≤ b
  pub absent : holds (blank_of t).pairs a b ≡ false

pub raw_absent : (t : Tables) (a b : ℕ) → IsOpenTo t a b → holds (pairs_of t) a b ≡ false
raw_absent t a b o = told_absent t a b o.still o.source o.absent

-- a block that is left is marked
pub marked : (t : Tables) (c : ℕ) → t.is_sweeping ≡ false → is_live (blank_of t) c ≡ true → (c < t.geometry.blocks) × (is_marked_in t.live c ≡ true)
marked t c still live = let told = told_live t c still live in (told.1, told.2)

pub ends_within : (t : Tables) (a b : ℕ) → IsOpenTo t a b → MayBeHeld t.geometry (a, b)
ends_within t a b o = ((marked t a o.still o.source).0, o.apart, (marked t b o.still o.target).0)

-- the count of the target is below the number of blocks
pub count_room : (t : Tables) (a b : ℕ) → AreSound t → IsOpenTo t a b → slice_index t.counts b < t.geometry.blocks
count_room t a b sound o =
    let below = count_to_below a b t.geometry.blocks (pairs_of t) (rising-pairs_in t.slots) source (marked t a o.still o.source).0 (raw_absent t a b o) in
    let count = sound.counted b (marked t b o.still o.target).0 in
    omega (arith, below, count)
  where
    source : (x : ℕ) → holds (pairs_of t) x b ≡ true → x < t.geometry.blocks
    source x held = let found = slot_from_holds t.slots x b held in (sound.slots.ends found.0 (x, b) found.2).0

-- the tables still fit one another
pub sound_pointer : (t : Tables) (slots : List (Option (ℕ × ℕ))) (a b : ℕ) → AreSound t → IsOpenTo t a b → IsTable (record { geometry = t.geometry; slots = slots }) → pairs_in slots ≡ with_pair (a, b) (pairs_of t) → AreSound (with_slots t slots b)
sound_pointer t slots a b sound o table pairs = record {
  version = sound.version;
  slots = table;
  each_block = sound.each_block;
  each_count = length-set t.counts b (slice_index t.counts b + 1) ∙ sound.each_count;
  each_record = sound.each_record;
  primaries = sound.primaries;
  ends = λ x y h. elim (or_cases (is_pair x y (a, b)) (holds (pairs_of t) x y) (sym (holds-with_pair (a, b) (pairs_of t) x y) ∙ (ap (λ es. holds es x y) (sym pairs) ∙ h))) [
    | inl here ↦
        let e = is_pair_ext x y (a, b) here in
        let one : a ≡ x = ap (λ (f : ℕ × ℕ). f.0) e in
        let two : b ≡ y = ap (λ (f : ℕ × ℕ). f.1) e in
        and_from (is_marked_in t.live x) (is_marked_in t.live y) (ap (is_marked_in t.live) (sym one) ∙ (marked t a o.still o.source).1) (ap (is_marked_in t.live) (sym two) ∙ (marked t b o.still o.target).1)
    | inr held ↦ sound.ends x y held
  ];
  counted = λ c h.
      let more = ap (λ es. count_to es c) pairs ∙ count-with_pair (λ e. e.1 == c) (a, b) (pairs_of t) (raw_absent t a b o) in
      let was = sound.counted c h in
      let inside : b < length t.counts = let w = (marked t b o.still o.target).0 in omega (arith, w, sound.each_count) in
      elim (cases_eq c b) [
        | inl same ↦
            let one = one_at b c same in
            let here : slice_index (slice_set t.counts b (slice_index t.counts b + 1)) c ≡ slice_index t.counts b + 1 = ap (slice_index (slice_set t.counts b (slice_index t.counts b + 1))) same ∙ get_or-set_same t.counts b (slice_index t.counts b + 1) 0 inside in
            let old : slice_index t.counts c ≡ slice_index t.counts b = ap (slice_index t.counts) same in
            omega (arith, more, one, here, old, was)
        | inr other ↦
            let none = none_at b c other in
            let here : slice_index (slice_set t.counts b (slice_index t.counts b + 1)) c ≡ slice_index t.counts c = get_or-set_other t.counts b c (slice_index t.counts b + 1) 0 other in
            omega (arith, more, none, here, was)
      ];
}

-- ---- worlds
pub left_pointer : (t : Tables) (slots : List (Option (ℕ × ℕ))) (a b : ℕ) (c : ℕ → List ℕ) → IsOpenTo t a b → pairs_in slots ≡ with_pair (a, b) (pairs_of t)
    → left_of (with_slots t slots b) (world_with (with_slots t slots b) c) ≡ with_pointer (left_of t (world_with t c)) a b
unfolding left_of world_with
left_pointer t slots a b c o pairs =
    let w = world_with t c in
    rw o.still ((λ i. settle (record w { pairs = pairs i })) ∙ create_settles w a b (laid_out t c) (left_told t c a o.still o.source) (left_told t c b o.still o.target))

-- what is doomed stays
pub owed_pointer : (t : Tables) (slots : List (Option (ℕ × ℕ))) (a b : ℕ) → IsOpenTo t a b → pairs_in slots ≡ with_pair (a, b) (pairs_of t) → owed (with_slots t slots b) ≡ owed t
owed_pointer t slots a b o pairs =
    let w = graph_in t in
    let from = (told_live t a o.still o.source).0 in
    let to = (told_live t b o.still o.target).0 in
    let now : owed (with_slots t slots b) ≡ doomed_size (with_pointer w a b) = (λ i. doomed_size (record w { pairs = pairs i })) in
    let blocks = ap (λ (xs : List ℕ). length xs) (doomed_list-with_pointer w a b (graph_laid_out t) to) in
    let more = doomed_pairs-with_pointer w a b (graph_laid_out t) (raw_absent t a b o) from to in
    omega (arith, now, blocks, more)

-- ---- sectors
-- two patches, of a sector of slots and of one of counts
pub pointer_turn : (t : Tables) (slots : List (Option (ℕ × ℕ))) (counts : List ℕ) (p q : Patch) (batch : List Patch) → AreSound t → AreSound (record t { slots = slots; counts = counts })
    → batch ≡ with_patch q (with_patch p []) → (slots_start t.geometry ≤ p.sector) × (p.sector < data_start t.geometry) → (counts_start ≤ q.sector) × (q.sector < bitmap_start t.geometry)
    → ((x : Image) → AreSlots t.slots t.geometry x → AreSlots slots t.geometry (put_at p.sector p.bytes x))
    → ((x : Image) → IsStored t.counts t.geometry x → IsStored counts t.geometry (put_at q.sector q.bytes x))
    → Turns t (record t { slots = slots; counts = counts }) batch
pointer_turn t slots counts p q batch sound now is at to slot count = record {
  sound = now;
  size = refl;
  has = λ z had.
      let mid = put_at p.sector p.bytes z in
      let new = put_at q.sector q.bytes mid in
      let here : overlaid batch z ≡ new = λ i n. laid z n i in
      subst (HasTables (record t { slots = slots; counts = counts })) (sym here) (record {
        header = subst (λ bytes. IsHeaderReading bytes (Ok (record { version = t.version; geometry = t.geometry }))) (sym (others z header_sector (λ e. omega arith) (λ e. omega arith))) had.header;
        live = same_bits t.live t.geometry z new (λ n f u. others z n (λ e. omega arith) (λ e. omega arith)) had.live;
        slots = stored_elsewhere slots t.geometry mid new (λ n f u. put_elsewhere q.sector q.bytes mid n (away q.sector n (λ e. omega arith))) (slot z had.slots);
        counts = count mid (same_counts t.counts t.geometry z mid (λ n f u. put_elsewhere p.sector p.bytes z n (away p.sector n (λ e. omega arith))) had.counts);
        records = same_records t.version t.records z new sound.version (omega (arith, sound.each_record, sound.slots.lawful.primaries.1)) (λ n f u. others z n (λ e. omega arith) (λ e. omega arith)) had.records;
        flag = ap says_open (others z 131 (λ e. omega arith) (λ e. omega arith)) ∙ had.flag;
      });
  contents = λ z n above. laid z n ∙ others z n (λ e. omega arith) (λ e. omega arith);
  gate = λ z. laid z format_gate ∙ others z format_gate (λ e. omega arith) (λ e. omega arith);
}
  where
    laid : (z : Image) (n : ℕ) → overlaid batch z n ≡ put_at q.sector q.bytes (put_at p.sector p.bytes z) n
    laid z n = ap (λ (ps : List Patch). overlaid ps z n) is ∙ overlaid_with_patch q (p ∷ []) z n refl

    others : (z : Image) (n : ℕ) → n ≢ p.sector → n ≢ q.sector → put_at q.sector q.bytes (put_at p.sector p.bytes z) n ≡ z n
    others z n one two = put_elsewhere q.sector q.bytes (put_at p.sector p.bytes z) n (away q.sector n two) ∙ put_elsewhere p.sector p.bytes z n (away p.sector n one)

-- ---- the tables in memory after it
pub record IsAdded (t : Tables) (a b : ℕ) (now : Tables) (batch : List Patch) : Type 0 where
  pub slots : List (Option (ℕ × ℕ))
  pub pairs : pairs_in slots ≡ with_pair (a, b) (pairs_of t)
  pub tables : now ≡ with_slots t slots b
  pub sound : AreSound now
  pub turns : Turns t now batch
  pub few : length batch ≤ 2

pub added : (t : Tables) (h : Header) (old new : Pointers) (oc nc : Counts) (l : LiveMap) (s : Store) (k : Bool) (a b : ℕ) (p q : Patch) (batch : List Patch)
    → AreSound t → IsOpenTo t a b → tables_in h old oc l s k ≡ t → old.geometry ≡ h.geometry → oc.geometry ≡ h.geometry
    → pairs new ≡ with_pair (a, b) (pairs old) → IsTable new → new.geometry ≡ old.geometry → IsSlotSector old p → KeepsStored old new p
    → nc ≡ record oc { counts = slice_set oc.counts b (slice_index oc.counts b + 1) }
    → (counts_start ≤ q.sector) × (q.sector < bitmap_start nc.geometry) → KeepsCounts oc nc q
    → batch ≡ with_patch q (with_patch p []) → IsAdded t a b (tables_in h new nc l s k) batch
added t h old new oc nc l s k a b p q batch sound o is og cg pairs table ng sector keeps raised inside counted laid = record {
  slots = new.slots;
  pairs = more;
  tables = tables;
  sound = subst AreSound (sym tables) now;
  turns = subst (λ (u : Tables). Turns t u batch) (sym tables) turns;
  few = omega (arith, ap (λ (ps : List Patch). length ps) laid, length-with_patch q (with_patch p []), length-with_patch p []);
}
  where
    g : Geometry
    g = t.geometry

    old_size : old.geometry ≡ g
    old_size = og ∙ ap (λ (u : Tables). u.geometry) is

    count_size : oc.geometry ≡ g
    count_size = cg ∙ ap (λ (u : Tables). u.geometry) is

    now_size : nc.geometry ≡ g
    now_size = ap (λ (c : Counts). c.geometry) raised ∙ count_size

    more : pairs_in new.slots ≡ with_pair (a, b) (pairs_of t)
    more = pairs ∙ ap (λ (u : Tables). with_pair (a, b) (pairs_in u.slots)) is

    tables : tables_in h new nc l s k ≡ with_slots t new.slots b
    tables = (λ i. record (tables_in h old oc l s k) { slots = new.slots; counts = (raised i).counts }) ∙ ap (λ (u : Tables). with_slots u new.slots b) is

    now : AreSound (with_slots t new.slots b)
    now = sound_pointer t new.slots a b sound o (subst (λ k. IsTable (record { geometry = k; slots = new.slots })) (ng ∙ old_size) table) more

    slot_put : (x : Image) → AreSlots t.slots g x → AreSlots new.slots g (put_at p.sector p.bytes x)
    slot_put x stored =
        let before : AreSlots old.slots old.geometry x = subst (λ (e : Pointers). AreSlots e.slots e.geometry x) (λ i. record { geometry = sym old_size i; slots = sym (ap (λ (u : Tables). u.slots) is) i }) stored in
        subst (λ k. AreSlots new.slots k (put_at p.sector p.bytes x)) (ng ∙ old_size) (keeps x before)

    count_put : (x : Image) → IsStored t.counts g x → IsStored (slice_set t.counts b (slice_index t.counts b + 1)) g (put_at q.sector q.bytes x)
    count_put x stored =
        let same : oc.counts ≡ t.counts = ap (λ (u : Tables). u.counts) is in
        let before : IsStored oc.counts oc.geometry x = subst (λ (e : Counts). IsStored e.counts e.geometry x) (λ i. record { geometry = sym count_size i; counts = sym same i }) stored in
        let after = counted x before in
        let counts : nc.counts ≡ slice_set t.counts b (slice_index t.counts b + 1) = ap (λ (c : Counts). c.counts) raised ∙ ap (λ (cs : List ℕ). slice_set cs b (slice_index cs b + 1)) same in
        subst (λ (e : Counts). IsStored e.counts e.geometry (put_at q.sector q.bytes x)) (λ i. record { geometry = now_size i; counts = counts i }) after

    turns : Turns t (with_slots t new.slots b) batch
    turns = pointer_turn t new.slots (slice_set t.counts b (slice_index t.counts b + 1)) p q batch sound now laid
        (subst (λ k. (slots_start k ≤ p.sector) × (p.sector < data_start k)) old_size sector.area)
        (subst (λ k. (counts_start ≤ q.sector) × (q.sector < bitmap_start k)) now_size inside) slot_put count_put

-- ---- where nothing is doomed
pub settled_pairs : (t : Tables) → t.is_sweeping ≡ false → owed t ≡ 0 → (blank_of t).pairs ≡ pairs_of t
unfolding world_with
settled_pairs t still none =
    let w = world_with t (zeros_of t) in
    ap (λ (v : World). v.pairs) (blank t still ∙ settle_none w (laid_out t (zeros_of t)) (same_doomed t (zeros_of t) ∙ (none_owed t).0 none))
