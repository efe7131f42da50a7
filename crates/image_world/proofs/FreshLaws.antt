-- A disk that was formatted stands for a fresh world.
use Rattle.std.proofs.Common.{◌⊎◌, ◌≡◌, ℕ, zero, suc, ◌+◌, ◌-◌, ◌*◌, ◌<◌, ◌≤◌, true, false, inl, inr, Bool, cond, not, ◌&&◌, nat_lt, List, [], ◌∷◌, ◌++◌, length, length-append, replicate, refl, sym, ◌∙◌, ap, subst, arith}
use Rattle.std.proofs.Common.{Option, Some, None}
use Rattle.image_world.proofs.Common.{map, filter, is_some, slice_index_or, range_with_len, cases_lt, cases_Bool, nat_tests, length-replicate, length-map, get_or_append_left, get_or-append_right, get_or-replicate, get_or_past, ext_get_or, replicate-append-replicate, length-map-range_with_len, get_or-map-range_with_len, Geometry, CapPair, IsLawful, block_len, count_to, holds, kept, fresh_world, World, contents, is_live, is_primary, all_blocks, has_number, blocks_that, restricted, is_led_only_from, hangs_on, doomed_round, doomed_rounds, settle, zeros, Image, says_open, sector_bytes, data_bytes, data_sector, home, open_records, is_marked_in, IsFormatGateOpen, HasJournal, slots_start, no_pairs, empty_sector, empty_table, written_slots, fresh_at, fresh_map, written_bits, HasTables, AreSound, Tables, tables_of, world_with, left_of, world_of, Stands}
use Rattle.intent_journal.proofs.Opened.{opened_none, home_of_empty}
use Rattle.pointer_table.specs.Fresh.{fresh_slots}
use Rattle.ref_counts.proofs.Written.{fresh as zero_counts}
use Rattle.block_alloc.specs.Fresh.{fresh_live}
use Rattle.image_world.specs.Fresh.{fresh_tables, IsWrittenFresh, AreFreshSectors}
use Rattle.image_world.proofs.AlikeLaws.{same_contents}
use Rattle.image_world.proofs.SoundLaws.{has_one, tables_good}

-- ---- the tables
none_at : {X : Type 0} (n k : ℕ) (d : X) → slice_index_or (replicate n d) k d ≡ d
none_at n k d = elim (cases_lt k n) [
  | inl h ↦ get_or-replicate n k d d h
  | inr h ↦ get_or_past (replicate n d) k d (omega (arith, length-replicate n d))
]

marks_first : (g : Geometry) (b : ℕ) → b < g.primaries → is_marked_in (fresh_live g) b ≡ true
marks_first g b h = fresh_at g b ∙ grind (arith, nat_tests)

marks_rest : (g : Geometry) (b : ℕ) → g.primaries ≤ b → is_marked_in (fresh_live g) b ≡ false
marks_rest g b h = fresh_at g b ∙ grind (arith, nat_tests)

pub fresh_sound : (g : Geometry) (caps : List CapPair) → IsLawful g → length caps ≡ g.primaries → AreSound (fresh_tables g caps)
fresh_sound g caps lawful each = record {
  version = inl refl;
  slots = empty_table g lawful;
  each_block = (fresh_map g lawful).each_block;
  each_count = length-replicate g.blocks 0;
  each_record = length-map caps (kept 1) ∙ each;
  primaries = marks_first g;
  ends = λ a b h. absurd (let none = ap (λ es. holds es a b) (no_pairs g) in cc);
  counted = λ b h. none_at g.blocks b 0 ∙ ap (λ (es : List (ℕ × ℕ)). count_to es b) (sym (no_pairs g));
}

-- ---- the bytes
pub zero_bytes : (x : Image) (first k : ℕ) → ((i : ℕ) → i < k → x (first + i) ≡ zeros) → sector_bytes x first k ≡ replicate (512 * k) 0
zero_bytes x first zero same = refl
zero_bytes x first (suc k) same =
    let here : x first ≡ zeros = ap x (omega arith) ∙ same 0 (omega arith) in
    let rest = zero_bytes x (first + 1) k (λ i h. ap x (omega arith) ∙ same (i + 1) (omega arith)) in
    let all : replicate 512 0 ++ replicate (512 * k) 0 ≡ replicate (512 * suc k) 0 = replicate-append-replicate 512 (512 * k) 0 ∙ ap (λ (n : ℕ). replicate n 0) (omega arith) in
    (λ i. here i ++ rest i) ∙ all

-- ---- the world
fresh_blocks : (g : Geometry) → IsLawful g → (bytes : List ℕ)
    → map (λ b. cond (is_marked_in (fresh_live g) b) (Some bytes) None) (range_with_len 0 g.blocks) ≡ replicate g.primaries (Some bytes) ++ replicate (g.blocks - g.primaries) None
fresh_blocks g lawful bytes = ext_get_or None made wanted (long ∙ sym size) each
  where
    made : List (Option (List ℕ))
    made = map (λ b. cond (is_marked_in (fresh_live g) b) (Some bytes) None) (range_with_len 0 g.blocks)

    wanted : List (Option (List ℕ))
    wanted = replicate g.primaries (Some bytes) ++ replicate (g.blocks - g.primaries) None

    long : length made ≡ g.blocks
    long = length-map-range_with_len (λ b. cond (is_marked_in (fresh_live g) b) (Some bytes) None) 0 g.blocks

    size : length wanted ≡ g.blocks
    size = length-append (replicate g.primaries (Some bytes)) (replicate (g.blocks - g.primaries) None) ∙ (let p = length-replicate g.primaries (Some bytes) in let r = length-replicate {A = Option (List ℕ)} (g.blocks - g.primaries) None in let most = lawful.primaries.2 in omega (arith, p, r, most))

    each : (b : ℕ) → b < length made → slice_index_or made b None ≡ slice_index_or wanted b None
    each b h =
        let here = get_or-map-range_with_len (λ c. cond (is_marked_in (fresh_live g) c) (Some bytes) None) 0 g.blocks b b None (omega (arith, long)) (omega arith) in
        elim (cases_lt b g.primaries) [
          | inl low ↦ here ∙ (ap (λ t. cond t (Some bytes) None) (marks_first g b low)
              ∙ sym (get_or_append_left (replicate g.primaries (Some bytes)) (replicate (g.blocks - g.primaries) None) None b (omega (arith, length-replicate g.primaries (Some bytes))) ∙ get_or-replicate g.primaries b (Some bytes) None low))
          | inr high ↦ here ∙ (ap (λ t. cond t (Some bytes) None) (marks_rest g b high)
              ∙ sym (get_or-append_right (replicate g.primaries (Some bytes)) (replicate (g.blocks - g.primaries) None) g.primaries b None (length-replicate g.primaries (Some bytes)) high ∙ none_at {X = Option (List ℕ)} (g.blocks - g.primaries) (b - g.primaries) None))
        ]

pub fresh_with : (g : Geometry) (caps : List CapPair) → IsLawful g → world_with (fresh_tables g caps) (λ b. replicate (block_len g) 0) ≡ fresh_world g caps
unfolding world_with
fresh_with g caps lawful = λ i. record (fresh_world g caps) { blocks = fresh_blocks g lawful (replicate (block_len g) 0) i; pairs = no_pairs g i }

-- ---- nothing is lost
no_round : (w : World) (gone : List ℕ) → ((b : ℕ) → is_live w b ≡ true → is_primary w b ≡ true) → doomed_round w gone ≡ []
no_round w gone first = none (all_blocks w)
  where
    never : (live primary led : Bool) → (live ≡ true → primary ≡ true) → ((live && not primary) && led) ≡ false
    never true primary led h = let e = h refl in rw e refl
    never false primary led h = refl

    none : (bs : List ℕ) → filter (hangs_on w gone) bs ≡ []
    none [] = refl
    none (b ∷ bs) = let e : hangs_on w gone b ≡ false = never (is_live w b) (is_primary w b) (is_led_only_from w gone b) (first b) in rw e (none bs)

no_doomed : (w : World) (r : ℕ) → ((b : ℕ) → is_live w b ≡ true → is_primary w b ≡ true) → doomed_rounds w r ≡ []
no_doomed w zero first = refl
no_doomed w (suc r) first = no_round w (doomed_rounds w r) first

keeps : (w : World) → restricted w (λ b. true) ≡ w
keeps w = λ i. record w { blocks = blocks i; pairs = all w.pairs i }
  where
    all : (es : List (ℕ × ℕ)) → filter (λ e. true) es ≡ es
    all [] = refl
    all (e ∷ es) = ap (λ (fs : List (ℕ × ℕ)). e ∷ fs) (all es)

    blocks : blocks_that w (λ b. true) ≡ w.blocks
    blocks = ext_get_or None (blocks_that w (λ b. true)) w.blocks (length-map-range_with_len (contents w) 0 (length w.blocks))
        (λ b h. get_or-map-range_with_len (contents w) 0 (length w.blocks) b b None (omega (arith, length-map-range_with_len (contents w) 0 (length w.blocks))) (omega arith))

pub settle_all : (w : World) → ((b : ℕ) → is_live w b ≡ true → is_primary w b ≡ true) → settle w ≡ w
settle_all w first = ap (λ gone. restricted w (λ b. not (has_number gone b))) (no_doomed w w.geometry.blocks first) ∙ keeps w

primary_if : (g : Geometry) (bytes : List ℕ) (b : ℕ) → is_some (slice_index_or (replicate g.primaries (Some bytes) ++ replicate (g.blocks - g.primaries) None) b None) ≡ true → nat_lt b g.primaries ≡ true
primary_if g bytes b live = elim (cases_lt b g.primaries) [
  | inl low ↦ grind (arith, nat_tests)
  | inr high ↦
      let none = get_or-append_right (replicate g.primaries (Some bytes)) (replicate (g.blocks - g.primaries) None) g.primaries b None (length-replicate g.primaries (Some bytes)) high ∙ none_at {X = Option (List ℕ)} (g.blocks - g.primaries) (b - g.primaries) None in
      absurd (let e : is_some (slice_index_or (replicate g.primaries (Some bytes) ++ replicate (g.blocks - g.primaries) None) b None) ≡ false = ap is_some none in cc)
]

-- ---- images
pub fresh_stands : (g : Geometry) (caps : List CapPair) (x : Image) → IsLawful g → length caps ≡ g.primaries → IsWrittenFresh g caps x → IsFormatGateOpen x → Stands x (fresh_world g caps)
unfolding world_of left_of
fresh_stands g caps x lawful each fresh formatted = record {
  good = tables_good t x formatted none.1 sound had;
  world = sym ((λ i. left_of (here i) (world_with (here i) (λ b. data_bytes (home x) (here i).geometry b))) ∙ (ap settle bytes ∙ settle_all (fresh_world g caps) (primary_if g (replicate (block_len g) 0))));
}
  where
    t : Tables
    t = fresh_tables g caps

    none : (open_records x ≡ []) × (HasJournal x)
    none = opened_none x (fresh.closed 0 (omega arith))

    at : home x ≡ x
    at = home_of_empty x none.0

    sound : AreSound t
    sound = fresh_sound g caps lawful each

    had : HasTables t (home x)
    had = subst (HasTables t) (sym at) fresh.tables

    here : tables_of (home x) ≡ t
    here = has_one t (home x) sound had

    bytes : world_with t (λ b. data_bytes (home x) g b) ≡ fresh_world g caps
    bytes =
        same_contents t (λ b. data_bytes (home x) g b) (λ b. replicate (block_len g) 0) zeroed ∙ fresh_with g caps lawful
      where
        zeroed : (b : ℕ) → b < g.blocks → is_marked_in (fresh_live g) b ≡ true → data_bytes (home x) g b ≡ replicate (block_len g) 0
        zeroed b inside live = elim (cases_lt b g.primaries) [
          | inl low ↦ zero_bytes (home x) (data_sector g b 0) g.sectors (λ i h. (λ j. at j (data_sector g b 0 + i)) ∙ (ap x (omega arith) ∙ fresh.zeroed b i low h))
          | inr high ↦ absurd (let e = marks_rest g b high in cc)
        ]

-- a torn format gate
pub torn_gate : (g : Geometry) (caps : List CapPair) (x : Image) → IsLawful g → length caps ≡ g.primaries → IsWrittenFresh g caps x → (says_open (x 1) ≡ false) ⊎ Stands x (fresh_world g caps)
torn_gate g caps x lawful each fresh = elim (cases_Bool (says_open (x 1))) [
  | inl e ↦ inr (fresh_stands g caps x lawful each fresh e)
  | inr e ↦ inl e
]

-- ---- the sectors as they are written
pub fresh_sectors : (g : Geometry) (caps : List CapPair) (x : Image) → IsLawful g → AreFreshSectors g caps x → HasTables (fresh_tables g caps) x
fresh_sectors g caps x lawful fresh = record {
  header = fresh.header;
  live = written_bits (fresh_live g) g x fresh.bits;
  slots = written_slots (record { geometry = g; slots = fresh_slots g }) x (empty_table g lawful) (λ part h. fresh.slots (slots_start g + part) (omega arith) h ∙ sym (empty_sector g part));
  counts = zero_counts g x fresh.counts;
  records = fresh.kept;
  flag = fresh.flag;
}
