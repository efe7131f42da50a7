-- A pointer less.
use Rattle.std.proofs.Common.{◌≡◌, ℕ, ◌-◌, ◌<◌, ◌≤◌, true, false, ◌==◌, inl, inr, Bool, not, List, [], length, sym, ◌∙◌, ap, subst, arith}
use Rattle.volume_laws.proofs.Common.{slice_set, slice_index, cases_eq, and_parts, length-set, get_or-set_same, get_or-set_other, Geometry, is_pair, holds, without_pair, count_to, holds-filter, count-without_pair, source_removed, settle, without_pointer, put_at, counts_start, bitmap_start, slots_start, data_start, Image, Patch, with_patch, pairs, IsTable, MayBeHeld, Pointers, IsSlotSector, KeepsStored, Counts, LiveMap, Store, Header, pairs_in, AreSlots, rising-pairs_in, slot_from_holds, IsStored, KeepsCounts, settle-without_pointer, AreSound, Tables, pairs_of, left_of, world_with, blank_of, tables_in, Turns, graph_in}
use Rattle.std.specs.Prelude.{Option}
use Rattle.volume_laws.proofs.BlockLaws.{length-with_patch}
use Rattle.volume_laws.proofs.TableWorlds.{laid_out, told_held, settled_held}
use Rattle.volume_laws.proofs.Pointed.{pointer_turn, one_at, none_at}

-- ---- tables with a pair less
abbrev pub less_slots : Tables → List (Option (ℕ × ℕ)) → ℕ → Tables
less_slots t slots b = record t { slots = slots; counts = slice_set t.counts b (slice_index t.counts b - 1) }

-- what memory tells says of the raw world
pub record HoldsPair (t : Tables) (a b : ℕ) : Type 0 where
  pub still : t.is_sweeping ≡ false
  pub held : holds (blank_of t).pairs a b ≡ true

pub raw_held : (t : Tables) (a b : ℕ) → HoldsPair t a b → holds (pairs_of t) a b ≡ true
raw_held t a b o = (settled_held (graph_in t) a b (told_held t a b o.still o.held)).0

pub held_within : (t : Tables) (a b : ℕ) → AreSound t → holds (pairs_of t) a b ≡ true → MayBeHeld t.geometry (a, b)
held_within t a b sound o = let found = slot_from_holds t.slots a b o in sound.slots.ends found.0 (a, b) found.2

pub count_some : (t : Tables) (a b : ℕ) → AreSound t → holds (pairs_of t) a b ≡ true → 0 < slice_index t.counts b
count_some t a b sound o =
    let less = source_removed a b (pairs_of t) (rising-pairs_in t.slots) o in
    let count = sound.counted b (held_within t a b sound o).2 in
    omega (arith, less, count)

pub sound_dropped : (t : Tables) (slots : List (Option (ℕ × ℕ))) (a b : ℕ) → AreSound t → holds (pairs_of t) a b ≡ true → IsTable (record { geometry = t.geometry; slots = slots }) → pairs_in slots ≡ without_pair a b (pairs_of t) → AreSound (less_slots t slots b)
sound_dropped t slots a b sound o table pairs = record {
  version = sound.version;
  slots = table;
  each_block = sound.each_block;
  each_count = length-set t.counts b (slice_index t.counts b - 1) ∙ sound.each_count;
  each_record = sound.each_record;
  primaries = sound.primaries;
  ends = λ x y h. sound.ends x y (and_parts (holds (pairs_of t) x y) (not (is_pair a b (x, y))) (sym (holds-filter (λ e. not (is_pair a b e)) (pairs_of t) x y) ∙ (ap (λ es. holds es x y) (sym pairs) ∙ h))).0;
  counted = λ c h.
      let less = count-without_pair (λ e. e.1 == c) (pairs_of t) a b (rising-pairs_in t.slots) o in
      let left = ap (λ es. count_to es c) pairs in
      let was = sound.counted c h in
      let inside : b < length t.counts = let w = (held_within t a b sound o).2 in omega (arith, w, sound.each_count) in
      elim (cases_eq c b) [
        | inl same ↦
            let one = one_at b c same in
            let here : slice_index (slice_set t.counts b (slice_index t.counts b - 1)) c ≡ slice_index t.counts b - 1 = ap (slice_index (slice_set t.counts b (slice_index t.counts b - 1))) same ∙ get_or-set_same t.counts b (slice_index t.counts b - 1) 0 inside in
            let old : slice_index t.counts c ≡ slice_index t.counts b = ap (slice_index t.counts) same in
            omega (arith, less, left, one, here, old, was)
        | inr other ↦
            let none = none_at b c other in
            let here : slice_index (slice_set t.counts b (slice_index t.counts b - 1)) c ≡ slice_index t.counts c = get_or-set_other t.counts b c (slice_index t.counts b - 1) 0 other in
            omega (arith, less, left, none, here, was)
      ];
}

-- ---- worlds
pub left_dropped : (t : Tables) (slots : List (Option (ℕ × ℕ))) (a b : ℕ) (c : ℕ → List ℕ) → HoldsPair t a b → pairs_in slots ≡ without_pair a b (pairs_of t)
    → left_of (less_slots t slots b) (world_with (less_slots t slots b) c) ≡ settle (without_pointer (left_of t (world_with t c)) a b)
unfolding left_of world_with
left_dropped t slots a b c o pairs =
    let w = world_with t c in
    rw o.still ((λ i. settle (record w { pairs = pairs i })) ∙ settle-without_pointer w a b (laid_out t c))

-- ---- the tables in memory after it
pub record IsDropped (t : Tables) (a b : ℕ) (now : Tables) (batch : List Patch) : Type 0 where
  pub slots : List (Option (ℕ × ℕ))
  pub pairs : pairs_in slots ≡ without_pair a b (pairs_of t)
  pub tables : now ≡ less_slots t slots b
  pub sound : AreSound now
  pub turns : Turns t now batch
  pub few : length batch ≤ 2

pub dropped : (t : Tables) (h : Header) (old new : Pointers) (oc nc : Counts) (l : LiveMap) (s : Store) (k : Bool) (a b : ℕ) (p q : Patch) (batch : List Patch)
    → AreSound t → holds (pairs_of t) a b ≡ true → tables_in h old oc l s k ≡ t → old.geometry ≡ h.geometry → oc.geometry ≡ h.geometry
    → pairs new ≡ without_pair a b (pairs old) → IsTable new → new.geometry ≡ old.geometry → IsSlotSector old p → KeepsStored old new p
    → nc ≡ record oc { counts = slice_set oc.counts b (slice_index oc.counts b - 1) }
    → (counts_start ≤ q.sector) × (q.sector < bitmap_start nc.geometry) → KeepsCounts oc nc q
    → batch ≡ with_patch q (with_patch p []) → IsDropped t a b (tables_in h new nc l s k) batch
dropped t h old new oc nc l s k a b p q batch sound o is og cg pairs table ng sector keeps raised inside counted laid = record {
  slots = new.slots;
  pairs = more;
  tables = tables;
  sound = subst AreSound (sym tables) now;
  turns = subst (λ (u : Tables). Turns t u batch) (sym tables) turns;
  few = omega (arith, ap (λ (ps : List Patch). length ps) laid, length-with_patch q (with_patch p []), length-with_patch p []);
}
  where
    g : Geometry
    g = t.geometry

    old_size : old.geometry ≡ g
    old_size = og ∙ ap (λ (u : Tables). u.geometry) is

    count_size : oc.geometry ≡ g
    count_size = cg ∙ ap (λ (u : Tables). u.geometry) is

    now_size : nc.geometry ≡ g
    now_size = ap (λ (c : Counts). c.geometry) raised ∙ count_size

    more : pairs_in new.slots ≡ without_pair a b (pairs_of t)
    more = pairs ∙ ap (λ (u : Tables). without_pair a b (pairs_in u.slots)) is

    tables : tables_in h new nc l s k ≡ less_slots t new.slots b
    tables = (λ i. record (tables_in h old oc l s k) { slots = new.slots; counts = (raised i).counts }) ∙ ap (λ (u : Tables). less_slots u new.slots b) is

    now : AreSound (less_slots t new.slots b)
    now = sound_dropped t new.slots a b sound o (subst (λ k. IsTable (record { geometry = k; slots = new.slots })) (ng ∙ old_size) table) more

    slot_put : (x : Image) → AreSlots t.slots g x → AreSlots new.slots g (put_at p.sector p.bytes x)
    slot_put x stored =
        let before : AreSlots old.slots old.geometry x = subst (λ (e : Pointers). AreSlots e.slots e.geometry x) (λ i. record { geometry = sym old_size i; slots = sym (ap (λ (u : Tables). u.slots) is) i }) stored in
        subst (λ k. AreSlots new.slots k (put_at p.sector p.bytes x)) (ng ∙ old_size) (keeps x before)

    count_put : (x : Image) → IsStored t.counts g x → IsStored (slice_set t.counts b (slice_index t.counts b - 1)) g (put_at q.sector q.bytes x)
    count_put x stored =
        let same : oc.counts ≡ t.counts = ap (λ (u : Tables). u.counts) is in
        let before : IsStored oc.counts oc.geometry x = subst (λ (e : Counts). IsStored e.counts e.geometry x) (λ i. record { geometry = sym count_size i; counts = sym same i }) stored in
        let after = counted x before in
        let counts : nc.counts ≡ slice_set t.counts b (slice_index t.counts b - 1) = ap (λ (c : Counts). c.counts) raised ∙ ap (λ (cs : List ℕ). slice_set cs b (slice_index cs b - 1)) same in
        subst (λ (e : Counts). IsStored e.counts e.geometry (put_at q.sector q.bytes x)) (λ i. record { geometry = now_size i; counts = counts i }) after

    turns : Turns t (less_slots t new.slots b) batch
    turns = pointer_turn t new.slots (slice_set t.counts b (slice_index t.counts b - 1)) p q batch sound now laid
        (subst (λ k. (slots_start k ≤ p.sector) × (p.sector < data_start k)) old_size sector.area)
        (subst (λ k. (counts_start ≤ q.sector) × (q.sector < bitmap_start k)) now_size inside) slot_put count_put
