-- New blocks in tables and in a batch.
use Rattle.std.proofs.Common.{◌≡◌, ◌≢◌, ℕ, ◌+◌, ◌<◌, ◌≤◌, true, false, ◌||◌, ◌==◌, inl, inr, ◌⊎◌, Bool, List, [], ◌∷◌, length, replicate, refl, sym, ◌∙◌, ap, subst, arith}
use Rattle.volume_laws.proofs.Common.{filter, slice_set, slice_index, cases_eq, cases_lt, and_from, and_parts, or_cases, or_parts, both_ways, nat_tests, length-set, get_or-set_same, get_or-set_other, Geometry, block_len, is_pair, holds, with_pair, count_to, holds-with_pair, is_pair_ext, count-with_pair, count_to_most, with_new_blocks, World, has_number, put_at, counts_start, bitmap_start, slots_start, data_start, Image, Patch, overlaid, put_elsewhere, Pointers, pairs, IsTable, KeepsStored, AreSlots, rising-pairs_in, stored_elsewhere, Counts, AreCounts, KeepsCounts, same_counts, LiveMap, AreBits, IsStoredAt, sector_of, same_bits, world_with, Parts, parts_of, with_parts, PartsFit, AreFree, HasRoom, HasNoLost, PartsAreStored, IsGrown}
use Rattle.block_alloc.specs.LiveMap.{is_live}
use Rattle.image_world.proofs.GrowLaws.{block_more}
use Rattle.volume_laws.proofs.Pointed.{one_at, none_at}
use Rattle.volume_laws.proofs.BlockLaws.{away}

-- ---- a free block
-- no pair leads to it, so none from this source
pub free_absent : (g : Geometry) (p : Parts) (a b : ℕ) → PartsFit g p → is_live p.live.live b ≡ false → holds (pairs p.pointers) a b ≡ false
free_absent g p a b fit free = elim (holds (pairs p.pointers) a b) as (λ t. holds (pairs p.pointers) a b ≡ t → t ≡ false) [
  | true ↦ λ e. absurd (both_ways (is_live p.live.live b) free (and_parts (is_live p.live.live a) (is_live p.live.live b) (fit.ends a b e)).1)
  | false ↦ λ e. refl
] refl

-- its count is 0
pub free_count : (g : Geometry) (p : Parts) (b : ℕ) → PartsFit g p → b < g.blocks → is_live p.live.live b ≡ false → slice_index p.counts.counts b ≡ 0
free_count g p b fit inside free =
    let most = count_to_most b 0 (pairs p.pointers) (rising-pairs_in p.pointers.slots) (λ x h. absurd (both_ways (holds (pairs p.pointers) x b) (free_absent g p x b fit free) h)) in
    let count = fit.counted b inside in
    omega (arith, most, count)

-- it isn't primary
pub free_apart : (g : Geometry) (p : Parts) (b : ℕ) → PartsFit g p → is_live p.live.live b ≡ false → g.primaries ≤ b
free_apart g p b fit free = elim (cases_lt b g.primaries) [ inl h ↦ absurd (both_ways (is_live p.live.live b) free (fit.primaries b h)) | inr h ↦ h ]

-- ---- live with a block more
live_more : (live : List Bool) (b x : ℕ) → b < length live → is_live live x ≡ true → is_live (slice_set live b true) x ≡ true
live_more live b x inside was = elim (cases_eq x b) [
  | inl same ↦ ap (is_live (slice_set live b true)) same ∙ get_or-set_same live b true false inside
  | inr other ↦ get_or-set_other live b x true false other ∙ was
]

-- ---- one block more
pub one_grown : (g : Geometry) (a b : ℕ) (op np : Pointers) (oc nc : Counts) (ol nl : LiveMap) (p q r : Patch) (ps qs : List Patch)
    → PartsFit g (parts_of op oc ol) → is_live ol.live a ≡ true → b < g.blocks → is_live ol.live b ≡ false
    → pairs np ≡ with_pair (a, b) (pairs op) → IsTable np → np.geometry ≡ op.geometry → (slots_start op.geometry ≤ p.sector) × (p.sector < data_start op.geometry) → KeepsStored op np p
    → nc ≡ record oc { counts = slice_set oc.counts b (slice_index oc.counts b + 1) }
    → (counts_start ≤ q.sector) × (q.sector < bitmap_start nc.geometry) → KeepsCounts oc nc q
    → nl ≡ record ol { live = slice_set ol.live b true; unhidden = slice_set ol.unhidden b true }
    → r.sector ≡ sector_of nl.geometry b → (bitmap_start nl.geometry ≤ r.sector) × (r.sector < slots_start nl.geometry)
    → ((x : Image) → ((k : ℕ) → k < nl.geometry.blocks → sector_of nl.geometry k ≢ r.sector → IsStoredAt nl.live nl.geometry x k) → AreBits nl.live nl.geometry (put_at r.sector r.bytes x))
    → length qs ≤ length ps + 3
    → ((x : Image) (n : ℕ) → overlaid qs x n ≡ put_at r.sector r.bytes (put_at q.sector q.bytes (put_at p.sector p.bytes (overlaid ps x))) n)
    → IsGrown g a (b ∷ []) (parts_of op oc ol) (parts_of np nc nl) ps qs
one_grown g a b op np oc nc ol nl p q r ps qs fit source inside free more table ng p_at keeps raised q_at counted set r_is r_at bits few laid = record {
  fit = now;
  world = λ t c same zeroed.
      let e : t.geometry.blocks ≡ g.blocks = ap (λ (k : Geometry). k.blocks) same in
      ap (λ (live : List Bool). world_with (record t { live = live; slots = np.slots; counts = nc.counts }) c) live
      ∙ block_more (with_parts t (parts_of op oc ol)) np.slots nc.counts a b c (omega (arith, e, inside)) (omega (arith, e, fit.each_block)) more
      (zeroed b (here b) ∙ ap (λ (k : Geometry). replicate (block_len k) 0) (sym same));
  stored = λ z had. stored z had;
  others = λ z n out. laid z n ∙ three z n (beyond n out);
  few = omega (arith, few);
  full = λ was x below lives apart. full was x below lives apart;
}
  where
    here : (x : ℕ) → has_number (x ∷ []) x ≡ true
    here x = grind (arith, nat_tests)

    count_size : nc.geometry ≡ g
    count_size = ap (λ (k : Counts). k.geometry) raised ∙ fit.counts

    live_size : nl.geometry ≡ g
    live_size = ap (λ (k : LiveMap). k.geometry) set ∙ fit.live

    live : nl.live ≡ slice_set ol.live b true
    live = ap (λ (k : LiveMap). k.live) set

    counts : nc.counts ≡ slice_set oc.counts b (slice_index oc.counts b + 1)
    counts = ap (λ (k : Counts). k.counts) raised

    p_area : (slots_start g ≤ p.sector) × (p.sector < data_start g)
    p_area = subst (λ k. (slots_start k ≤ p.sector) × (p.sector < data_start k)) fit.pointers p_at

    q_area : (counts_start ≤ q.sector) × (q.sector < bitmap_start g)
    q_area = subst (λ k. (counts_start ≤ q.sector) × (q.sector < bitmap_start k)) count_size q_at

    r_area : (bitmap_start g ≤ r.sector) × (r.sector < slots_start g)
    r_area = subst (λ k. (bitmap_start k ≤ r.sector) × (r.sector < slots_start k)) live_size r_at

    within : b < length ol.live
    within = omega (arith, inside, fit.each_block)

    within_counts : b < length oc.counts
    within_counts = omega (arith, inside, fit.each_count)

    new_live : (x : ℕ) → is_live ol.live x ≡ true → is_live nl.live x ≡ true
    new_live x was = ap (λ (l : List Bool). is_live l x) live ∙ live_more ol.live b x within was

    now : PartsFit g (parts_of np nc nl)
    now = record {
      pointers = ng ∙ fit.pointers;
      counts = count_size;
      live = live_size;
      table = table;
      each_block = ap (λ (l : List Bool). length l) live ∙ (length-set ol.live b true ∙ fit.each_block);
      each_count = ap (λ (l : List ℕ). length l) counts ∙ (length-set oc.counts b (slice_index oc.counts b + 1) ∙ fit.each_count);
      primaries = λ x h. new_live x (fit.primaries x h);
      ends = λ x y h. elim (or_cases (is_pair x y (a, b)) (holds (pairs op) x y) (sym (holds-with_pair (a, b) (pairs op) x y) ∙ (ap (λ es. holds es x y) (sym more) ∙ h))) [
        | inl is ↦
            let e = is_pair_ext x y (a, b) is in
            let one : a ≡ x = ap (λ (f : ℕ × ℕ). f.0) e in
            let two : b ≡ y = ap (λ (f : ℕ × ℕ). f.1) e in
            let to : is_live nl.live b ≡ true = ap (λ (l : List Bool). is_live l b) live ∙ get_or-set_same ol.live b true false within in
            and_from (is_live nl.live x) (is_live nl.live y) (ap (is_live nl.live) (sym one) ∙ new_live a source) (ap (is_live nl.live) (sym two) ∙ to)
        | inr held ↦
            let was = and_parts (is_live ol.live x) (is_live ol.live y) (fit.ends x y held) in
            and_from (is_live nl.live x) (is_live nl.live y) (new_live x was.0) (new_live y was.1)
      ];
      counted = λ c h.
          let to = ap (λ es. count_to es c) more ∙ count-with_pair (λ e. e.1 == c) (a, b) (pairs op) (free_absent g (parts_of op oc ol) a b fit free) in
          let was = fit.counted c h in
          let same = ap (λ (l : List ℕ). slice_index l c) counts in
          elim (cases_eq c b) [
            | inl eq ↦
                let one = one_at b c eq in
                let there : slice_index (slice_set oc.counts b (slice_index oc.counts b + 1)) c ≡ slice_index oc.counts b + 1 = ap (slice_index (slice_set oc.counts b (slice_index oc.counts b + 1))) eq ∙ get_or-set_same oc.counts b (slice_index oc.counts b + 1) 0 within_counts in
                let old : slice_index oc.counts c ≡ slice_index oc.counts b = ap (slice_index oc.counts) eq in
                omega (arith, to, one, there, old, was, same)
            | inr other ↦
                let none = none_at b c other in
                let there : slice_index (slice_set oc.counts b (slice_index oc.counts b + 1)) c ≡ slice_index oc.counts c = get_or-set_other oc.counts b c (slice_index oc.counts b + 1) 0 other in
                omega (arith, to, none, there, was, same)
          ];
    }

    full : HasNoLost g (parts_of op oc ol) → (x : ℕ) → x < g.blocks → is_live nl.live x ≡ true → g.primaries ≤ x → 1 ≤ slice_index nc.counts x
    full was x below lives apart =
        let same = ap (λ (l : List ℕ). slice_index l x) counts in
        elim (cases_eq x b) [
          | inl eq ↦
              let there : slice_index (slice_set oc.counts b (slice_index oc.counts b + 1)) x ≡ slice_index oc.counts b + 1 = ap (slice_index (slice_set oc.counts b (slice_index oc.counts b + 1))) eq ∙ get_or-set_same oc.counts b (slice_index oc.counts b + 1) 0 within_counts in
              omega (arith, there, same)
          | inr other ↦
              let there : slice_index (slice_set oc.counts b (slice_index oc.counts b + 1)) x ≡ slice_index oc.counts x = get_or-set_other oc.counts b x (slice_index oc.counts b + 1) 0 other in
              let lived : is_live ol.live x ≡ true = sym (get_or-set_other ol.live b x true false other) ∙ (ap (λ (l : List Bool). is_live l x) (sym live) ∙ lives) in
              let had = was x below lived apart in
              omega (arith, there, same, had)
        ]

    beyond : (n : ℕ) → (n < counts_start) ⊎ (data_start g ≤ n) → (n ≢ p.sector) × (n ≢ q.sector) × (n ≢ r.sector)
    beyond n (inl low) = (λ e. omega (arith, p_area.0, p_area.1, q_area.0, q_area.1, r_area.0, r_area.1), λ e. omega (arith, p_area.0, p_area.1, q_area.0, q_area.1, r_area.0, r_area.1), λ e. omega (arith, p_area.0, p_area.1, q_area.0, q_area.1, r_area.0, r_area.1))
    beyond n (inr high) = (λ e. omega (arith, p_area.0, p_area.1, q_area.0, q_area.1, r_area.0, r_area.1), λ e. omega (arith, p_area.0, p_area.1, q_area.0, q_area.1, r_area.0, r_area.1), λ e. omega (arith, p_area.0, p_area.1, q_area.0, q_area.1, r_area.0, r_area.1))

    three : (z : Image) (n : ℕ) → (n ≢ p.sector) × (n ≢ q.sector) × (n ≢ r.sector) → put_at r.sector r.bytes (put_at q.sector q.bytes (put_at p.sector p.bytes (overlaid ps z))) n ≡ overlaid ps z n
    three z n out =
        put_elsewhere r.sector r.bytes (put_at q.sector q.bytes (put_at p.sector p.bytes (overlaid ps z))) n (away r.sector n out.2)
        ∙ (put_elsewhere q.sector q.bytes (put_at p.sector p.bytes (overlaid ps z)) n (away q.sector n out.1) ∙ put_elsewhere p.sector p.bytes (overlaid ps z) n (away p.sector n out.0))

    stored : (z : Image) → PartsAreStored g (parts_of op oc ol) (overlaid ps z) → PartsAreStored g (parts_of np nc nl) (overlaid qs z)
    stored z had =
        let x0 = overlaid ps z in
        let x1 = put_at p.sector p.bytes x0 in
        let x2 = put_at q.sector q.bytes x1 in
        let x3 = put_at r.sector r.bytes x2 in
        let is : overlaid qs z ≡ x3 = λ i n. laid z n i in
        let slots1 : AreSlots np.slots g x1 = subst (λ k. AreSlots np.slots k x1) (ng ∙ fit.pointers) (keeps x0 (subst (λ k. AreSlots op.slots k x0) (sym fit.pointers) had.slots)) in
        let slots3 : AreSlots np.slots g x3 = stored_elsewhere np.slots g x1 x3 (λ n f u. put_elsewhere r.sector r.bytes x2 n (away r.sector n (λ e. omega (arith, p_area.0, p_area.1, q_area.0, q_area.1, r_area.0, r_area.1))) ∙ put_elsewhere q.sector q.bytes x1 n (away q.sector n (λ e. omega (arith, p_area.0, p_area.1, q_area.0, q_area.1, r_area.0, r_area.1)))) slots1 in
        let counts1 : AreCounts oc.counts g x1 = same_counts oc.counts g x0 x1 (λ n f u. put_elsewhere p.sector p.bytes x0 n (away p.sector n (λ e. omega (arith, p_area.0, p_area.1, q_area.0, q_area.1, r_area.0, r_area.1)))) had.counts in
        let counts2 : AreCounts nc.counts g x2 = subst (λ k. AreCounts nc.counts k x2) count_size (counted x1 (subst (λ k. AreCounts oc.counts k x1) (sym fit.counts) counts1)) in
        let counts3 : AreCounts nc.counts g x3 = same_counts nc.counts g x2 x3 (λ n f u. put_elsewhere r.sector r.bytes x2 n (away r.sector n (λ e. omega (arith, p_area.0, p_area.1, q_area.0, q_area.1, r_area.0, r_area.1)))) counts2 in
        let live2 : AreBits ol.live g x2 = same_bits ol.live g x0 x2 (λ n f u. put_elsewhere q.sector q.bytes x1 n (away q.sector n (λ e. omega (arith, p_area.0, p_area.1, q_area.0, q_area.1, r_area.0, r_area.1))) ∙ put_elsewhere p.sector p.bytes x0 n (away p.sector n (λ e. omega (arith, p_area.0, p_area.1, q_area.0, q_area.1, r_area.0, r_area.1)))) had.live in
        let live3 : AreBits nl.live g x3 = subst (λ k. AreBits nl.live k x3) live_size (bits x2 (λ k h other. kept x2 live2 k h other)) in
        subst (PartsAreStored g (parts_of np nc nl)) (sym is) (record { slots = slots3; counts = counts3; live = live3 })
      where
        kept : (x : Image) → AreBits ol.live g x → (k : ℕ) → k < nl.geometry.blocks → sector_of nl.geometry k ≢ r.sector → IsStoredAt nl.live nl.geometry x k
        kept x was k h other =
            let apart : k ≢ b = λ e. other (ap (sector_of nl.geometry) e ∙ sym r_is) in
            let below : k < g.blocks = omega (arith, h, ap (λ (s : Geometry). s.blocks) live_size) in
            let there : is_live nl.live k ≡ is_live ol.live k = ap (λ (l : List Bool). is_live l k) live ∙ get_or-set_other ol.live b k true false apart in
            subst (λ s. IsStoredAt nl.live s x k) (sym live_size) (was k below ∙ sym there)

-- ---- one after another
pub grown_none : (g : Geometry) (a : ℕ) (p : Parts) (ps : List Patch) → PartsFit g p → IsGrown g a [] p p ps ps
grown_none g a p ps fit = record {
  fit = fit;
  world = λ t c same zeroed. refl;
  stored = λ z had. had;
  others = λ z n out. refl;
  few = omega arith;
  full = λ was. was;
}

pub grown_more : (g : Geometry) (a b : ℕ) (bs : List ℕ) (p q r : Parts) (ps qs rs : List Patch) → IsGrown g a (b ∷ []) p q ps qs → IsGrown g a bs q r qs rs → IsGrown g a (b ∷ bs) p r ps rs
grown_more g a b bs p q r ps qs rs one more = record {
  fit = more.fit;
  world = λ t c same zeroed. more.world t c same (λ x h. zeroed x (later x h)) ∙ ap (λ (w : World). with_new_blocks w a bs) (one.world t c same (λ x h. zeroed x (first x h)));
  stored = λ z had. more.stored z (one.stored z had);
  others = λ z n out. more.others z n out ∙ one.others z n out;
  few = omega (arith, one.few, more.few);
  full = λ was. more.full (one.full was);
}
  where
    later : (x : ℕ) → has_number bs x ≡ true → has_number (b ∷ bs) x ≡ true
    later x h = elim (b == x) as (λ t. (t || has_number bs x) ≡ true) [ true ↦ refl | false ↦ h ]

    first : (x : ℕ) → has_number (b ∷ []) x ≡ true → has_number (b ∷ bs) x ≡ true
    first x h = elim (or_cases (b == x) false h) [ inl e ↦ let e2 : (b == x) ≡ true = e in rw e2 refl | inr e ↦ absurd (cc) ]

-- the others stay free
still_free : (live : List Bool) (n b : ℕ) (bs : List ℕ) → has_number bs b ≡ false → AreFree live n bs → AreFree (slice_set live b true) n bs
still_free live n b [] out free = tt
still_free live n b (x ∷ xs) out free =
    let parts = or_parts (x == b) (has_number xs b) out in
    let other : x ≢ b = apart x b parts.0 in
    (free.0, get_or-set_other live b x true false other ∙ free.1, free.2, still_free live n b xs parts.1 free.3)
  where
    apart : (m k : ℕ) → (m == k) ≡ false → m ≢ k
    apart m k e same = grind (arith, nat_tests)

pub room_more : (g : Geometry) (a b : ℕ) (bs : List ℕ) (p q : Parts) → HasRoom g p a (b ∷ bs) → length p.live.live ≡ g.blocks → q.live ≡ record p.live { live = slice_set p.live.live b true; unhidden = slice_set p.live.unhidden b true } → length (pairs q.pointers) ≡ length (pairs p.pointers) + 1 → HasRoom g q a bs
room_more g a b bs p q has long live pairs_more =
    let same : q.live.live ≡ slice_set p.live.live b true = ap (λ (m : LiveMap). m.live) live in
    let free = has.free in
    record {
      source = ap (λ (l : List Bool). is_live l a) same ∙ live_more p.live.live b a (omega (arith, long, free.0)) has.source;
      free = subst (λ l. AreFree l g.blocks bs) (sym same) (still_free p.live.live g.blocks b bs free.2 free.3);
      room = omega (arith, has.room, pairs_more);
    }

pub one_pair_more : (a b : ℕ) (op np : Pointers) → holds (pairs op) a b ≡ false → pairs np ≡ with_pair (a, b) (pairs op) → length (pairs np) ≡ length (pairs op) + 1
one_pair_more a b op np absent more = ap (λ (es : List (ℕ × ℕ)). length es) more ∙ one_longer
  where
    all : (es : List (ℕ × ℕ)) → filter (λ (e : ℕ × ℕ). true) es ≡ es
    all [] = refl
    all (e ∷ es) = ap (λ (fs : List (ℕ × ℕ)). e ∷ fs) (all es)

    one_longer : length (with_pair (a, b) (pairs op)) ≡ length (pairs op) + 1
    one_longer = ap (λ (es : List (ℕ × ℕ)). length es) (sym (all (with_pair (a, b) (pairs op)))) ∙ (count-with_pair (λ (e : ℕ × ℕ). true) (a, b) (pairs op) absent ∙ (ap (λ (es : List (ℕ × ℕ)). 1 + length es) (all (pairs op)) ∙ omega arith))
