-- Tables with new blocks, where nothing is doomed.
use Rattle.std.proofs.Common.{◌≡◌, ℕ, ◌*◌, ◌<◌, ◌≤◌, true, false, inl, inr, List, [], length, replicate, refl, sym, ◌∙◌, ap, subst, arith, Ok}
use Rattle.volume_laws.proofs.Common.{Geometry, block_len, holds, World, has_number, doomed, with_new_blocks, header_sector, format_gate, IsHeaderReading, says_open, Patch, overlaid, pairs, IsTable, rising-pairs_in, is_marked_in, same_records, HasTables, AreSound, Tables, pairs_of, left_of, world_with, zeros_of, live_below, no_record, led_or_alone, none_is_led, led_has_none, settle_none, live-graph, source_removed, graph_in, owed, live_with, blocks_with, Parts, with_parts, PartsFit, HasNoLost, IsGrown, Turns}
use Rattle.graph_laws.proofs.LostLaws.{alone_count}
use Rattle.volume_laws.proofs.TableWorlds.{laid_out, graph_laid_out, same_doomed, none_owed}

-- ---- nothing is doomed
pub full_of_settled : (t : Tables) (p : Parts) → with_parts t p ≡ t → PartsFit t.geometry p → owed t ≡ 0 → HasNoLost t.geometry p
full_of_settled t p same fit none = λ b inside live apart.
    let led = none_is_led (graph_in t) (graph_laid_out t).each_block ((none_owed t).0 none) b apart
    (live-graph t.geometry t.live (pairs_of t) (ap (λ (u : Tables). length u.live) (sym same) ∙ fit.each_block) b ∙ (ap (λ (u : Tables). is_marked_in u.live b) (sym same) ∙ live)) in
    let held : holds (pairs p.pointers) led.0 b ≡ true = ap (λ (u : Tables). holds (pairs_of u) led.0 b) same ∙ led.1 in
    let one = source_removed led.0 b (pairs p.pointers) (rising-pairs_in p.pointers.slots) held in
    let count = fit.counted b inside in
    omega (arith, one, count)

pub none_doomed : (t : Tables) (p : Parts) (c : ℕ → List ℕ) → PartsFit t.geometry p → HasNoLost t.geometry p → doomed (world_with (with_parts t p) c) ≡ []
unfolding world_with
none_doomed t p c fit full =
    let u = with_parts t p in
    let w = world_with u c in
    led_has_none w (λ b apart live.
    let inside : b < t.geometry.blocks = let below = live_below w.blocks b live in omega (arith, below, blocks_with u c) in
    let some = full b inside (sym (live_with u c b inside) ∙ live) apart in
    let count = fit.counted b inside in
    elim (led_or_alone (pairs p.pointers) b) [
      | inl led ↦ led
      | inr alone ↦ absurd (let none = alone_count (pairs p.pointers) b alone in omega (arith, some, count, none))
    ])

pub left_whole : (t : Tables) (p : Parts) (c : ℕ → List ℕ) → t.is_sweeping ≡ false → PartsFit t.geometry p → HasNoLost t.geometry p → left_of (with_parts t p) (world_with (with_parts t p) c) ≡ world_with (with_parts t p) c
unfolding left_of world_with
left_whole t p c still fit full = rw still (settle_none (world_with (with_parts t p) c) (laid_out (with_parts t p) c) (none_doomed t p c fit full))

pub owed_none : (t : Tables) (p : Parts) → PartsFit t.geometry p → HasNoLost t.geometry p → owed (with_parts t p) ≡ 0
owed_none t p fit full =
    let u = with_parts t p in
    (none_owed u).1 (sym (same_doomed u (zeros_of u)) ∙ none_doomed t p (zeros_of u) fit full)

-- ---- tables
pub sound_parts : (t : Tables) (p : Parts) → AreSound t → PartsFit t.geometry p → AreSound (with_parts t p)
sound_parts t p sound fit = record {
  version = sound.version;
  slots = subst (λ k. IsTable (record { geometry = k; slots = p.pointers.slots })) fit.pointers fit.table;
  each_block = fit.each_block;
  each_count = fit.each_count;
  each_record = sound.each_record;
  primaries = fit.primaries;
  ends = fit.ends;
  counted = fit.counted;
}

-- and tables that are sound have parts that fit
pub fits : (g h : Geometry) → g ≡ h → (t : Tables) (p : Parts) → t.geometry ≡ g → with_parts t p ≡ t → AreSound t → p.pointers.geometry ≡ g → p.counts.geometry ≡ g → p.live.geometry ≡ g → PartsFit h p
fits g h is t p size same sound pg cg lg = subst (λ k. PartsFit k p) is (subst (λ k. PartsFit k p) size (record {
  pointers = pg ∙ sym size;
  counts = cg ∙ sym size;
  live = lg ∙ sym size;
  table = subst (λ k. IsTable (record { geometry = k; slots = p.pointers.slots })) (sym (pg ∙ sym size)) was.slots;
  each_block = was.each_block;
  each_count = was.each_count;
  primaries = was.primaries;
  ends = was.ends;
  counted = was.counted;
}))
  where
    was : AreSound (with_parts t p)
    was = subst AreSound (sym same) sound

-- zeros in these blocks
abbrev pub has_zeros : Tables → List ℕ → (ℕ → List ℕ) → Type 0
has_zeros t bs c = (b : ℕ) → has_number bs b ≡ true → c b ≡ replicate (block_len t.geometry) 0

pub record IsMade (t : Tables) (a : ℕ) (bs : List ℕ) (now : Tables) (batch : List Patch) : Type 0 where
  pub turns : Turns t now batch
  pub world : (c : ℕ → List ℕ) → has_zeros t bs c → left_of now (world_with now c) ≡ with_new_blocks (left_of t (world_with t c)) a bs
  pub few : length batch ≤ 3 * length bs
  pub settled : owed now ≡ 0
  pub graph : graph_in now ≡ with_new_blocks (graph_in t) a bs

-- the graph is that of the tables with its version and its records
blank_graph : (t : Tables) (p q : Parts) (a : ℕ) (bs : List ℕ) (batch : List Patch) → IsGrown t.geometry a bs p q [] batch → graph_in (with_parts t q) ≡ with_new_blocks (graph_in (with_parts t p)) a bs
unfolding world_with
blank_graph t p q a bs batch is =
    let told : Tables = record t { version = 2; records = replicate t.geometry.primaries no_record } in
    is.world told (zeros_of told) refl (λ b h. refl)

pub made : (t : Tables) (p q : Parts) (a : ℕ) (bs : List ℕ) (batch : List Patch) → AreSound t → t.is_sweeping ≡ false → owed t ≡ 0 → with_parts t p ≡ t → PartsFit t.geometry p → IsGrown t.geometry a bs p q [] batch → IsMade t a bs (with_parts t q) batch
made t p q a bs batch sound still none same fit grown = record {
  turns = record {
    sound = now;
    size = refl;
    has = λ z had.
        let was : HasTables (with_parts t p) z = subst (λ (u : Tables). HasTables u z) (sym same) had in
        let stored = grown.stored z (record { slots = was.slots; counts = was.counts; live = was.live }) in
        record {
          header = subst (λ bytes. IsHeaderReading bytes (Ok (record { version = t.version; geometry = t.geometry }))) (sym (grown.others z header_sector (inl (omega arith)))) had.header;
          live = stored.live;
          slots = stored.slots;
          counts = stored.counts;
          records = same_records t.version t.records z (overlaid batch z) sound.version (omega (arith, sound.each_record, sound.slots.lawful.primaries.1)) (λ n f u. grown.others z n (inl (omega arith))) had.records;
          flag = ap says_open (grown.others z 131 (inl (omega arith))) ∙ had.flag;
        };
    contents = λ z n above. grown.others z n (inr above);
    gate = λ z. grown.others z format_gate (inl (omega arith));
  };
  world = λ c zeroed.
      left_whole t q c still grown.fit full
      ∙ (grown.world t c refl zeroed
      ∙ ap (λ (w : World). with_new_blocks w a bs) (sym (left_whole t p c still fit whole) ∙ ap (λ (u : Tables). left_of u (world_with u c)) same));
  few = omega (arith, grown.few);
  settled = owed_none t q grown.fit full;
  graph = blank_graph t p q a bs batch grown ∙ ap (λ (u : Tables). with_new_blocks (graph_in u) a bs) same;
}
  where
    whole : HasNoLost t.geometry p
    whole = full_of_settled t p same fit none

    full : HasNoLost t.geometry q
    full = grown.full whole

    now : AreSound (with_parts t q)
    now = sound_parts t q sound grown.fit
