-- The worlds that tables tell: of one graph, whatever the blocks contain.
use Rattle.std.proofs.Common.{◌≡◌, ℕ, ◌+◌, ◌<◌, true, false, not, List, [], ◌∷◌, length, refl, sym, ◌∙◌, ap, arith, ◌↔◌, subst}
use Rattle.volume_laws.proofs.Common.{filter, and_parts, not-true, nil_from_length, holds, without_pair, without_pointer, World, is_live, has_number, doomed, settle, live_below, rising-pairs_in, length-pairs_in_le, slot_from_holds, is_marked_in, HasGraphOf, IsLaidOut, IsRawGraph, settled_live, absent_raw, doomed_by_graph, doomed_pairs_by_graph, laid_out_by_graph, settle_by_graph, alike_have_graph, tables_like, stays, doomed_size, holds-settle, live-graph, AreSound, Tables, pairs_of, world_with, left_of, zeros_of, blank_of, blocks_with, live_with, graph_in, owed, world_graph}

-- ---- graphs

pub same_graph : (t : Tables) (c d : ℕ → List ℕ) → HasGraphOf (world_with t c) (world_with t d)
unfolding world_with
same_graph t c d = alike_have_graph (world_with t c) (world_with t d) (tables_like t c d)

pub laid_out : (t : Tables) (c : ℕ → List ℕ) → IsLaidOut (world_with t c)
unfolding world_with
laid_out t c = record { each_block = blocks_with t c; rising = rising-pairs_in t.slots }

pub graph_laid_out : (t : Tables) → IsLaidOut (graph_in t)
graph_laid_out t = laid_out_by_graph (world_with t (zeros_of t)) (graph_in t) (world_graph t (zeros_of t)) (laid_out t (zeros_of t))

-- sound tables tell a raw graph
pub graph_raw : (t : Tables) → AreSound t → IsRawGraph (graph_in t)
graph_raw t sound = record {
  laid_out = graph_laid_out t;
  lawful = sound.slots.lawful;
  room = omega (arith, length-pairs_in_le t.slots, sound.slots.count);
  primaries = λ b h. one b ∙ sound.primaries b h;
  sources = λ a b h. one a ∙ (and_parts (is_marked_in t.live a) (is_marked_in t.live b) (sound.ends a b h)).0;
  targets = λ a b h. one b ∙ (and_parts (is_marked_in t.live a) (is_marked_in t.live b) (sound.ends a b h)).1;
  apart = λ a b h. let found = slot_from_holds t.slots a b h in (sound.slots.ends found.0 (a, b) found.2).1;
}
  where
    one : (b : ℕ) → is_live (graph_in t) b ≡ is_marked_in t.live b
    one b = live-graph t.geometry t.live (pairs_of t) sound.each_block b

pub same_doomed : (t : Tables) (c : ℕ → List ℕ) → doomed (world_with t c) ≡ doomed (graph_in t)
same_doomed t c = doomed_by_graph (world_with t c) (graph_in t) (world_graph t c)

-- nothing is owed exactly where nothing is doomed
pub none_owed : (t : Tables) → (owed t ≡ 0) ↔ (doomed (graph_in t) ≡ [])
none_owed t = (
  λ none. nil_from_length (doomed (graph_in t)) (omega (arith, none)),
  λ none. let pairs = nothing (graph_in t).pairs in
      ap (λ (gone : List ℕ). length gone + length (filter (λ (e : ℕ × ℕ). has_number gone e.0) (graph_in t).pairs)) none ∙ omega (arith, pairs),
)
  where
    nothing : (es : List (ℕ × ℕ)) → length (filter (λ e. has_number [] e.0) es) ≡ 0
    nothing [] = refl
    nothing (e ∷ es) = nothing es

-- ---- what memory tells, where no sweep is open

pub blank : (t : Tables) → t.is_sweeping ≡ false → blank_of t ≡ settle (world_with t (zeros_of t))
unfolding left_of
blank t still = rw still refl

-- a block that is told live stays, and its bit is 1
pub told_live : (t : Tables) (b : ℕ) → t.is_sweeping ≡ false → is_live (blank_of t) b ≡ true
    → (has_number (doomed (graph_in t)) b ≡ false) × (b < t.geometry.blocks) × (is_marked_in t.live b ≡ true)
told_live t b still live =
    let w = world_with t (zeros_of t) in
    let parts = settled_live w b (ap (λ v. is_live v b) (sym (blank t still)) ∙ live) in
    let inside : b < t.geometry.blocks = let below = live_below w.blocks b parts.1 in omega (arith, below, blocks_with t (zeros_of t)) in
    (ap (λ gone. has_number gone b) (sym (same_doomed t (zeros_of t))) ∙ parts.0, inside, sym (live_with t (zeros_of t) b inside) ∙ parts.1)

-- a pair from such a block that is told absent stands in no slot
pub told_absent : (t : Tables) (a b : ℕ) → t.is_sweeping ≡ false → is_live (blank_of t) a ≡ true → holds (blank_of t).pairs a b ≡ false → holds (pairs_of t) a b ≡ false
unfolding world_with
told_absent t a b still live absent =
    let w = world_with t (zeros_of t) in
    let parts = settled_live w a (ap (λ v. is_live v a) (sym (blank t still)) ∙ live) in
    absent_raw w a b (ap not parts.0) (ap (λ v. holds v.pairs a b) (sym (blank t still)) ∙ absent)

-- what is told live is left of each world with these tables
pub left_told : (t : Tables) (c : ℕ → List ℕ) (b : ℕ) → t.is_sweeping ≡ false → is_live (blank_of t) b ≡ true → is_live (settle (world_with t c)) b ≡ true
left_told t c b still live =
    sym ((settle_by_graph (world_with t (zeros_of t)) (world_with t c) (same_graph t (zeros_of t) c)).live b) ∙ (ap (λ v. is_live v b) (sym (blank t still)) ∙ live)

-- ---- what memory tells is the settled graph, but for bytes and records

pub told_graph : (t : Tables) → t.is_sweeping ≡ false → HasGraphOf (blank_of t) (settle (graph_in t))
told_graph t still = subst (λ (w : World). HasGraphOf w (settle (graph_in t))) (sym (blank t still)) (settle_by_graph (world_with t (zeros_of t)) (graph_in t) (world_graph t (zeros_of t)))

pub less_graph : (v w : World) (a b : ℕ) → HasGraphOf v w → HasGraphOf (without_pointer v a b) (without_pointer w a b)
less_graph v w a b same = record { geometry = same.geometry; each_block = same.each_block; live = same.live; pairs = λ i. without_pair a b (same.pairs i) }

pub size_by_graph : (v w : World) → HasGraphOf v w → doomed_size v ≡ doomed_size w
size_by_graph v w same = λ i. length (doomed_by_graph v w same i) + length (doomed_pairs_by_graph v w same i)

-- a pair that is told held stands in a slot, and its source stays
pub told_held : (t : Tables) (a b : ℕ) → t.is_sweeping ≡ false → holds (blank_of t).pairs a b ≡ true → holds (settle (graph_in t)).pairs a b ≡ true
told_held t a b still held = ap (λ es. holds es a b) (sym (told_graph t still).pairs) ∙ held

pub settled_held : (w : World) (a b : ℕ) → holds (settle w).pairs a b ≡ true → (holds w.pairs a b ≡ true) × (has_number (doomed w) a ≡ false)
settled_held w a b held = let parts = and_parts (holds w.pairs a b) (stays w a) (sym (holds-settle w a b) ∙ held) in (parts.0, not-true (has_number (doomed w) a) parts.1)
