-- The blocks that are collected.
use Rattle.std.proofs.Common.{◌≡◌, ℕ, ◌+◌, ◌<◌, Bool, true, false, ◌&&◌, ◌||◌, ◌==◌, nat_le, nat_lt, List, [], ◌∷◌, ◌++◌, refl, sym, ◌∙◌, ap, subst, arith, inl, inr}
use Rattle.reclaim.proofs.Common.{eq-eqb, eqb-true, ne_eqb, and_parts, and_from, cases_eq, leb-true, le-leb, lt-ltb, ltb-true, nat_tests, slice_index, replicate, slice_index_or, is_live, has_number, Geometry, Table, pairs, LiveMap, live_below, zeros_in, no_record, IsLost, HeldTargets, graph_of, AreTables, HaveCounts, HoldsLost, is_uncounted}
use Rattle.ref_counts.specs.Table.{Table as Counts}
use Rattle.block_alloc.specs.LiveMap.{is_live as is_live_in}
use Rattle.graph_laws.proofs.ToldLaws.{live-world_with}
use Rattle.graph_laws.proofs.LostLaws.{alone_count, count_alone}
use Rattle.reclaim.proofs.HeldLaws.{has-push}
use Rattle.tsd_model.proofs.ValueLaws.{and_false, or_false, or_true}

below_next : (b i : ℕ) → (b ≡ i → ⊥) → nat_lt b (i + 1) ≡ nat_lt b i
below_next b i other = grind (arith, nat_tests)

at_next : (i : ℕ) → nat_lt i (i + 1) ≡ true
at_next i = grind (arith, nat_tests)

not_below : (i : ℕ) → nat_lt i i ≡ false
not_below i = grind (arith, nat_tests)

-- it isn't held yet
pub not_yet : (xs : List ℕ) (i : ℕ) (p : ℕ → Bool) → ((b : ℕ) → has_number xs b ≡ (nat_lt b i && p b)) → has_number xs i ≡ false
not_yet xs i p held = held i ∙ ap (λ t. t && p i) (not_below i)

pub collected_more : (xs : List ℕ) (i : ℕ) (p : ℕ → Bool) → ((b : ℕ) → has_number xs b ≡ (nat_lt b i && p b)) → p i ≡ true → (b : ℕ) → has_number (xs ++ i ∷ []) b ≡ (nat_lt b (i + 1) && p b)
collected_more xs i p held is b = has-push xs i b ∙ (ap (λ t. t || (i == b)) (held b) ∙ elim (cases_eq b i) as (λ _. ((nat_lt b i && p b) || (i == b)) ≡ (nat_lt b (i + 1) && p b)) [
  | inl same ↦ subst (λ k. ((nat_lt k i && p k) || (i == k)) ≡ (nat_lt k (i + 1) && p k)) (sym same)
      (ap (λ t. (nat_lt i i && p i) || t) (eq-eqb i i refl) ∙ (or_true (nat_lt i i && p i) ∙ sym (and_from (nat_lt i (i + 1)) (p i) (at_next i) is)))
  | inr other ↦ ap (λ t. (nat_lt b i && p b) || t) (ne_eqb i b (λ e. other (sym e))) ∙ (or_false (nat_lt b i && p b) ∙ ap (λ t. t && p b) (sym (below_next b i other)))
])

pub collected_same : (xs : List ℕ) (i : ℕ) (p : ℕ → Bool) → ((b : ℕ) → has_number xs b ≡ (nat_lt b i && p b)) → p i ≡ false → (b : ℕ) → has_number xs b ≡ (nat_lt b (i + 1) && p b)
collected_same xs i p held is b = held b ∙ elim (cases_eq b i) as (λ _. (nat_lt b i && p b) ≡ (nat_lt b (i + 1) && p b)) [
  | inl same ↦ subst (λ k. (nat_lt k i && p k) ≡ (nat_lt k (i + 1) && p k)) (sym same) (ap (λ t. nat_lt i i && t) is ∙ (and_false (nat_lt i i) ∙ sym (ap (λ t. nat_lt i (i + 1) && t) is ∙ and_false (nat_lt i (i + 1)))))
  | inr other ↦ ap (λ t. t && p b) (sym (below_next b i other))
]

-- a block of the disk is live in the graph exactly where its bit says so
pub live_told : (t : Table) (live : LiveMap) (b : ℕ) → b < t.geometry.blocks → is_live (graph_of t live) b ≡ is_live_in live.live b
live_told t live b within = live-world_with t.geometry live.live (pairs t) (zeros_in t.geometry) 2 (replicate t.geometry.primaries no_record) b
    ∙ ap (λ s. s && slice_index_or live.live b false) (lt-ltb b t.geometry.blocks within)

-- where the tables tell a graph, they are its lost blocks
pub uncounted_lost : (t : Table) (live : LiveMap) (counts : Counts) (b : ℕ) → HaveCounts t live counts → b < t.geometry.blocks
    → is_uncounted live.live counts.counts t.geometry.primaries b ≡ true → IsLost (graph_of t live) b
uncounted_lost t live counts b have within is =
    let on = and_parts (nat_le t.geometry.primaries b && is_live_in live.live b) (slice_index counts.counts b == 0) is in
    let both = and_parts (nat_le t.geometry.primaries b) (is_live_in live.live b) on.0 in record {
      live = live_told t live b within ∙ both.1;
      apart = leb-true t.geometry.primaries b both.0;
      alone = count_alone (pairs t) b (sym (have.each b within) ∙ eqb-true (slice_index counts.counts b) 0 on.1);
    }

pub lost_within : (t : Table) (live : LiveMap) (b : ℕ) → AreTables t live → IsLost (graph_of t live) b → b < t.geometry.blocks
lost_within t live b tables lost = subst (λ n. b < n) tables.raw.laid_out.each_block (live_below (graph_of t live).blocks b lost.live)

pub lost_uncounted : (t : Table) (live : LiveMap) (counts : Counts) (b : ℕ) → AreTables t live → HaveCounts t live counts → IsLost (graph_of t live) b
    → is_uncounted live.live counts.counts t.geometry.primaries b ≡ true
lost_uncounted t live counts b tables have lost =
    let within = lost_within t live b tables lost in
    and_from (nat_le t.geometry.primaries b && is_live_in live.live b) (slice_index counts.counts b == 0)
    (and_from (nat_le t.geometry.primaries b) (is_live_in live.live b) (le-leb t.geometry.primaries b lost.apart) (sym (live_told t live b within) ∙ lost.live))
    (eq-eqb (slice_index counts.counts b) 0 (have.each b within ∙ alone_count (pairs t) b lost.alone))

pub collected_lost : (t : Table) (live : LiveMap) (counts : Counts) (h : HeldTargets) → AreTables t live → HaveCounts t live counts
    → ((b : ℕ) → has_number h.blocks b ≡ (nat_lt b counts.geometry.blocks && is_uncounted live.live counts.counts t.geometry.primaries b)) → HoldsLost (graph_of t live) h
collected_lost t live counts h tables have held b = (
  λ is.
      let at = and_parts (nat_lt b counts.geometry.blocks) (is_uncounted live.live counts.counts t.geometry.primaries b) (sym (held b) ∙ is) in
      uncounted_lost t live counts b have (subst (λ n. b < n) (ap (λ (g : Geometry). g.blocks) have.geometry) (ltb-true b counts.geometry.blocks at.0)) at.1,
  λ lost.
      held b ∙ and_from (nat_lt b counts.geometry.blocks) (is_uncounted live.live counts.counts t.geometry.primaries b)
      (lt-ltb b counts.geometry.blocks (subst (λ n. b < n) (sym (ap (λ (g : Geometry). g.blocks) have.geometry)) (lost_within t live b tables lost)))
      (lost_uncounted t live counts b tables have lost),
)
