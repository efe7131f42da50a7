-- What is told of a change keeps what is kept ahead right.
use Rattle.std.proofs.Common.{◌≡◌, ℕ, ◌+◌, ◌<◌, ◌≤◌, Bool, true, false, not, cond, ◌&&◌, ◌==◌, List, [], ◌∷◌, length, nat_lt, is_none, refl, sym, ◌∙◌, ap, subst, arith, inl, inr}
use Rattle.reclaim.proofs.Common.{eq-eqb, ne_eqb, cases_eq, and_parts, ltb-true, get_or-set_same, get_or-set_other, length-set, slice_index, slice_set, World, contents, has_number, doomed, with_pointer, with_new_blocks, Geometry, none_pass, length-filter_le, OutStep, live_below, AreCounts, kept_count, HasGraphOf, IsRawGraph, stepped, kept_of_none, kept-with_pointer, doomed_list-with_pointer, doomed_pairs-with_pointer, kept-new_blocks, doomed_by_graph, doomed_pairs_by_graph, kept_by_graph, geometry-without_pointers, step_lowers, step_keeps_counts, doomed_after_step, Kept, is_gone, IsAheadOf, IsAdding, IsGrowing, IsStepping, kept_ahead, after_step, HasSameMarks}
use Rattle.graph_laws.proofs.CommuteLaws.{doomed-with_pointer}
use Rattle.reclaim.specs.declared.tally.Tally.{Tally}
use Rattle.disk_laws.proofs.FitLaws.{geometry-new_blocks}

-- what is right of a world is right of each world of its graph
pub ahead_by_graph : (v w : World) (k : Kept) → HasGraphOf v w → IsAheadOf v k → IsAheadOf w k
ahead_by_graph v w k same ahead =
    let size : v.geometry.blocks ≡ w.geometry.blocks = ap (λ (g : Geometry). g.blocks) same.geometry in record {
      counts_each = ahead.counts_each ∙ size;
      marks_each = ahead.marks_each ∙ size;
      counted = λ b below. ahead.counted b (subst (λ n. b < n) (sym size) below) ∙ kept_by_graph v w same b;
      told = λ b. ahead.told b ∙ ap (λ xs. has_number xs b) (doomed_by_graph v w same);
      number = ahead.number ∙ ap length (doomed_by_graph v w same);
      off = ahead.off ∙ ap length (doomed_pairs_by_graph v w same);
    }

-- a count of a raw graph fits four bytes and one more
pub count_fits : (w : World) (k : Kept) (b : ℕ) → IsRawGraph w → IsAheadOf w k → b < w.geometry.blocks → slice_index k.counts b < 4294967295
count_fits w k b raw ahead below =
    omega (arith, ahead.counted b below, length-filter_le (λ (e : ℕ × ℕ). (e.1 == b) && not (has_number (doomed w) e.0)) w.pairs, raw.room, raw.lawful.slots.1)

-- ---- the counts of a settled disk

module _ (w : World) (none : doomed w ≡ []) where
  not_doomed : (b : ℕ) → has_number (doomed w) b ≡ false
  not_doomed b = ap (λ xs. has_number xs b) none

  -- where nothing is doomed, counts are right that have no block marked and the counts of all pairs
  pub settled_ahead : (counts : List ℕ) (gone : List Bool) → length counts ≡ w.geometry.blocks → length gone ≡ w.geometry.blocks
      → ((b : ℕ) → b < w.geometry.blocks → slice_index counts b ≡ kept_count w b) → ((b : ℕ) → is_gone gone b ≡ false) → IsAheadOf w (kept_ahead counts gone 0 0)
  settled_ahead counts gone long marks counted clear = record {
    counts_each = long;
    marks_each = marks;
    counted = counted;
    told = λ b. clear b ∙ sym (not_doomed b);
    number = sym (ap length none);
    off = sym (none_pass (λ e. has_number (doomed w) e.0) w.pairs (λ a b _. not_doomed a));
  }

  pub reset_ahead : (table counts : List ℕ) (gone : List Bool) (n : ℕ) → w.geometry.blocks ≡ n → AreCounts table w → length counts ≡ n → length gone ≡ n
      → ((b : ℕ) → b < n → slice_index counts b ≡ slice_index table b) → ((b : ℕ) → is_gone gone b ≡ false) → IsAheadOf w (kept_ahead counts gone 0 0)
  reset_ahead table counts gone n size have long marks same clear = settled_ahead counts gone (long ∙ sym size) (marks ∙ sym size)
      (λ b below. same b (subst (λ k. b < k) size below) ∙ (have b below ∙ sym (kept_of_none w not_doomed b))) clear

-- ---- a pair more

pub raise_ahead : (w : World) (a t : ℕ) (k : Kept) (counts : List ℕ) → IsAdding w a t k → counts ≡ slice_set k.counts t (slice_index k.counts t + 1) → IsAheadOf (with_pointer w a t) (kept_ahead counts k.gone k.doomed k.pairs)
raise_ahead w a t k counts adding is =
    let ahead = adding.ahead in
    let out = adding.raw.laid_out in
    let source : has_number (doomed w) a ≡ false = sym (ahead.told a) ∙ adding.source in
    let target : has_number (doomed w) t ≡ false = sym (ahead.told t) ∙ adding.target in record {
      counts_each = ap length is ∙ (length-set k.counts t (slice_index k.counts t + 1) ∙ ahead.counts_each);
      marks_each = ahead.marks_each;
      counted = λ b below. ap (λ xs. slice_index xs b) is ∙ elim (cases_eq b t) [
        | inl same ↦ subst (λ n. slice_index (slice_set k.counts t (slice_index k.counts t + 1)) n ≡ kept_count (with_pointer w a t) n) (sym same)
            (get_or-set_same k.counts t (slice_index k.counts t + 1) 0 (subst (λ n. t < n) (sym ahead.counts_each) adding.within)
            ∙ (ap (λ n. n + 1) (ahead.counted t adding.within) ∙ sym (kept-with_pointer w a t t out adding.absent source target ∙ (ap (λ s. cond s 1 0 + kept_count w t) (eq-eqb t t refl) ∙ flip (kept_count w t)))))
        | inr other ↦ get_or-set_other k.counts t b (slice_index k.counts t + 1) 0 other ∙ (ahead.counted b below
            ∙ sym (kept-with_pointer w a t b out adding.absent source target ∙ (ap (λ s. cond s 1 0 + kept_count w b) (ne_eqb t b (λ e. other (sym e))) ∙ zero_more (kept_count w b))))
      ];
      told = λ b. ahead.told b ∙ sym (doomed-with_pointer w out a t target b);
      number = ahead.number ∙ ap length (sym (doomed_list-with_pointer w a t out target));
      off = ahead.off ∙ sym (doomed_pairs-with_pointer w a t out adding.absent source target);
    }
  where
    flip : (n : ℕ) → 1 + n ≡ n + 1
    flip n = omega arith

    zero_more : (n : ℕ) → 0 + n ≡ n
    zero_more n = omega arith

-- ---- new blocks

-- a block that becomes live is one of the disk
pub growing_within : (w : World) (bs : List ℕ) (k : Kept) → IsGrowing w bs k → (b : ℕ) → has_number bs b ≡ true → b < w.geometry.blocks
growing_within w bs k growing b is = subst (λ n. b < n) growing.raw.laid_out.each_block (ltb-true b (length w.blocks) (and_parts (nat_lt b (length w.blocks)) (is_none (contents w b)) (growing.free b is)).0)

pub grow_ahead : (w : World) (a : ℕ) (bs : List ℕ) (k : Kept) (counts : List ℕ) → IsGrowing w bs k → length counts ≡ length k.counts
    → ((b : ℕ) → slice_index counts b ≡ cond (has_number bs b) 1 0 + slice_index k.counts b) → IsAheadOf (with_new_blocks w a bs) (kept_ahead counts k.gone k.doomed k.pairs)
grow_ahead w a bs k counts growing long raised =
    let law = kept-new_blocks w a bs growing.raw growing.none growing.once growing.free in
    let ahead = growing.ahead in
    let size : (with_new_blocks w a bs).geometry.blocks ≡ w.geometry.blocks = ap (λ (g : Geometry). g.blocks) (geometry-new_blocks a bs w) in
    let was : (b : ℕ) → is_gone k.gone b ≡ false = λ b. ahead.told b ∙ ap (λ xs. has_number xs b) growing.none in
    let right = settled_ahead (with_new_blocks w a bs) law.0 counts k.gone (long ∙ (ahead.counts_each ∙ sym size)) (ahead.marks_each ∙ sym size)
    (λ b below. raised b ∙ (ap (λ n. cond (has_number bs b) 1 0 + n) (ahead.counted b (subst (λ n. b < n) size below)) ∙ sym (law.1 b))) was in
    let nothing : k.doomed ≡ 0 = ahead.number ∙ ap length growing.none in
    let no_pairs : k.pairs ≡ 0 = ahead.off ∙ none_pass (λ e. has_number (doomed w) e.0) w.pairs (λ x y _. ap (λ xs. has_number xs x) growing.none) in
    subst (λ n. IsAheadOf (with_new_blocks w a bs) (kept_ahead counts k.gone n k.pairs)) (sym nothing)
    (subst (λ n. IsAheadOf (with_new_blocks w a bs) (kept_ahead counts k.gone 0 n)) (sym no_pairs) right)

-- ---- a step

pub step_within : (w : World) (s : OutStep) (k : Kept) → IsStepping w s k → s.block < length k.gone
step_within w s k stepping = subst (λ n. s.block < n) (stepping.laid_out.each_block ∙ sym stepping.ahead.marks_each) (live_below w.blocks s.block stepping.lost.live)

pub step_fits : (w : World) (s : OutStep) (k : Kept) → IsStepping w s k → (cond s.freed 1 0 ≤ k.doomed) × (length s.targets ≤ k.pairs)
step_fits w s k stepping =
    let less = step_lowers w s.block s.targets stepping.laid_out stepping.lost s.freed stepping.step in (omega (arith, less.0, stepping.ahead.number), omega (arith, less.1, stepping.ahead.off))

geometry-stepped : (w : World) (a : ℕ) (bs : List ℕ) (freed : Bool) → (stepped w a bs freed).geometry ≡ w.geometry
geometry-stepped w a bs true = geometry-without_pointers a bs w
geometry-stepped w a bs false = geometry-without_pointers a bs w

pub step_ahead : (w : World) (s : OutStep) (k : Kept) (gone : List Bool) (number pairs : ℕ) → IsStepping w s k → length gone ≡ length k.gone
    → ((b : ℕ) → is_gone gone b ≡ (is_gone k.gone b && not (s.freed && (b == s.block)))) → k.doomed ≡ cond s.freed 1 0 + number → k.pairs ≡ length s.targets + pairs
    → IsAheadOf (after_step w s) (kept_ahead k.counts gone number pairs)
step_ahead w s k gone number pairs stepping long marks fewer taken =
    let ahead = stepping.ahead in
    let less = step_lowers w s.block s.targets stepping.laid_out stepping.lost s.freed stepping.step in
    let size : (after_step w s).geometry.blocks ≡ w.geometry.blocks = ap (λ (g : Geometry). g.blocks) (geometry-stepped w s.block s.targets s.freed) in record {
      counts_each = ahead.counts_each ∙ sym size;
      marks_each = long ∙ (ahead.marks_each ∙ sym size);
      counted = λ b below. ahead.counted b (subst (λ n. b < n) size below) ∙ sym (step_keeps_counts w s.block s.targets stepping.laid_out stepping.lost s.freed stepping.step b);
      told = λ b. marks b ∙ (ap (λ g. g && not (s.freed && (b == s.block))) (ahead.told b) ∙ sym (doomed_after_step w s.block s.targets stepping.laid_out stepping.lost s.freed stepping.step b));
      number = omega (arith, less.0, ahead.number, fewer);
      off = omega (arith, less.1, ahead.off, taken);
    }

-- ---- counts that were raised

-- with the marks that stayed
pub marks_same : (w : World) (old new : Tally) → HasSameMarks old new → IsAheadOf w (kept_ahead new.counts.items old.gone old.doomed old.pairs) → IsAheadOf w (kept_ahead new.counts.items new.gone new.doomed new.pairs)
marks_same w old new same ahead = subst (IsAheadOf w) (λ i. kept_ahead new.counts.items (sym same.gone i) (sym same.doomed i) (sym same.pairs i)) ahead
