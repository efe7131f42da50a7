-- Counting off the pairs from doomed blocks, one at a time.
use Rattle.std.proofs.Common.{◌≡◌, ℕ, ◌+◌, ◌-◌, ◌<◌, Bool, true, false, not, cond, ◌&&◌, ◌||◌, ◌==◌, List, length, refl, sym, ◌∙◌, ap, subst, arith, inl, inr}
use Rattle.reclaim.proofs.Common.{eq-eqb, eqb-true, ne_eqb, or_cases, or_left, or_right, both_ways, cases_eq, cases_Bool, get_or-set_same, get_or-set_other, filter_agree, filter, slice_set, slice_index, range_with_len, holds, World, is_live, is_primary, has_number, live_below, count_where, IsMarking, IsMarkingBut, IsRawGraph, filter_held, marking_still_led, marking_found, marking_as, count_zero, some_left, marked_more, is_gone, IsCounting}
use Rattle.tsd_model.proofs.ValueLaws.{and_false, and_true, or_false}

-- ---- another account of the same

marking_gone : (w : World) (p q : ℕ → Bool) (left : (ℕ × ℕ) → Bool) → ((b : ℕ) → p b ≡ q b) → IsMarking w p left → IsMarking w q left
marking_gone w p q left same marking = let e : p ≡ q = λ i b. same b i in subst (λ g. IsMarking w g left) e marking

counts_as : (w : World) (left other : (ℕ × ℕ) → Bool) → ((a b : ℕ) → holds w.pairs a b ≡ true → left (a, b) ≡ other (a, b)) → (c : ℕ) → count_where left w.pairs c ≡ count_where other w.pairs c
counts_as w left other same c = ap length (filter_held (λ e. (e.1 == c) && left e) (λ e. (e.1 == c) && other e) w.pairs (λ a b held. ap (λ t. (b == c) && t) (same a b held)))

off_as : (w : World) (left other : (ℕ × ℕ) → Bool) → ((a b : ℕ) → holds w.pairs a b ≡ true → left (a, b) ≡ other (a, b)) → length (filter (λ e. not (left e)) w.pairs) ≡ length (filter (λ e. not (other e)) w.pairs)
off_as w left other same = ap length (filter_held (λ e. not (left e)) (λ e. not (other e)) w.pairs (λ a b held. ap not (same a b held)))

pub counting_as : (w : World) (counts : List ℕ) (gone : List Bool) (before after : List ℕ) (number pairs : ℕ) (left other : (ℕ × ℕ) → Bool)
    → ((b : ℕ) → has_number after b ≡ true → has_number before b ≡ true) → ((a b : ℕ) → holds w.pairs a b ≡ true → left (a, b) ≡ other (a, b))
    → IsCounting w counts gone before number pairs left → IsCounting w counts gone after number pairs other
counting_as w counts gone before after number pairs left other fewer same counting = record {
  marking = marking_as w (is_gone gone) left other same counting.marking;
  counted = λ b within. counting.counted b within ∙ counts_as w left other same b;
  waits = λ b h. counting.waits b (fewer b h);
  number = counting.number;
  off = counting.off ∙ off_as w left other same;
}

-- ---- one pair is counted off

-- What a count that is lowered leaves. A block whose count was 1 is gone now, and waits.
pub record IsLowered (old_counts new_counts : List ℕ) (old_gone new_gone : List Bool) (before after : List ℕ) (old_number new_number t : ℕ) : Type 0 where
  pub counts : new_counts ≡ slice_set old_counts t (slice_index old_counts t - 1)
  pub gone : (b : ℕ) → is_gone new_gone b ≡ (is_gone old_gone b || ((b == t) && (slice_index old_counts t == 1)))
  pub waiting : (b : ℕ) → has_number after b ≡ (has_number before b || ((b == t) && (slice_index old_counts t == 1)))
  pub number : new_number ≡ old_number + cond (slice_index old_counts t == 1) 1 0

module _ (w : World) (raw : IsRawGraph w) (counts new_counts : List ℕ) (gone new_gone : List Bool) (before after : List ℕ) (number new_number t : ℕ)
    (lowered : IsLowered counts new_counts gone new_gone before after number new_number t)
    (long : length counts ≡ w.geometry.blocks) (live : is_live w t ≡ true) (apart : is_primary w t ≡ false) (fresh : is_gone gone t ≡ false)
    (waits : (b : ℕ) → has_number before b ≡ true → is_gone gone b ≡ true) (numbered : number ≡ length (filter (is_gone gone) (range_with_len 0 w.geometry.blocks)))
    (mid : (ℕ × ℕ) → Bool) (marking : IsMarkingBut w t (is_gone gone) mid)
    (counted : (b : ℕ) → b < w.geometry.blocks → slice_index counts b ≡ cond (t == b) 1 0 + count_where mid w.pairs b) where
  within : t < w.geometry.blocks
  within = subst (λ n. t < n) raw.laid_out.each_block (live_below w.blocks t live)

  at_t : slice_index counts t ≡ 1 + count_where mid w.pairs t
  at_t = counted t within ∙ ap (λ s. cond s 1 0 + count_where mid w.pairs t) (eq-eqb t t refl)

  counts_after : (b : ℕ) → b < w.geometry.blocks → slice_index new_counts b ≡ count_where mid w.pairs b
  counts_after b below = ap (λ xs. slice_index xs b) lowered.counts ∙ elim (cases_eq b t) [
    | inl same ↦ ap (slice_index (slice_set counts t (slice_index counts t - 1))) same
        ∙ (get_or-set_same counts t (slice_index counts t - 1) 0 (omega (arith, within, long)) ∙ (let e : slice_index counts t - 1 ≡ count_where mid w.pairs t = omega (arith, at_t) in e ∙ ap (count_where mid w.pairs) (sym same)))
    | inr other ↦ get_or-set_other counts t b (slice_index counts t - 1) 0 other ∙ (counted b below ∙ ap (λ s. cond s 1 0 + count_where mid w.pairs b) (ne_eqb t b (λ e. other (sym e))) ∙ zero_more (count_where mid w.pairs b))
  ]
    where
      zero_more : (n : ℕ) → 0 + n ≡ n
      zero_more n = omega arith

  marked : IsMarking w (is_gone new_gone) mid
  marked = elim (cases_Bool (slice_index counts t == 1)) [
    | inl one ↦
        let none : count_where mid w.pairs t ≡ 0 = omega (arith, at_t, eqb-true (slice_index counts t) 1 one) in
        marking_gone w (λ b. is_gone gone b || (b == t)) (is_gone new_gone) mid
        (λ b. sym (lowered.gone b ∙ (ap (λ s. is_gone gone b || ((b == t) && s)) one ∙ ap (λ s. is_gone gone b || s) (and_true (b == t)))))
        (marking_found w (is_gone gone) mid t raw.laid_out.each_block marking live apart (count_zero mid w.pairs t none))
    | inr more ↦
        let left = some_left mid w.pairs t (λ none. both_ways (slice_index counts t == 1) more (eq-eqb (slice_index counts t) 1 (omega (arith, at_t, none)))) in
        marking_gone w (is_gone gone) (is_gone new_gone) mid
        (λ b. sym (lowered.gone b ∙ (ap (λ s. is_gone gone b || ((b == t) && s)) more ∙ (ap (λ s. is_gone gone b || s) (and_false (b == t)) ∙ or_false (is_gone gone b)))))
        (marking_still_led w (is_gone gone) mid t left.0 marking left.1 left.2)
  ]

  numbered_after : new_number ≡ length (filter (is_gone new_gone) (range_with_len 0 w.geometry.blocks))
  numbered_after = lowered.number ∙ elim (cases_Bool (slice_index counts t == 1)) [
    | inl one ↦
        let more = marked_more (is_gone gone) w.geometry.blocks t within fresh in
        let same : length (filter (is_gone new_gone) (range_with_len 0 w.geometry.blocks)) ≡ length (filter (λ b. is_gone gone b || (b == t)) (range_with_len 0 w.geometry.blocks)) =
        ap length (filter_agree (is_gone new_gone) (λ b. is_gone gone b || (b == t)) (λ b. lowered.gone b ∙ (ap (λ s. is_gone gone b || ((b == t) && s)) one ∙ ap (λ s. is_gone gone b || s) (and_true (b == t)))) (range_with_len 0 w.geometry.blocks)) in
        ap (λ s. number + cond s 1 0) one ∙ omega (arith, numbered, more, same)
    | inr none ↦
        ap (λ s. number + cond s 1 0) none ∙ (plus_zero number ∙ (numbered ∙ ap length (sym (filter_agree (is_gone new_gone) (is_gone gone)
        (λ b. lowered.gone b ∙ (ap (λ s. is_gone gone b || ((b == t) && s)) none ∙ (ap (λ s. is_gone gone b || s) (and_false (b == t)) ∙ or_false (is_gone gone b)))) (range_with_len 0 w.geometry.blocks)))))
  ]
    where
      plus_zero : (n : ℕ) → n + 0 ≡ n
      plus_zero n = omega arith

  -- with the pairs that are left now
  pub counted_off : (pairs : ℕ) (left : (ℕ × ℕ) → Bool) → pairs ≡ length (filter (λ e. not (mid e)) w.pairs) → ((a b : ℕ) → holds w.pairs a b ≡ true → mid (a, b) ≡ left (a, b))
      → IsCounting w new_counts new_gone after new_number pairs left
  counted_off pairs left off same = record {
    marking = marking_as w (is_gone new_gone) mid left same marked;
    counted = λ b below. counts_after b below ∙ counts_as w mid left same b;
    waits = λ b h. elim (or_cases (has_number before b) ((b == t) && (slice_index counts t == 1)) (sym (lowered.waiting b) ∙ h)) [
      | inl old ↦ lowered.gone b ∙ or_left (is_gone gone b) ((b == t) && (slice_index counts t == 1)) (waits b old)
      | inr new ↦ lowered.gone b ∙ or_right (is_gone gone b) ((b == t) && (slice_index counts t == 1)) new
    ];
    number = numbered_after;
    off = off ∙ off_as w mid left same;
  }
