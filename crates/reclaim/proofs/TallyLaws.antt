-- The steps by which what is kept ahead of reclamation is brought up to date.
use Rattle.std.proofs.Common.{◌≡◌, ℕ, ◌+◌, ◌<◌, ◌≤◌, Bool, true, false, not, cond, ◌&&◌, ◌||◌, ◌==◌, nat_le, List, [], ◌∷◌, ◌++◌, length, refl, sym, ◌∙◌, ap, subst, arith, ◌⊎◌, inl, inr}
use Rattle.reclaim.proofs.Common.{eq-eqb, eqb-true, ne_eqb, and_parts, and_from, or_left, or_right, both_ways, cases_eq, cases_lt, false_from_ne_true, le-leb, lt-leb, nat_tests, filter_agree, filter, slice_index, range_with_len, is_pair, holds, without_pair, World, is_live, is_primary, has_number, doomed, without_pointer, length-filter_le, live_below, not_primary, count_where, IsMarkingBut, IsLaidOut, IsRawGraph, kept_deleted, count-without_pair, marking_of_deleted, marking_lowered, marking_ends, count_ends, off_ends, count_lowered, off_lowered, doomed_listed, Kept, is_gone, IsAheadOf, IsDeleting, kept_ahead, left_at, IsCounting}
use Rattle.disk_laws.proofs.GraphLaws.{length-range}
use Rattle.reclaim.proofs.CountingLaws.{IsLowered, counting_as, counted_off}
use Rattle.reclaim.proofs.HeldLaws.{has-push}
use Rattle.tsd_model.proofs.ValueLaws.{and_false, and_true, or_false, or_true}

-- no pair comes from past the last block
past : (w : World) → IsRawGraph w → (a b : ℕ) → holds w.pairs a b ≡ true → (a == w.geometry.blocks) ≡ false
past w raw a b held = let below : a < length w.blocks = live_below w.blocks a (raw.sources a b held) in ne_eqb a w.geometry.blocks (λ e. absurd (omega (arith, raw.laid_out.each_block)))

-- the same, of a block that is lowered
same_left : (g v s : Bool) → (s ≡ true → g ≡ false) → (not g || v) ≡ (not (g || s) || (v || s))
same_left true v true f = let never = f refl in absurd (cc)
same_left true v false f = sym (or_false v)
same_left false v true f = sym (or_true v)
same_left false v false f = refl

-- ---- the next target of the open block

module _ (w : World) (raw : IsRawGraph w) (counts : List ℕ) (gone : List Bool) (before : List ℕ) (number pairs o from t : ℕ) (held : holds w.pairs o t ≡ true) (above : from ≤ t)
    (counting : IsCounting w counts gone before number pairs (left_at gone before o from)) where
  is_left : left_at gone before o from (o, t) ≡ true
  is_left = or_right (not (is_gone gone o) || has_number before o) ((o == o) && nat_le from t) (and_from (o == o) (nat_le from t) (eq-eqb o o refl) (le-leb from t above))

  pub target_fresh : is_gone gone t ≡ false
  target_fresh = false_from_ne_true (is_gone gone t) (λ is. both_ways (left_at gone before o from (o, t)) (counting.marking.spent o t held is) is_left)

  pub target_counted : slice_index counts t ≡ 1 + count_where (λ e. left_at gone before o from e && not (is_pair o t e)) w.pairs t
  target_counted = counting.counted t (subst (λ n. t < n) raw.laid_out.each_block (live_below w.blocks t (raw.targets o t held)))
      ∙ (count_lowered (left_at gone before o from) w.pairs o t t raw.laid_out.rising held is_left ∙ ap (λ s. cond s 1 0 + count_where (λ e. left_at gone before o from e && not (is_pair o t e)) w.pairs t) (eq-eqb t t refl))

module _ (w : World) (raw : IsRawGraph w) (counts new_counts : List ℕ) (gone new_gone : List Bool) (before after : List ℕ) (number new_number pairs o from t : ℕ)
    (lowered : IsLowered counts new_counts gone new_gone before after number new_number t)
    (long : length counts ≡ w.geometry.blocks) (open_gone : is_gone gone o ≡ true) (open_out : has_number before o ≡ false)
    (held : holds w.pairs o t ≡ true) (above : from ≤ t) (least : (c : ℕ) → holds w.pairs o c ≡ true → from ≤ c → t ≤ c)
    (counting : IsCounting w counts gone before number pairs (left_at gone before o from)) where
  left_here : left_at gone before o from (o, t) ≡ true
  left_here = is_left w raw counts gone before number pairs o from t held above counting

  fresh_here : is_gone gone t ≡ false
  fresh_here = target_fresh w raw counts gone before number pairs o from t held above counting

  one_gone : (a : ℕ) → ((a == t) && (slice_index counts t == 1)) ≡ true → is_gone gone a ≡ false
  one_gone a h = subst (λ k. is_gone gone k ≡ false) (sym (eqb-true a t (and_parts (a == t) (slice_index counts t == 1) h).0)) fresh_here

  pub open_other : ((o == t) && (slice_index counts t == 1)) ≡ false
  open_other = false_from_ne_true ((o == t) && (slice_index counts t == 1)) (λ h. both_ways (is_gone gone o) (one_gone o h) open_gone)

  still_left : (a b : ℕ) → holds w.pairs a b ≡ true → (left_at gone before o from (a, b) && not (is_pair o t (a, b))) ≡ left_at new_gone after o (t + 1) (a, b)
  still_left a b is = elim (cases_eq a o) [
    | inl same ↦ subst (λ k. (left_at gone before o from (k, b) && not (is_pair o t (k, b))) ≡ left_at new_gone after o (t + 1) (k, b)) (sym same) (at_open (subst (λ k. holds w.pairs k b ≡ true) same is))
    | inr other ↦
        let off : (a == o) ≡ false = ne_eqb a o other in
        ap (λ s. ((not (is_gone gone a) || has_number before a) || (s && nat_le from b)) && not (s && (b == t))) off
        ∙ (both (not (is_gone gone a) || has_number before a)
        ∙ (ap (λ s. s || false) (same_left (is_gone gone a) (has_number before a) ((a == t) && (slice_index counts t == 1)) (one_gone a))
        ∙ (ap (λ g. (not g || (has_number before a || ((a == t) && (slice_index counts t == 1)))) || false) (sym (lowered.gone a))
        ∙ (ap (λ v. (not (is_gone new_gone a) || v) || false) (sym (lowered.waiting a))
        ∙ ap (λ s. (not (is_gone new_gone a) || has_number after a) || (s && nat_le (t + 1) b)) (sym off)))))
  ]
    where
      both : (s : Bool) → ((s || false) && true) ≡ (s || false)
      both true = refl
      both false = refl

      at_open : holds w.pairs o b ≡ true → (left_at gone before o from (o, b) && not (is_pair o t (o, b))) ≡ left_at new_gone after o (t + 1) (o, b)
      at_open on =
          ap (λ g. ((not g || has_number before o) || ((o == o) && nat_le from b)) && not ((o == o) && (b == t))) open_gone
          ∙ (ap (λ v. (v || ((o == o) && nat_le from b)) && not ((o == o) && (b == t))) open_out
          ∙ (ap (λ s. (s && nat_le from b) && not (s && (b == t))) (eq-eqb o o refl)
          ∙ (numbers (cases_lt b from)
          ∙ (ap (λ s. s && nat_le (t + 1) b) (sym (eq-eqb o o refl))
          ∙ (ap (λ v. v || ((o == o) && nat_le (t + 1) b)) (sym (lowered.waiting o ∙ (ap (λ v. v || ((o == t) && (slice_index counts t == 1))) open_out ∙ open_other)))
          ∙ ap (λ g. (not g || has_number after o) || ((o == o) && nat_le (t + 1) b)) (sym (lowered.gone o ∙ (ap (λ g. g || ((o == t) && (slice_index counts t == 1))) open_gone))))))))
        where
          numbers : (b < from) ⊎ (from ≤ b) → (nat_le from b && not (b == t)) ≡ nat_le (t + 1) b
          numbers (inl below) = ap (λ s. s && not (b == t)) (lt-leb from b below) ∙ sym (lt-leb (t + 1) b (omega arith))
          numbers (inr up) = elim (cases_eq b t) [
            | inl same ↦ ap (λ s. nat_le from b && not s) (eq-eqb b t same) ∙ (and_false (nat_le from b) ∙ sym (lt-leb (t + 1) b (omega arith)))
            | inr other ↦ let up_t = least b on up in ap (λ s. nat_le from b && not s) (ne_eqb b t other) ∙ (ap (λ s. s && true) (le-leb from b up) ∙ sym (le-leb (t + 1) b (omega arith)))
          ]

  pub target_off : IsCounting w new_counts new_gone after new_number (pairs + 1) (left_at new_gone after o (t + 1))
  target_off = counted_off w raw counts new_counts gone new_gone before after number new_number t lowered long
      (raw.targets o t held) (not_primary w t (raw.apart o t held)) fresh_here counting.waits counting.number
      (λ e. left_at gone before o from e && not (is_pair o t e))
      (marking_lowered w (is_gone gone) (left_at gone before o from) o t counting.marking open_gone)
      (λ b below. counting.counted b below ∙ count_lowered (left_at gone before o from) w.pairs o t b raw.laid_out.rising held left_here)
      (pairs + 1) (left_at new_gone after o (t + 1))
      (let more = off_lowered (left_at gone before o from) w.pairs o t raw.laid_out.rising held left_here in let was = counting.off in omega (arith, more, was))
      still_left

-- ---- a block is opened and closed

pub counting_opened : (w : World) (counts : List ℕ) (gone : List Bool) (old new : List ℕ) (number pairs o : ℕ) → IsRawGraph w → old ≡ new ++ o ∷ []
    → IsCounting w counts gone old number pairs (left_at gone old w.geometry.blocks 0) → IsCounting w counts gone new number pairs (left_at gone new o 0)
counting_opened w counts gone old new number pairs o raw last counting = counting_as w counts gone old new number pairs (left_at gone old w.geometry.blocks 0) (left_at gone new o 0)
    (λ b h. ap (λ xs. has_number xs b) last ∙ (has-push new o b ∙ or_left (has_number new b) (o == b) h)) same counting
  where
    flip : (m n : ℕ) → (m == n) ≡ (n == m)
    flip m n = grind (arith, nat_tests)

    joined : (g v s k l : Bool) → k ≡ false → l ≡ true → ((not g || (v || s)) || (k && l)) ≡ ((not g || v) || (s && l))
    joined true true s k l e f = refl
    joined true false s k l e f = ap (λ t. s || (t && l)) e ∙ (or_false s ∙ sym (ap (λ t. s && t) f ∙ and_true s))
    joined false v s k l e f = refl

    same : (a b : ℕ) → holds w.pairs a b ≡ true → left_at gone old w.geometry.blocks 0 (a, b) ≡ left_at gone new o 0 (a, b)
    same a b held =
        ap (λ xs. (not (is_gone gone a) || has_number xs a) || ((a == w.geometry.blocks) && nat_le 0 b)) last
        ∙ (ap (λ v. (not (is_gone gone a) || v) || ((a == w.geometry.blocks) && nat_le 0 b)) (has-push new o a)
        ∙ (joined (is_gone gone a) (has_number new a) (o == a) (a == w.geometry.blocks) (nat_le 0 b) (past w raw a b held) (le-leb 0 b (omega arith))
        ∙ ap (λ s. (not (is_gone gone a) || has_number new a) || (s && nat_le 0 b)) (flip o a)))

pub counting_closed : (w : World) (counts : List ℕ) (gone : List Bool) (waiting : List ℕ) (number pairs o from : ℕ) → IsRawGraph w → ((b : ℕ) → holds w.pairs o b ≡ true → b < from)
    → IsCounting w counts gone waiting number pairs (left_at gone waiting o from) → IsCounting w counts gone waiting number pairs (left_at gone waiting w.geometry.blocks 0)
counting_closed w counts gone waiting number pairs o from raw all counting = counting_as w counts gone waiting waiting number pairs (left_at gone waiting o from) (left_at gone waiting w.geometry.blocks 0)
    (λ b h. h) same counting
  where
    off : (a b : ℕ) → holds w.pairs a b ≡ true → ((a == o) && nat_le from b) ≡ false
    off a b held = elim (cases_eq a o) [
      | inl same ↦ ap (λ s. (a == o) && s) (lt-leb from b (all b (subst (λ k. holds w.pairs k b ≡ true) same held))) ∙ and_false (a == o)
      | inr other ↦ ap (λ s. s && nat_le from b) (ne_eqb a o other)
    ]

    same : (a b : ℕ) → holds w.pairs a b ≡ true → left_at gone waiting o from (a, b) ≡ left_at gone waiting w.geometry.blocks 0 (a, b)
    same a b held = ap (λ s. (not (is_gone gone a) || has_number waiting a) || s) (off a b held ∙ sym (ap (λ s. s && nat_le 0 b) (past w raw a b held)))

-- ---- the end

pub counting_ended : (w : World) (counts : List ℕ) (gone : List Bool) (waiting : List ℕ) (number pairs : ℕ) → IsRawGraph w → length counts ≡ w.geometry.blocks → length gone ≡ w.geometry.blocks → waiting ≡ []
    → IsCounting w counts gone waiting number pairs (left_at gone waiting w.geometry.blocks 0) → IsAheadOf w (kept_ahead counts gone number pairs)
counting_ended w counts gone waiting number pairs raw long marks none counting = record {
  counts_each = long;
  marks_each = marks;
  counted = λ b below. counting.counted b below ∙ count_ends w (is_gone gone) left counting.marking off b;
  told = marking_ends w (is_gone gone) left counting.marking off;
  number = counting.number ∙ (ap length (filter_agree (is_gone gone) (has_number (doomed w)) (marking_ends w (is_gone gone) left counting.marking off) (range_with_len 0 w.geometry.blocks))
      ∙ (ap (λ n. length (filter (has_number (doomed w)) (range_with_len 0 n))) (sym raw.laid_out.each_block) ∙ ap length (sym (doomed_listed w))));
  off = counting.off ∙ off_ends w (is_gone gone) left counting.marking off;
}
  where
    left : (ℕ × ℕ) → Bool
    left = left_at gone waiting w.geometry.blocks 0

    off : (a b : ℕ) → holds w.pairs a b ≡ true → is_gone gone a ≡ true → left_at gone waiting w.geometry.blocks 0 (a, b) ≡ false
    off a b held is = ap (λ g. (not g || has_number waiting a) || ((a == w.geometry.blocks) && nat_le 0 b)) is
        ∙ (ap (λ xs. has_number xs a || ((a == w.geometry.blocks) && nat_le 0 b)) none ∙ ap (λ s. s && nat_le 0 b) (past w raw a b held))

-- ---- the start: a pair was deleted

module _ (w v : World) (a t : ℕ) (counts new_counts : List ℕ) (gone new_gone : List Bool) (after : List ℕ) (number new_number pairs : ℕ)
    (raw : IsRawGraph w) (deleting : IsDeleting v a t (kept_ahead counts gone number pairs)) (is : w ≡ without_pointer v a t)
    (lowered : IsLowered counts new_counts gone new_gone [] after number new_number t) where
  off_source : has_number (doomed v) a ≡ false
  off_source = sym (deleting.ahead.told a) ∙ deleting.source

  same_size : w.geometry.blocks ≡ v.geometry.blocks
  same_size = ap (λ (x : World). x.geometry.blocks) is

  told : has_number (doomed v) ≡ is_gone gone
  told i b = sym (deleting.ahead.told b) i

  marking : IsMarkingBut w t (is_gone gone) (λ e. not (has_number (doomed v) e.0))
  marking = subst (λ g. IsMarkingBut w t g (λ e. not (has_number (doomed v) e.0))) told
      (subst (λ x. IsMarkingBut x t (has_number (doomed v)) (λ e. not (has_number (doomed v) e.0))) (sym is) (marking_of_deleted v a t deleting.raw.laid_out))

  target_live : is_live w t ≡ true
  target_live = subst (λ (x : World). is_live x t ≡ true) (sym is) (deleting.raw.targets a t deleting.held)

  target_apart : is_primary w t ≡ false
  target_apart = subst (λ (x : World). is_primary x t ≡ false) (sym is) (not_primary v t (deleting.raw.apart a t deleting.held))

  -- the pairs from doomed blocks are those that are left too, as the deleted one isn't from one
  off : pairs ≡ length (filter (λ e. not (not (has_number (doomed v) e.0))) w.pairs)
  off = deleting.ahead.off ∙ (count-without_pair (λ e. has_number (doomed v) e.0) v.pairs a t deleting.raw.laid_out.rising deleting.held
      ∙ (ap (λ s. cond s 1 0 + length (filter (λ e. has_number (doomed v) e.0) (without_pair a t v.pairs))) off_source
      ∙ (zero_more (length (filter (λ e. has_number (doomed v) e.0) (without_pair a t v.pairs)))
      ∙ (ap (λ (x : World). length (filter (λ e. has_number (doomed v) e.0) x.pairs)) (sym is)
      ∙ ap length (filter_agree (λ e. has_number (doomed v) e.0) (λ e. not (not (has_number (doomed v) e.0))) (λ e. twice (has_number (doomed v) e.0)) w.pairs)))))
    where
      zero_more : (n : ℕ) → 0 + n ≡ n
      zero_more n = omega arith

      twice : (s : Bool) → s ≡ not (not s)
      twice true = refl
      twice false = refl

  same : (x y : ℕ) → holds w.pairs x y ≡ true → not (has_number (doomed v) x) ≡ left_at new_gone after w.geometry.blocks 0 (x, y)
  same x y held =
      ap not (sym (deleting.ahead.told x))
      ∙ (sym (or_false (not (is_gone gone x)))
      ∙ (same_left (is_gone gone x) false ((x == t) && (slice_index counts t == 1)) (λ h. subst (λ k. is_gone gone k ≡ false) (sym (eqb-true x t (and_parts (x == t) (slice_index counts t == 1) h).0)) deleting.target)
      ∙ (ap (λ g. not g || ((x == t) && (slice_index counts t == 1))) (sym (lowered.gone x))
      ∙ (ap (λ s. not (is_gone new_gone x) || s) (sym (lowered.waiting x))
      ∙ (sym (or_false (not (is_gone new_gone x) || has_number after x))
      ∙ ap (λ s. (not (is_gone new_gone x) || has_number after x) || (s && nat_le 0 y)) (sym (past w raw x y held)))))))

  -- What was right before the pair was deleted, and then the count of its target lowered, is the middle of bringing it up to date.
  pub counting_begun : IsCounting w new_counts new_gone after new_number pairs (left_at new_gone after w.geometry.blocks 0)
  counting_begun =
      counted_off w raw counts new_counts gone new_gone [] after number new_number t lowered (deleting.ahead.counts_each ∙ sym same_size)
      target_live target_apart deleting.target (λ b h. absurd (nothing h))
      (deleting.ahead.number ∙ (ap length (doomed_listed v) ∙ (ap (λ n. length (filter (has_number (doomed v)) (range_with_len 0 n))) (deleting.raw.laid_out.each_block ∙ sym same_size)
      ∙ ap length (filter_agree (has_number (doomed v)) (is_gone gone) (λ b. sym (deleting.ahead.told b)) (range_with_len 0 w.geometry.blocks)))))
      (λ e. not (has_number (doomed v) e.0)) marking
      (λ b below. deleting.ahead.counted b (subst (λ n. b < n) same_size below) ∙ (kept_deleted v a t b deleting.raw.laid_out deleting.held off_source
      ∙ ap (λ (x : World). cond (t == b) 1 0 + count_where (λ e. not (has_number (doomed v) e.0)) x.pairs b) (sym is)))
      pairs (left_at new_gone after w.geometry.blocks 0) off same
    where
      nothing : false ≡ true → ⊥
      nothing e = cc

-- ---- sizes

pub number_fits : (w : World) (counts : List ℕ) (gone : List Bool) (waiting : List ℕ) (number pairs : ℕ) (left : (ℕ × ℕ) → Bool) → IsCounting w counts gone waiting number pairs left → (number ≤ w.geometry.blocks) × (pairs ≤ length w.pairs)
number_fits w counts gone waiting number pairs left counting = (
  omega (arith, counting.number, length-filter_le (is_gone gone) (range_with_len 0 w.geometry.blocks), length-range 0 w.geometry.blocks),
  omega (arith, counting.off, length-filter_le (λ e. not (left e)) w.pairs),
)

pub ahead_fits : (w : World) (k : Kept) → IsLaidOut w → IsAheadOf w k → k.doomed ≤ w.geometry.blocks
ahead_fits w k laid_out ahead = omega (arith, ahead.number, ap length (doomed_listed w), length-filter_le (has_number (doomed w)) (range_with_len 0 (length w.blocks)), length-range 0 (length w.blocks), laid_out.each_block)

-- a block to which a pair was deleted has a count
pub deleting_counted : (v : World) (a t : ℕ) (k : Kept) → IsDeleting v a t k → (t < v.geometry.blocks) × (0 < slice_index k.counts t)
deleting_counted v a t k deleting =
    let within : t < v.geometry.blocks = subst (λ n. t < n) deleting.raw.laid_out.each_block (live_below v.blocks t (deleting.raw.targets a t deleting.held)) in (
      within,
      omega (
        arith,
        deleting.ahead.counted t within ∙ (kept_deleted v a t t deleting.raw.laid_out deleting.held (sym (deleting.ahead.told a) ∙ deleting.source)
            ∙ ap (λ s. cond s 1 0 + count_where (λ e. not (has_number (doomed v) e.0)) (without_pointer v a t).pairs t) (eq-eqb t t refl)),
      ),
    )

pub popped_gone : (gone : List Bool) (old new : List ℕ) (o : ℕ) → old ≡ new ++ o ∷ [] → ((b : ℕ) → has_number old b ≡ true → is_gone gone b ≡ true) → is_gone gone o ≡ true
popped_gone gone old new o last waits = waits o (ap (λ xs. has_number xs o) last ∙ (has-push new o o ∙ or_right (has_number new o) (o == o) (eq-eqb o o refl)))

-- marking a block that waits then leaves as it was which marked blocks don't wait
pub done_same : (g v s : Bool) → (s ≡ true → g ≡ false) → ((g || s) && not (v || s)) ≡ (g && not v)
done_same true v true f = let never = f refl in absurd (cc)
done_same true v false f = ap not (or_false v)
done_same false v true f = ap not (or_true v)
done_same false v false f = refl

-- a block that isn't marked yet
pub fresh_one : (gone : List Bool) (t b : ℕ) (s : Bool) → ((b == t) && s) ≡ true → is_gone gone t ≡ false → is_gone gone b ≡ false
fresh_one gone t b s h fresh = subst (λ k. is_gone gone k ≡ false) (sym (eqb-true b t (and_parts (b == t) s h).0)) fresh
