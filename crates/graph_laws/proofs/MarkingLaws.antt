-- Marking pair by pair finds exactly the doomed blocks.
use Rattle.std.proofs.Common.{◌≡◌, ℕ, suc, ◌+◌, ◌<◌, Bool, true, false, not, cond, ◌&&◌, ◌||◌, ◌==◌, List, [], ◌∷◌, length, refl, sym, ◌∙◌, ap, subst, arith, inl, inr}
use Rattle.graph_laws.proofs.Common.{eq-eqb, eqb-true, ne_eqb, and_parts, and_from, and_cases, and_left, and_right, not-true, not-false, both_ways, cases_eq, false_from_ne_true, or_cases, or_left, or_right, filter_agree, filter, range_with_len, is_pair, holds, is_rising, without_pair, World, is_live, is_primary, has_number, doomed, without_pointer, not_primary, holds-filter, is_pair_ext, is_pair_same, same_tests, count_where, kept_count, doomed_pairs, IsLaidOut, IsRawGraph, doomed_is_live, filter_held, none_pass, none_passes, count-without_pair}
use Rattle.graph_laws.specs.Marking.{IsMarking, IsMarkingBut, IsCountedOff}
use Rattle.graph_laws.proofs.DoomedLaws.{doomed_least, doomed_from, doomed_is_no_primary, source_is_doomed}
use Rattle.graph_laws.proofs.SettleLaws.{stays_doomed}
use Rattle.graph_laws.proofs.CountLaws.{count_but_number, count_but_pair}
use Rattle.tsd_model.proofs.ValueLaws.{and_true}

-- ---- the steps

-- A pointer was deleted: what was doomed is marked, all pairs from it are counted off, and it is open whether the target is.
pub marking_of_deleted : (r : World) (a t : ℕ) → IsLaidOut r → IsMarkingBut (without_pointer r a t) t (has_number (doomed r)) (λ e. not (has_number (doomed r) e.0))
marking_of_deleted r a t out = record {
  sound = stays_doomed r out (λ e. not (is_pair a t e));
  taken = λ x y held off. not-false (has_number (doomed r) x) off;
  spent = λ x y held is. ap not (source_is_doomed r out.each_block x y is (and_parts (holds r.pairs x y) (not (is_pair a t (x, y))) (sym (holds-filter (λ e. not (is_pair a t e)) r.pairs x y) ∙ held)).0);
  found = λ b other live apart off. doomed_from r out.each_block b live apart (λ x held.
      let still : not (is_pair a t (x, b)) ≡ true = ap not (and_right (x == a) (b == t) (ne_eqb b t other)) in
      not-false (has_number (doomed r) x) (off x (holds-filter (λ e. not (is_pair a t e)) r.pairs x b ∙ and_from (holds r.pairs x b) (not (is_pair a t (x, b))) held still)));
}

module _ (w : World) (gone : ℕ → Bool) (left : (ℕ × ℕ) → Bool) where
  -- a pair from a marked block is counted off
  pub marking_lowered : (x t : ℕ) → IsMarking w gone left → gone x ≡ true → IsMarkingBut w t gone (λ e. left e && not (is_pair x t e))
  marking_lowered x t marking is = record {
    sound = marking.sound;
    taken = λ a b held off. elim (and_cases (left (a, b)) (not (is_pair x t (a, b))) off) [
      | inl old ↦ marking.taken a b held old
      | inr new ↦ subst (λ k. gone k ≡ true) (sym (eqb-true a x (and_parts (a == x) (b == t) (not-false (is_pair x t (a, b)) new)).0)) is
    ];
    spent = λ a b held marked. and_left (left (a, b)) (not (is_pair x t (a, b))) (marking.spent a b held marked);
    found = λ b other live apart off. marking.found b live apart (λ a held. elim (and_cases (left (a, b)) (not (is_pair x t (a, b))) (off a held)) [
      | inl old ↦ old
      | inr new ↦ absurd (other (eqb-true b t (and_parts (a == x) (b == t) (not-false (is_pair x t (a, b)) new)).1))
    ]);
  }

  -- a pair is still left to the open block
  pub marking_still_led : (t a : ℕ) → IsMarkingBut w t gone left → holds w.pairs a t ≡ true → left (a, t) ≡ true → IsMarking w gone left
  marking_still_led t a marking held is_left = record {
    sound = marking.sound;
    taken = marking.taken;
    spent = marking.spent;
    found = λ b live apart off. elim (cases_eq b t) [
      | inl same ↦ absurd (both_ways (left (a, t)) (subst (λ k. left (a, k) ≡ false) same (off a (subst (λ k. holds w.pairs a k ≡ true) (sym same) held))) is_left)
      | inr other ↦ marking.found b other live apart off
    ];
  }

  -- none is left: the open block is doomed, and marked
  pub marking_found : (t : ℕ) → length w.blocks ≡ w.geometry.blocks → IsMarkingBut w t gone left → is_live w t ≡ true → is_primary w t ≡ false
      → ((a : ℕ) → holds w.pairs a t ≡ true → left (a, t) ≡ false) → IsMarking w (λ b. gone b || (b == t)) left
  marking_found t long marking live apart off = record {
    sound = λ b is. elim (or_cases (gone b) (b == t) is) [
      | inl old ↦ marking.sound b old
      | inr new ↦ subst (λ k. has_number (doomed w) k ≡ true) (sym (eqb-true b t new)) (doomed_from w long t live apart (λ a held. marking.sound a (marking.taken a t held (off a held))))
    ];
    taken = λ a b held none. or_left (gone a) (a == t) (marking.taken a b held none);
    spent = λ a b held is. elim (or_cases (gone b) (b == t) is) [
      | inl old ↦ marking.spent a b held old
      | inr new ↦ let same : b ≡ t = eqb-true b t new in subst (λ k. left (a, k) ≡ false) (sym same) (off a (subst (λ k. holds w.pairs a k ≡ true) same held))
    ];
    found = λ b live2 apart2 off2. elim (cases_eq b t) [
      | inl same ↦ or_right (gone b) (b == t) (eq-eqb b t same)
      | inr other ↦ or_left (gone b) (b == t) (marking.found b other live2 apart2 off2)
    ];
  }

  -- another account of what is left, the same on the pairs that are held
  pub marking_as : (other : (ℕ × ℕ) → Bool) → ((a b : ℕ) → holds w.pairs a b ≡ true → left (a, b) ≡ other (a, b)) → IsMarking w gone left → IsMarking w gone other
  marking_as other same marking = record {
    sound = marking.sound;
    taken = λ a b held off. marking.taken a b held (same a b held ∙ off);
    spent = λ a b held is. sym (same a b held) ∙ marking.spent a b held is;
    found = λ b live apart off. marking.found b live apart (λ a held. same a b held ∙ off a held);
  }

  -- once no pair from a marked block is left, exactly the doomed blocks are marked
  pub marking_ends : IsMarking w gone left → IsCountedOff w gone left → (b : ℕ) → gone b ≡ has_number (doomed w) b
  marking_ends marking off b = same_tests (gone b) (has_number (doomed w) b) (marking.sound b)
      (doomed_least w (λ c. gone c ≡ true) (λ c live apart all. marking.found c live apart (λ a held. off a c held (all a held))) b)

  -- and then what is left to a block is its count
  pub count_ends : IsMarking w gone left → IsCountedOff w gone left → (b : ℕ) → count_where left w.pairs b ≡ kept_count w b
  count_ends marking off b = ap length (filter_held (λ e. (e.1 == b) && left e) (λ e. (e.1 == b) && not (has_number (doomed w) e.0)) w.pairs (λ a c held. ap (λ t. (c == b) && t) (one a c held)))
    where
      one : (a c : ℕ) → holds w.pairs a c ≡ true → left (a, c) ≡ not (has_number (doomed w) a)
      one a c held = elim (left (a, c)) as (λ t. left (a, c) ≡ t → t ≡ not (has_number (doomed w) a)) [
        | true ↦ λ e. sym (ap not (false_from_ne_true (has_number (doomed w) a) (λ is. both_ways (left (a, c)) (off a c held (marking_ends marking off a ∙ is)) e)))
        | false ↦ λ e. sym (ap not (marking.sound a (marking.taken a c held e)))
      ] refl

  -- how many pairs were counted off is then how many come from doomed blocks
  pub off_ends : IsMarking w gone left → IsCountedOff w gone left → length (filter (λ e. not (left e)) w.pairs) ≡ length (doomed_pairs w)
  off_ends marking off = ap length (filter_held (λ e. not (left e)) (λ e. has_number (doomed w) e.0) w.pairs one)
    where
      one : (a c : ℕ) → holds w.pairs a c ≡ true → not (left (a, c)) ≡ has_number (doomed w) a
      one a c held = elim (left (a, c)) as (λ t. left (a, c) ≡ t → not t ≡ has_number (doomed w) a) [
        | true ↦ λ e. sym (false_from_ne_true (has_number (doomed w) a) (λ is. both_ways (left (a, c)) (off a c held (marking_ends marking off a ∙ is)) e))
        | false ↦ λ e. sym (marking.sound a (marking.taken a c held e))
      ] refl

-- ---- counts

-- no pair is left exactly where the count is 0
pub count_zero : (left : (ℕ × ℕ) → Bool) (es : List (ℕ × ℕ)) (b : ℕ) → count_where left es b ≡ 0 → (a : ℕ) → holds es a b ≡ true → left (a, b) ≡ false
count_zero left es b none a held = last (left (a, b)) (none_passes (λ e. (e.1 == b) && left e) es none a b held)
  where
    last : (t : Bool) → ((b == b) && t) ≡ false → t ≡ false
    last t e = ap (λ s. s && t) (sym (eq-eqb b b refl)) ∙ e

pub zero_count : (left : (ℕ × ℕ) → Bool) (es : List (ℕ × ℕ)) (b : ℕ) → ((a : ℕ) → holds es a b ≡ true → left (a, b) ≡ false) → count_where left es b ≡ 0
zero_count left es b off = none_pass (λ e. (e.1 == b) && left e) es (λ a c held. elim (cases_eq c b) [
  | inl same ↦ and_right (c == b) (left (a, c)) (subst (λ k. left (a, k) ≡ false) (sym same) (off a (subst (λ k. holds es a k ≡ true) same held)))
  | inr other ↦ and_left (c == b) (left (a, c)) (ne_eqb c b other)
])

-- where the count isn't 0, a pair is left
pub some_left : (left : (ℕ × ℕ) → Bool) (es : List (ℕ × ℕ)) (b : ℕ) → (count_where left es b ≡ 0 → ⊥) → (a : ℕ) × (holds es a b ≡ true) × (left (a, b) ≡ true)
some_left left [] b h = absurd (h refl)
some_left left (e ∷ es) b h =
    elim ((e.1 == b) && left e) as (λ t. ((e.1 == b) && left e) ≡ t → (length (cond t (e ∷ filter (λ f. (f.1 == b) && left f) es) (filter (λ f. (f.1 == b) && left f) es)) ≡ 0 → ⊥) → (a : ℕ) × (holds (e ∷ es) a b ≡ true) × (left (a, b) ≡ true)) [
      | true ↦ λ k _. let parts = and_parts (e.1 == b) (left e) k in
          (e.0, or_left (is_pair e.0 b e) (holds es e.0 b) (and_from (e.0 == e.0) (e.1 == b) (eq-eqb e.0 e.0 refl) parts.0), subst (λ k. left (e.0, k) ≡ true) (eqb-true e.1 b parts.0) parts.1)
      | false ↦ λ _ g. let rest = some_left left es b g in (rest.0, or_right (is_pair rest.0 b e) (holds es rest.0 b) rest.1, rest.2)
    ] refl h

-- a pair is counted off
pub count_lowered : (left : (ℕ × ℕ) → Bool) (es : List (ℕ × ℕ)) (x t b : ℕ) → is_rising es ≡ true → holds es x t ≡ true → left (x, t) ≡ true
    → count_where left es b ≡ cond (t == b) 1 0 + count_where (λ e. left e && not (is_pair x t e)) es b
count_lowered left es x t b rising held is = count_but_pair (λ e. (e.1 == b) && left e) es x t rising held
    ∙ (ap (λ n. n + length (filter (λ e. ((e.1 == b) && left e) && not (is_pair x t e)) es)) (ap (λ s. cond ((t == b) && s) 1 0) is ∙ ap (λ s. cond s 1 0) (and_true (t == b)))
    ∙ ap (λ fs. cond (t == b) 1 0 + length fs) (filter_held (λ e. ((e.1 == b) && left e) && not (is_pair x t e)) (λ e. (e.1 == b) && (left e && not (is_pair x t e))) es (λ a c _. joined (c == b) (left (a, c)) (not (is_pair x t (a, c))))))
  where
    joined : (p q s : Bool) → ((p && q) && s) ≡ (p && (q && s))
    joined true q s = refl
    joined false q s = refl

-- and so the marking goes on
pub marking_goes_on : (w : World) (gone : ℕ → Bool) (left : (ℕ × ℕ) → Bool) (a t : ℕ) → IsRawGraph w → IsMarking w gone left → gone a ≡ true → holds w.pairs a t ≡ true → left (a, t) ≡ true
    → ((b : ℕ) → count_where left w.pairs b ≡ cond (t == b) 1 0 + count_where (λ e. left e && not (is_pair a t e)) w.pairs b)
    × (count_where (λ e. left e && not (is_pair a t e)) w.pairs t ≡ 0 → IsMarking w (λ b. gone b || (b == t)) (λ e. left e && not (is_pair a t e)))
    × ((count_where (λ e. left e && not (is_pair a t e)) w.pairs t ≡ 0 → ⊥) → IsMarking w gone (λ e. left e && not (is_pair a t e)))
marking_goes_on w gone left a t raw marking is held here =
    let lowered = marking_lowered w gone left a t marking is in (
      λ b. count_lowered left w.pairs a t b raw.laid_out.rising held here,
      λ none. marking_found w gone (λ e. left e && not (is_pair a t e)) t raw.laid_out.each_block lowered (raw.targets a t held) (not_primary w t (raw.apart a t held)) (count_zero (λ e. left e && not (is_pair a t e)) w.pairs t none),
      λ some. let found = some_left (λ e. left e && not (is_pair a t e)) w.pairs t some in marking_still_led w gone (λ e. left e && not (is_pair a t e)) t found.0 lowered found.1 found.2,
    )

-- a pointer was deleted
pub count_deleted : (left : (ℕ × ℕ) → Bool) (es : List (ℕ × ℕ)) (a t b : ℕ) → is_rising es ≡ true → holds es a t ≡ true → left (a, t) ≡ true
    → count_where left es b ≡ cond (t == b) 1 0 + count_where left (without_pair a t es) b
count_deleted left es a t b rising held is = count-without_pair (λ e. (e.1 == b) && left e) es a t rising held
    ∙ ap (λ n. n + count_where left (without_pair a t es) b) (ap (λ s. cond ((t == b) && s) 1 0) is ∙ ap (λ s. cond s 1 0) (and_true (t == b)))

-- one pair more was counted off
pub off_lowered : (left : (ℕ × ℕ) → Bool) (es : List (ℕ × ℕ)) (x t : ℕ) → is_rising es ≡ true → holds es x t ≡ true → left (x, t) ≡ true
    → length (filter (λ e. not (left e && not (is_pair x t e))) es) ≡ suc (length (filter (λ e. not (left e)) es))
off_lowered left es x t rising held is =
    count_but_pair (λ e. not (left e && not (is_pair x t e))) es x t rising held
    ∙ (ap (λ s. cond (not (left (x, t) && not s)) 1 0 + length (filter (λ e. not (left e && not (is_pair x t e)) && not (is_pair x t e)) es)) (is_pair_same (x, t))
    ∙ (ap (λ s. cond (not s) 1 0 + length (filter (λ e. not (left e && not (is_pair x t e)) && not (is_pair x t e)) es)) (and_right (left (x, t)) false refl)
    ∙ (ap (λ fs. 1 + length fs) (filter_held (λ e. not (left e && not (is_pair x t e)) && not (is_pair x t e)) (λ e. not (left e)) es one) ∙ next (length (filter (λ e. not (left e)) es)))))
  where
    next : (n : ℕ) → 1 + n ≡ suc n
    next n = omega arith

    both : (s : Bool) → (not (s && true) && true) ≡ not s
    both true = refl
    both false = refl

    one : (a c : ℕ) → holds es a c ≡ true → (not (left (a, c) && not (is_pair x t (a, c))) && not (is_pair x t (a, c))) ≡ not (left (a, c))
    one a c _ = elim (is_pair x t (a, c)) as (λ s. is_pair x t (a, c) ≡ s → (not (left (a, c) && not s) && not s) ≡ not (left (a, c))) [
      | true ↦ λ e. and_right (not (left (a, c) && false)) false refl ∙ sym (ap not (ap left (is_pair_ext x t (a, c) e) ∙ is))
      | false ↦ λ e. both (left (a, c))
    ] refl

-- one block more is marked
pub marked_more : (gone : ℕ → Bool) (n t : ℕ) → t < n → gone t ≡ false → length (filter (λ b. gone b || (b == t)) (range_with_len 0 n)) ≡ suc (length (filter gone (range_with_len 0 n)))
marked_more gone n t within new =
    count_but_number (λ b. gone b || (b == t)) 0 n t (omega arith) (omega arith) (or_right (gone t) (t == t) (eq-eqb t t refl))
    ∙ ap (λ xs. suc (length xs)) (filter_agree (λ b. (gone b || (b == t)) && not (b == t)) gone one (range_with_len 0 n))
  where
    both : (s : Bool) → ((s || false) && true) ≡ s
    both true = refl
    both false = refl

    one : (b : ℕ) → ((gone b || (b == t)) && not (b == t)) ≡ gone b
    one b = elim (b == t) as (λ s. (b == t) ≡ s → ((gone b || s) && not s) ≡ gone b) [
      | true ↦ λ e. and_right (gone b || true) false refl ∙ sym (ap gone (eqb-true b t e) ∙ new)
      | false ↦ λ e. both (gone b)
    ] refl

-- a block is doomed exactly where it is live, isn't primary, and its count is 0
pub doomed_by_count : (r : World) → length r.blocks ≡ r.geometry.blocks → (b : ℕ) → has_number (doomed r) b ≡ ((is_live r b && not (is_primary r b)) && (kept_count r b == 0))
doomed_by_count r long b = same_tests (has_number (doomed r) b) ((is_live r b && not (is_primary r b)) && (kept_count r b == 0))
    (λ is. and_from (is_live r b && not (is_primary r b)) (kept_count r b == 0)
    (and_from (is_live r b) (not (is_primary r b)) (doomed_is_live r long b is) (ap not (doomed_is_no_primary r long b is)))
    (eq-eqb (kept_count r b) 0 (zero_count (λ e. not (has_number (doomed r) e.0)) r.pairs b (λ a held. ap not (source_is_doomed r long a b is held)))))
    (λ h. let parts = and_parts (is_live r b && not (is_primary r b)) (kept_count r b == 0) h in let here = and_parts (is_live r b) (not (is_primary r b)) parts.0 in
    doomed_from r long b here.0 (not-true (is_primary r b) here.1)
    (λ a held. not-false (has_number (doomed r) a) (count_zero (λ e. not (has_number (doomed r) e.0)) r.pairs b (eqb-true (kept_count r b) 0 parts.1) a held)))
