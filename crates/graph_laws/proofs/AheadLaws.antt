-- What keeps the counts of the pairs from blocks that aren't doomed.
use Rattle.std.proofs.Common.{◌≡◌, ℕ, ◌+◌, Bool, true, false, not, cond, ◌&&◌, ◌||◌, ◌==◌, nat_lt, List, [], ◌∷◌, length, Option, Some, None, is_some, is_none, refl, sym, ◌∙◌, ap, subst, arith, inl, inr}
use Rattle.graph_laws.proofs.Common.{eq-eqb, eqb-true, ne_eqb, and_parts, and_right, or_from, or_left, or_right, not-true, both_ways, cases_eq, false_from_ne_true, filter_agree, is_pair, holds, with_pair, count_to, World, contents, is_live, is_free, has_number, are_apart, doomed, settle, with_contents, with_pointer, without_pointer, zeros, with_new_blocks, holds-with_pair, contents-other, new_pair, old_pair, count_where, kept_count, doomed_pairs, IsLaidOut, IsRawGraph, EachIsLedTo, count-with_pair}
use Rattle.graph_laws.proofs.SettleLaws.{none_doomed, led_has_none, none_is_led}
use Rattle.graph_laws.proofs.CountLaws.{filter_twice}
use Rattle.graph_laws.proofs.CommuteLaws.{doomed-with_pointer}
use Rattle.graph_laws.proofs.MarkingLaws.{count_deleted}
use Rattle.graph_laws.proofs.WeightLaws.{doomed_same}
use Rattle.tsd_model.proofs.ValueLaws.{and_true}

-- where nothing is doomed it is the count of all pairs
pub kept_of_none : (w : World) → ((b : ℕ) → has_number (doomed w) b ≡ false) → (b : ℕ) → kept_count w b ≡ count_to w.pairs b
kept_of_none w none b = ap length (filter_agree (λ e. (e.1 == b) && not (has_number (doomed w) e.0)) (λ e. e.1 == b) (λ e. ap (λ t. (e.1 == b) && not t) (none e.0) ∙ and_true (e.1 == b)) w.pairs)

-- it is the count of all pairs of the settled world
pub kept_is_settled_count : (w : World) (b : ℕ) → kept_count w b ≡ count_to (settle w).pairs b
kept_is_settled_count w b = sym (ap length (filter_twice (λ e. e.1 == b) (λ e. not (has_number (doomed w) e.0)) w.pairs))

-- a pointer is added between blocks that aren't doomed
pub kept-with_pointer : (r : World) (a t b : ℕ) → IsLaidOut r → holds r.pairs a t ≡ false → has_number (doomed r) a ≡ false → has_number (doomed r) t ≡ false
    → kept_count (with_pointer r a t) b ≡ cond (t == b) 1 0 + kept_count r b
kept-with_pointer r a t b out new from to =
    ap length (filter_agree (λ e. (e.1 == b) && not (has_number (doomed (with_pointer r a t)) e.0)) (λ e. (e.1 == b) && not (has_number (doomed r) e.0)) (λ e. ap (λ d. (e.1 == b) && not d) (doomed-with_pointer r out a t to e.0)) (with_pair (a, t) r.pairs))
    ∙ (count-with_pair (λ e. (e.1 == b) && not (has_number (doomed r) e.0)) (a, t) r.pairs new
    ∙ ap (λ d. cond ((t == b) && not d) 1 0 + kept_count r b) from ∙ ap (λ s. cond s 1 0 + kept_count r b) (and_true (t == b)))

-- such a pointer changes neither the doomed blocks nor the pairs from them
pub doomed_list-with_pointer : (r : World) (a t : ℕ) → IsLaidOut r → has_number (doomed r) t ≡ false → doomed (with_pointer r a t) ≡ doomed r
doomed_list-with_pointer r a t out to = doomed_same (with_pointer r a t) r refl (doomed-with_pointer r out a t to)

pub doomed_pairs-with_pointer : (r : World) (a t : ℕ) → IsLaidOut r → holds r.pairs a t ≡ false → has_number (doomed r) a ≡ false → has_number (doomed r) t ≡ false
    → length (doomed_pairs (with_pointer r a t)) ≡ length (doomed_pairs r)
doomed_pairs-with_pointer r a t out new from to =
    ap length (filter_agree (λ e. has_number (doomed (with_pointer r a t)) e.0) (λ e. has_number (doomed r) e.0) (λ e. doomed-with_pointer r out a t to e.0) (with_pair (a, t) r.pairs))
    ∙ (count-with_pair (λ e. has_number (doomed r) e.0) (a, t) r.pairs new ∙ ap (λ d. cond d 1 0 + length (doomed_pairs r)) from ∙ zero_more (length (doomed_pairs r)))
  where
    zero_more : (n : ℕ) → 0 + n ≡ n
    zero_more n = omega arith

-- a pointer is deleted between blocks that aren't doomed: the count of its target is one less, before it is known what is doomed now
pub kept_deleted : (r : World) (a t b : ℕ) → IsLaidOut r → holds r.pairs a t ≡ true → has_number (doomed r) a ≡ false
    → kept_count r b ≡ cond (t == b) 1 0 + count_where (λ e. not (has_number (doomed r) e.0)) (without_pointer r a t).pairs b
kept_deleted r a t b out held from = count_deleted (λ e. not (has_number (doomed r) e.0)) r.pairs a t b out.rising held (ap not from)

-- ---- new blocks of a settled world

-- a new pair to each of these blocks raises its count by one
pub count-new_blocks : (a : ℕ) (bs : List ℕ) (w : World) → are_apart bs ≡ true → ((b : ℕ) → has_number bs b ≡ true → holds w.pairs a b ≡ false)
    → (c : ℕ) → count_to (with_new_blocks w a bs).pairs c ≡ cond (has_number bs c) 1 0 + count_to w.pairs c
count-new_blocks a [] w once new c = zero_more (count_to w.pairs c)
  where
    zero_more : (n : ℕ) → n ≡ 0 + n
    zero_more n = omega arith
count-new_blocks a (b ∷ bs) w once new c =
    let parts = and_parts (not (has_number bs b)) (are_apart bs) once in
    let out = not-true (has_number bs b) parts.0 in
    let rest = count-new_blocks a bs (with_pointer (with_contents w b (zeros w)) a b) parts.1
    (λ x in_. holds-with_pair (a, b) w.pairs a x ∙ or_from (is_pair a x (a, b)) (holds w.pairs a x)
    (and_right (a == a) (b == x) (ne_eqb b x (λ e. both_ways (has_number bs b) out (subst (λ k. has_number bs k ≡ true) (sym e) in_))))
    (new x (or_right (b == x) (has_number bs x) in_))) c in
    let here = count-with_pair (λ e. e.1 == c) (a, b) w.pairs (new b (or_left (b == b) (has_number bs b) (eq-eqb b b refl))) in
    rest ∙ (ap (λ n. cond (has_number bs c) 1 0 + n) here ∙ sums (b == c) (has_number bs c) (count_to w.pairs c) (λ e. subst (λ k. has_number bs k ≡ false) (eqb-true b c e) out))
  where
    sums : (s t : Bool) (n : ℕ) → (s ≡ true → t ≡ false) → cond t 1 0 + (cond s 1 0 + n) ≡ cond (s || t) 1 0 + n
    sums true true n h = let never = h refl in absurd (cc)
    sums true false n h = omega arith
    sums false true n h = omega arith
    sums false false n h = omega arith

-- where each block is led to, so it is with new blocks, to which pairs lead from a
led_to-new_blocks : (a : ℕ) (bs : List ℕ) (w : World) → EachIsLedTo w → EachIsLedTo (with_new_blocks w a bs)
led_to-new_blocks a [] w led = led
led_to-new_blocks a (b ∷ bs) w led = led_to-new_blocks a bs next (λ c apart live. elim (cases_eq c b) [
  | inl same ↦ (a, subst (λ k. holds next.pairs a k ≡ true) (sym same) (new_pair (with_contents w b (zeros w)) a b))
  | inr other ↦ let from = led c apart (ap is_some (sym (contents-other w b c (zeros w) other)) ∙ live) in (from.0, old_pair (with_contents w b (zeros w)) a b from.0 c from.1)
])
  where
    next : World
    next = with_pointer (with_contents w b (zeros w)) a b

free_is_dead : (w : World) (b : ℕ) → is_free w b ≡ true → is_live w b ≡ false
free_is_dead w b free = dead (contents w b) (and_parts (nat_lt b (length w.blocks)) (is_none (contents w b)) free).1
  where
    dead : (o : Option (List ℕ)) → is_none o ≡ true → is_some o ≡ false
    dead None e = refl
    dead (Some x) e = absurd (cc)

-- blocks are allocated where nothing is doomed: nothing is doomed then, and the count of each new block is one more
pub kept-new_blocks : (w : World) (a : ℕ) (bs : List ℕ) → IsRawGraph w → doomed w ≡ [] → are_apart bs ≡ true → ((b : ℕ) → has_number bs b ≡ true → is_free w b ≡ true)
    → (doomed (with_new_blocks w a bs) ≡ []) × ((c : ℕ) → kept_count (with_new_blocks w a bs) c ≡ cond (has_number bs c) 1 0 + kept_count w c)
kept-new_blocks w a bs raw none once free = (
  led_has_none now led,
  λ c.
      kept_of_none now (none_doomed now led) c
      ∙ (count-new_blocks a bs w once (λ b in_. false_from_ne_true (holds w.pairs a b) (λ held. both_ways (is_live w b) (free_is_dead w b (free b in_)) (raw.targets a b held))) c
      ∙ ap (λ n. cond (has_number bs c) 1 0 + n) (sym (kept_of_none w (λ b. ap (λ xs. has_number xs b) none) c))),
)
  where
    now : World
    now = with_new_blocks w a bs

    led : EachIsLedTo now
    led = led_to-new_blocks a bs w (none_is_led w raw.laid_out.each_block none)
