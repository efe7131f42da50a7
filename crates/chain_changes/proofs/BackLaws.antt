-- A chain in the making is given up: with the pointer to its first block all of it goes, and the world is as it was.
use Rattle.std.proofs.Common.{◌≡◌, ℕ, ◌<◌, ◌≤◌, Bool, true, false, not, cond, ◌&&◌, ◌||◌, ◌==◌, nat_lt, List, [], ◌∷◌, length, refl, sym, ◌∙◌, ap, subst, inl, inr, arith, Option, Some, None}
use Rattle.chain_changes.proofs.Common.{and_parts, and_from, or_cases, or_left, or_right, eq-eqb, eqb-true, not-true, ltb-false, false_from_ne_true, is_some, is_none, slice_index_or, World, contents, is_live, is_free, is_primary, has_number, are_apart, holds, is_pair, IsValid, without_pointer, holds-filter, is_rising-filter, free_may, not_primary, links, dropped, clash_free_live, Making}
use Rattle.tsd_model.specs.Doomed.{doomed}
use Rattle.graph_laws.specs.Counts.{stays}
use Rattle.graph_laws.proofs.DoomedLaws.{doomed_least, doomed_from}
use Rattle.graph_laws.proofs.SettleLaws.{settle_same, valid_is_settled, none_doomed}
use Rattle.chain_changes.proofs.LinkLaws.{link_target, link_source}
use Rattle.tsd_model.proofs.ValueLaws.{clash, or_false}

both_ways : (s t : Bool) → (s ≡ true → t ≡ true) → (t ≡ true → s ≡ true) → s ≡ t
both_ways true t f g = sym (f refl)
both_ways false true f g = g refl
both_ways false false f g = refl

-- along a chain: what is led to from there alone goes with the one before it
module _ (P : ℕ → Type 0) (held : ℕ → ℕ → Bool) (among : List ℕ) (falls : (b : ℕ) → has_number among b ≡ true → ((a : ℕ) → held a b ≡ true → P a) → P b) where
  pub all_fall : (a : ℕ) (bs : List ℕ) → P a → ((b : ℕ) → has_number bs b ≡ true → has_number among b ≡ true) → are_apart bs ≡ true → ((x y : ℕ) → has_number bs y ≡ true → held x y ≡ true → holds (links (a ∷ bs)) x y ≡ true) → (b : ℕ) → has_number bs b ≡ true → P b
  all_fall a [] first ins once only b h = absurd (cc)
  all_fall a (d ∷ bs) first ins once only b h =
      let parts = and_parts (not (has_number bs d)) (are_apart bs) once in
      let off : has_number bs d ≡ false = not-true (has_number bs d) parts.0 in
      let here : P d = falls d (ins d (or_left (d == d) _ (eq-eqb d d refl))) (λ x k. elim (or_cases (is_pair x d (a, d)) (holds (links (d ∷ bs)) x d) (only x d (or_left (d == d) _ (eq-eqb d d refl)) k)) [
        | inl pair ↦ subst P (eqb-true a x (and_parts (a == x) (d == d) pair).0) first
        | inr later ↦ absurd (clash (has_number bs d) (link_target d bs x d later) off)
      ]) in
      let rest = λ (x y : ℕ) (m : has_number bs y ≡ true) (k : held x y ≡ true). later_pair a d bs off x y m (only x y (or_right (d == y) _ m) k) in
      elim (or_cases (d == b) (has_number bs b) h) [
        | inl same ↦ subst P (eqb-true d b same) here
        | inr later ↦ all_fall d bs here (λ z k. ins z (or_right (d == z) _ k)) parts.1 rest b later
      ]
    where
      later_pair : (a d : ℕ) (bs : List ℕ) → has_number bs d ≡ false → (x y : ℕ) → has_number bs y ≡ true → holds (links (a ∷ d ∷ bs)) x y ≡ true → holds (links (d ∷ bs)) x y ≡ true
      later_pair a d bs off x y m k = elim (or_cases (is_pair x y (a, d)) (holds (links (d ∷ bs)) x y) k) [
        | inl pair ↦ absurd (clash (has_number bs d) (subst (λ z. has_number bs z ≡ true) (sym (eqb-true d y (and_parts (a == x) (d == y) pair).1)) m) off)
        | inr later ↦ later
      ]

module _ (root : ℕ) (first : World) (valid : IsValid first) (source i : ℕ) (rest : List ℕ) (w : World) (m : Making root first source (i ∷ rest) w) where
  abbrev blocks : List ℕ
  blocks = i ∷ rest

  abbrev left : World
  left = without_pointer w source i

  long : length w.blocks ≡ length first.blocks
  long = m.valid.raw.sized.each_block ∙ (ap (λ g. g.blocks) m.geometry ∙ sym valid.raw.sized.each_block)

  held_then : (a b : ℕ) → holds left.pairs a b ≡ true → (holds w.pairs a b ≡ true) × (is_pair source i (a, b) ≡ false)
  held_then a b h =
      let parts = and_parts (holds w.pairs a b) (not (is_pair source i (a, b))) (sym (holds-filter (λ e. not (is_pair source i e)) w.pairs a b) ∙ h) in
      (parts.0, not-true (is_pair source i (a, b)) parts.1)

  no_target : (a b : ℕ) → has_number blocks b ≡ true → holds first.pairs a b ≡ true → ⊥
  no_target a b new h = clash_free_live first b (m.free b new) (valid.raw.targets a b h)

  no_source : (a b : ℕ) → has_number blocks a ≡ true → holds first.pairs a b ≡ true → ⊥
  no_source a b new h = clash_free_live first a (m.free a new) (valid.raw.sources a b h)

  new_apart : (b : ℕ) → has_number blocks b ≡ true → is_primary left b ≡ false
  new_apart b new = not_primary left b (subst (λ g. g.primaries ≤ b) (sym m.geometry) (free_may first valid.raw b (m.free b new)).1)

  -- the pairs that are left to a new block are those along the chain, but the first one
  left_pair : (a b : ℕ) → has_number blocks b ≡ true → holds left.pairs a b ≡ true → (holds (links (source ∷ blocks)) a b ≡ true) × (is_pair source i (a, b) ≡ false)
  left_pair a b new h =
      let was = held_then a b h in
      elim (or_cases (holds first.pairs a b) (holds (links (source ∷ blocks)) a b) (sym (m.pairs a b) ∙ was.0)) [
        | inl old ↦ absurd (no_target a b new old)
        | inr along ↦ (along, was.1)
      ]

  head_in : has_number blocks i ≡ true
  head_in = or_left (i == i) _ (eq-eqb i i refl)

  once_parts : (not (has_number rest i) ≡ true) × (are_apart rest ≡ true)
  once_parts = and_parts (not (has_number rest i)) (are_apart rest) m.once

  off_head : has_number rest i ≡ false
  off_head = not-true (has_number rest i) once_parts.0

  later_pair : (a b : ℕ) → holds (links (source ∷ blocks)) a b ≡ true → is_pair source i (a, b) ≡ false → holds (links (i ∷ rest)) a b ≡ true
  later_pair a b h off = elim (or_cases (is_pair a b (source, i)) (holds (links (i ∷ rest)) a b) h) [
    | inl pair ↦ absurd (clash (is_pair source i (a, b)) (and_from (a == source) (b == i) (eq-eqb a source (sym (eqb-true source a (and_parts (source == a) (i == b) pair).0))) (eq-eqb b i (sym (eqb-true i b (and_parts (source == a) (i == b) pair).1)))) off)
    | inr later ↦ later
  ]

  goes_doomed : (b : ℕ) → has_number blocks b ≡ true → ((a : ℕ) → holds left.pairs a b ≡ true → has_number (doomed left) a ≡ true) → has_number (doomed left) b ≡ true
  goes_doomed b new all = doomed_from left m.valid.raw.sized.each_block b (m.lives b new) (new_apart b new) all

  head_doomed : has_number (doomed left) i ≡ true
  head_doomed = goes_doomed i head_in (λ a h.
      let was = left_pair a i head_in h in
      absurd (clash (has_number rest i) (link_target i rest a i (later_pair a i was.0 was.1)) off_head))

  new_doomed : (b : ℕ) → has_number blocks b ≡ true → has_number (doomed left) b ≡ true
  new_doomed b new = elim (or_cases (i == b) (has_number rest b) new) [
    | inl here ↦ subst (λ k. has_number (doomed left) k ≡ true) (eqb-true i b here) head_doomed
    | inr later ↦ all_fall (λ k. has_number (doomed left) k ≡ true) (λ x y. holds left.pairs x y) blocks goes_doomed i rest head_doomed (λ z k. or_right (i == z) _ k) once_parts.1
        (λ x y n h. let was = left_pair x y (or_right (i == y) _ n) h in later_pair x y was.0 was.1) b later
  ]

  doomed_new : (b : ℕ) → has_number (doomed left) b ≡ true → has_number blocks b ≡ true
  doomed_new = doomed_least left (λ b. has_number blocks b ≡ true) (λ c lives other all.
      elim (has_number blocks c) as (λ t. has_number blocks c ≡ t → t ≡ true) [
        | true ↦ λ e. refl
        | false ↦ λ e. absurd (
            let was : is_live first c ≡ true = ap is_some (sym (m.bytes c e)) ∙ lives in
            let from = valid.led_to c (subst (λ g. g.primaries ≤ c) m.geometry (ltb-false c w.geometry.primaries other)) was in
            no_source from.0 c (all from.0 (still from.0 c e from.1)) from.1)
      ] refl)
    where
      still : (a c : ℕ) → has_number blocks c ≡ false → holds first.pairs a c ≡ true → holds left.pairs a c ≡ true
      still a c e h = holds-filter (λ f. not (is_pair source i f)) w.pairs a c
          ∙ and_from (holds w.pairs a c) (not (is_pair source i (a, c))) (m.pairs a c ∙ or_left (holds first.pairs a c) _ h)
          (ap not (false_from_ne_true (is_pair source i (a, c)) (λ p. clash (has_number blocks c)
          (or_left (i == c) _ (eq-eqb i c (sym (eqb-true c i (and_parts (a == source) (c == i) p).1)))) e)))

  stays_first : (b : ℕ) → stays first b ≡ true
  stays_first b = ap not (none_doomed first valid.led_to b)

  free_none : (b : ℕ) → is_free first b ≡ true → contents first b ≡ None
  free_none b h = none_of (contents first b) (and_parts (nat_lt b (length first.blocks)) (is_none (contents first b)) h).1
    where
      none_of : (o : Option (List ℕ)) → is_none o ≡ true → o ≡ None
      none_of None e = refl
      none_of (Some x) e = absurd (cc)

  same_contents : (b : ℕ) → cond (stays left b) (contents left b) None ≡ cond (stays first b) (contents first b) None
  same_contents b = elim (has_number blocks b) as (λ t. has_number blocks b ≡ t → cond (stays left b) (contents left b) None ≡ cond (stays first b) (contents first b) None) [
    | true ↦ λ e. ap (λ t. cond (not t) (contents left b) None) (new_doomed b e) ∙ (sym (free_none b (m.free b e)) ∙ sym (ap (λ t. cond t (contents first b) None) (stays_first b)))
    | false ↦ λ e. ap (λ t. cond (not t) (contents left b) None) (false_from_ne_true (has_number (doomed left) b) (λ k. clash (has_number blocks b) (doomed_new b k) e))
        ∙ (m.bytes b e ∙ sym (ap (λ t. cond t (contents first b) None) (stays_first b)))
  ] refl

  same_held : (a b : ℕ) → (holds left.pairs a b && stays left a) ≡ (holds first.pairs a b && stays first a)
  same_held a b = both_ways (holds left.pairs a b && stays left a) (holds first.pairs a b && stays first a)
      (λ h.
      let parts = and_parts (holds left.pairs a b) (stays left a) h in
      let was = held_then a b parts.0 in
      and_from (holds first.pairs a b) (stays first a) (elim (or_cases (holds first.pairs a b) (holds (links (source ∷ blocks)) a b) (sym (m.pairs a b) ∙ was.0)) [
        | inl old ↦ old
        | inr along ↦ absurd (clash (has_number (doomed left) a) (new_doomed a (link_source i rest a b (later_pair a b along was.1))) (not-true (has_number (doomed left) a) parts.1))
      ]) (stays_first a))
      (λ h.
      let parts = and_parts (holds first.pairs a b) (stays first a) h in
      and_from (holds left.pairs a b) (stays left a)
      (holds-filter (λ f. not (is_pair source i f)) w.pairs a b
      ∙ and_from (holds w.pairs a b) (not (is_pair source i (a, b))) (m.pairs a b ∙ or_left (holds first.pairs a b) _ parts.0)
      (ap not (false_from_ne_true (is_pair source i (a, b)) (λ p. no_target a i head_in (subst (λ k. holds first.pairs a k ≡ true) (eqb-true b i (and_parts (a == source) (b == i) p).1) parts.0)))))
      (ap not (false_from_ne_true (has_number (doomed left) a) (λ k. no_source a b (doomed_new a k) parts.0))))

  -- the pointer to the first new block is dropped
  pub taken_back : dropped w source i ≡ first
  taken_back = settle_same left first m.geometry m.version m.records long (is_rising-filter (λ e. not (is_pair source i e)) w.pairs m.valid.raw.rising) valid.raw.rising same_contents same_held ∙ valid_is_settled first valid

-- nothing was made
module _ (root : ℕ) (first : World) (valid : IsValid first) (source : ℕ) (w : World) (m : Making root first source [] w) where
  all_stay : (v : World) → IsValid v → (b : ℕ) → stays v b ≡ true
  all_stay v valid_v b = ap not (none_doomed v valid_v.led_to b)

  same_pairs : (a b : ℕ) → (holds w.pairs a b && stays w a) ≡ (holds first.pairs a b && stays first a)
  same_pairs a b = ap (λ t. t && stays w a) (m.pairs a b ∙ or_false (holds first.pairs a b)) ∙ ap (λ t. holds first.pairs a b && t) (all_stay w m.valid a ∙ sym (all_stay first valid a))

  pub nothing_made : w ≡ first
  nothing_made =
      sym (valid_is_settled w m.valid) ∙ (settle_same w first m.geometry m.version m.records
      (m.valid.raw.sized.each_block ∙ (ap (λ g. g.blocks) m.geometry ∙ sym valid.raw.sized.each_block)) m.valid.raw.rising valid.raw.rising
      (λ b. ap (λ t. cond t (contents w b) None) (all_stay w m.valid b) ∙ (m.bytes b refl ∙ sym (ap (λ t. cond t (contents first b) None) (all_stay first valid b))))
      same_pairs ∙ valid_is_settled first valid)

-- the chain, if there is one, is given up
pub is_back : (root : ℕ) (first : World) → IsValid first → (source i : ℕ) (blocks : List ℕ) (w : World) → 1 ≤ length blocks → i ≡ slice_index_or blocks 0 0 → Making root first source blocks w → dropped w source i ≡ first
is_back root first valid source i [] w some is m = absurd (omega arith)
is_back root first valid source i (b ∷ bs) w some is m = ap (dropped w source) is ∙ taken_back root first valid source b bs w m

pub first_held : (root : ℕ) (first : World) (source i : ℕ) (blocks : List ℕ) (w : World) → 1 ≤ length blocks → i ≡ slice_index_or blocks 0 0 → Making root first source blocks w → holds w.pairs source i ≡ true
first_held root first source i [] w some is m = absurd (omega arith)
first_held root first source i (b ∷ bs) w some is m =
    m.pairs source i ∙ or_right (holds first.pairs source i) _ (or_left (is_pair source i (source, b)) _ (and_from (source == source) (b == i) (eq-eqb source source refl) (eq-eqb b i (sym is))))

pub none_back : (root : ℕ) (first : World) → IsValid first → (source : ℕ) (blocks : List ℕ) (w : World) → length blocks < 1 → Making root first source blocks w → w ≡ first
none_back root first valid source [] w none m = nothing_made root first valid source w m
none_back root first valid source (b ∷ bs) w none m = absurd (omega arith)
