-- The targets of a block one after another.
use Rattle.std.proofs.Common.{◌≡◌, ℕ, zero, suc, ◌+◌, ◌<◌, ◌≤◌, true, false, cond, ◌&&◌, ◌==◌, nat_le, List, [], ◌∷◌, length, take, drop, refl, sym, ◌∙◌, ap, subst, arith, inl, inr, Some, None, drop-cons}
use Rattle.image_audit.proofs.Common.{or_cases, or_left, or_right, and_parts, and_from, eqb-true, eq-eqb, leb-true, le-leb, both_ways, cases_lt, cases_Bool, nat_tests, filter, map, slice_index_or, holds, is_pair, is_rising, is_below_first, pair_lt, IsNextTarget, above_first, is_rising-filter, targets_on, left_in, IsPageOf, HasRest}
use Rattle.tsd_model.specs.Step.{targets_from}
use Rattle.pointer_table.proofs.NextLaws.{first_target}
use Rattle.pointer_table.proofs.SlotLaws.{rising-pairs_in}
use Rattle.image_world.specs.Tables.{Tables, pairs_of}
use Rattle.image_world.specs.Raw.{world_with, left_of, blank_of}
use Rattle.image_audit.specs.declared.targets.Targets.{Targets}

-- the pairs that a volume tells ascend
pub told_rising : (t : Tables) → is_rising (blank_of t).pairs ≡ true
unfolding world_with left_of
told_rising t = elim (cases_Bool t.is_sweeping) [
  | inl e ↦ rw e (is_rising-filter _ (pairs_of t) (rising-pairs_in t.slots))
  | inr e ↦ rw e (is_rising-filter _ (pairs_of t) (rising-pairs_in t.slots))
]

-- where there are none, no target is left
pub none_on : (es : List (ℕ × ℕ)) (a s : ℕ) → targets_on es a s ≡ [] → IsNextTarget es a s None
none_on [] a s none b h = absurd (both_ways false refl h)
none_on (e ∷ es) a s none b h = elim ((e.0 == a) && nat_le s e.1) as (λ u. ((e.0 == a) && nat_le s e.1) ≡ u
    → map (λ f. f.1) (cond u (e ∷ filter (λ f. (f.0 == a) && nat_le s f.1) es) (filter (λ f. (f.0 == a) && nat_le s f.1) es)) ≡ [] → b < s) [
      | true ↦ λ _ k. absurd (cc)
      | false ↦ λ off k. elim (or_cases (is_pair a b e) (holds es a b) h) [
        | inl here ↦ let at = and_parts (e.0 == a) (e.1 == b) here in
            let same = eqb-true e.1 b at.1 in
            elim (cases_lt b s) [
              | inl lt ↦ lt
              | inr le ↦ absurd (both_ways ((e.0 == a) && nat_le s e.1) off (and_from (e.0 == a) (nat_le s e.1) at.0 (le-leb s e.1 (omega (arith, same, le)))))
            ]
        | inr later ↦ none_on es a s k b later
      ]
    ] refl none

-- the first one is the next one
pub first_on : (es : List (ℕ × ℕ)) (a s x : ℕ) (more : List ℕ) → is_rising es ≡ true → targets_on es a s ≡ x ∷ more → IsNextTarget es a s (Some x)
first_on [] a s x more rising is = absurd (cc)
first_on (e ∷ es) a s x more rising is =
    let parts = and_parts (is_below_first e es) (is_rising es) rising in
    elim ((e.0 == a) && nat_le s e.1) as (λ u. ((e.0 == a) && nat_le s e.1) ≡ u
    → map (λ f. f.1) (cond u (e ∷ filter (λ f. (f.0 == a) && nat_le s f.1) es) (filter (λ f. (f.0 == a) && nat_le s f.1) es)) ≡ x ∷ more → IsNextTarget (e ∷ es) a s (Some x)) [
      | true ↦ λ on k.
          let tests = and_parts (e.0 == a) (nat_le s e.1) on in
          let head : e.1 ≡ x = ap (λ xs. slice_index_or xs 0 0) k in
          subst (λ y. IsNextTarget (e ∷ es) a s (Some y)) head (record {
            there = or_left (is_pair a e.1 e) (holds es a e.1) (and_from (e.0 == a) (e.1 == e.1) tests.0 (eq-eqb e.1 e.1 refl));
            from = leb-true s e.1 tests.1;
            least = λ c held from. elim (or_cases (is_pair a c e) (holds es a c) held) [
              | inl here ↦ let same = eqb-true e.1 c (and_parts (e.0 == a) (e.1 == c) here).1 in omega (arith, same)
              | inr later ↦ above_target e a c (eqb-true e.0 a tests.0) (above_first e es a c parts.0 parts.1 later)
            ];
          })
      | false ↦ λ off k.
          let rest = first_on es a s x more parts.1 k in record {
            there = or_right (is_pair a x e) (holds es a x) rest.there;
            from = rest.from;
            least = λ c held from. elim (or_cases (is_pair a c e) (holds es a c) held) [
              | inl here ↦ let at = and_parts (e.0 == a) (e.1 == c) here in
                  let same = eqb-true e.1 c at.1 in
                  absurd (both_ways ((e.0 == a) && nat_le s e.1) off (and_from (e.0 == a) (nat_le s e.1) at.0 (le-leb s e.1 (omega (arith, same, from)))))
              | inr later ↦ rest.least c later from
            ];
          }
    ] refl is
  where
    above_target : (e : ℕ × ℕ) (a b : ℕ) → e.0 ≡ a → pair_lt e (a, b) ≡ true → e.1 ≤ b
    above_target e a b source lt = grind (arith, nat_tests)

-- ---- a page

pub new_page : (es : List (ℕ × ℕ)) (t : Targets) → t.position ≡ 0 → t.page ≡ targets_from es t.source t.from → HasRest es t
new_page es t first is = record {
  page = record { many = 64; first = ap (λ n. drop n t.page) first ∙ is; position = omega (arith, first) };
  some = λ none. empty (targets_on es t.source t.from) (sym (ap (λ n. drop n t.page) first ∙ is) ∙ none);
}
  where
    empty : (xs : List ℕ) → take 64 xs ≡ [] → xs ≡ []
    empty [] h = refl
    empty (x ∷ xs) h = absurd (cc)

-- what is left begins with the item at the place
left_is : (t : Targets) → t.position < length t.page → left_in t ≡ slice_index_or t.page t.position 0 ∷ drop (suc t.position) t.page
left_is t inside = drop-cons t.page t.position 0 inside

pub old_page : (es : List (ℕ × ℕ)) (t : Targets) → t.position < length t.page → IsPageOf es t → HasRest es t
old_page es t inside page = record {
  page = page;
  some = λ none. absurd (not_none (slice_index_or t.page t.position 0) (drop (suc t.position) t.page) (sym (left_is t inside) ∙ none));
}
  where
    not_none : (x : ℕ) (xs : List ℕ) → x ∷ xs ≡ [] → ⊥
    not_none x xs h = cc

-- of what is left the first is the next target, and the rest are those behind it
module _ (es : List (ℕ × ℕ)) (rising : is_rising es ≡ true) where
  split : (a s x : ℕ) (rest : List ℕ) (many : ℕ) → x ∷ rest ≡ take many (targets_on es a s) → IsNextTarget es a s (Some x) × ((left : ℕ) × (rest ≡ take left (targets_on es a (suc x))))
  split a s x rest zero h = absurd (cc)
  split a s x rest (suc many) h = elim (targets_on es a s) as (λ xs. targets_on es a s ≡ xs → x ∷ rest ≡ take (suc many) xs → IsNextTarget es a s (Some x) × ((left : ℕ) × (rest ≡ take left (targets_on es a (suc x))))) [
    | [] ↦ λ _ k. absurd (cc)
    | (y ∷ ys) ↦ λ is k.
        let up : x + 1 ≡ suc x = omega arith in
        let head : y ≡ x = sym (ap (λ xs. slice_index_or xs 0 0) k) in
        let tail : rest ≡ take many ys = ap (λ (xs : List ℕ). drop 1 xs) k in
        let next : IsNextTarget es a s (Some x) = subst (λ z. IsNextTarget es a s (Some z)) head (first_on es a s y ys rising is) in
        let behind : ys ≡ targets_on es a (suc x) = ap (λ (xs : List ℕ). drop 1 xs) (sym is ∙ first_target es a s x rising next) ∙ ap (targets_on es a) up in
        (next, (many, tail ∙ ap (take many) behind))
  ] refl h

  module _ (t : Targets) (inside : t.position < length t.page) (page : IsPageOf es t) where
    abbrev now : ℕ
    now = slice_index_or t.page t.position 0

    both : IsNextTarget es t.source t.from (Some now) × ((left : ℕ) × (drop (suc t.position) t.page ≡ take left (targets_on es t.source (suc now))))
    both = split t.source t.from now (drop (suc t.position) t.page) page.many (sym (left_is t inside) ∙ page.first)

    pub page_next : IsNextTarget es t.source t.from (Some now)
    page_next = both.0

    pub page_on : IsPageOf es (record { source = t.source; from = now + 1; page = t.page; position = t.position + 1 })
    page_on =
        let rest = both.1 in
        let up : t.position + 1 ≡ suc t.position = omega arith in
        let on : now + 1 ≡ suc now = omega arith in record {
          many = rest.0;
          first = ap (λ n. drop n t.page) up ∙ (rest.1 ∙ ap (λ n. take rest.0 (targets_on es t.source n)) (sym on));
          position = omega (arith, inside);
        }

pub page_ended : (es : List (ℕ × ℕ)) (t : Targets) → t.position ≡ length t.page → HasRest es t → IsNextTarget es t.source t.from None
page_ended es t end rest = none_on es t.source t.from (rest.some (ap (λ n. drop n t.page) end ∙ past t.page))
  where
    past : (xs : List ℕ) → drop (length xs) xs ≡ []
    past [] = refl
    past (x ∷ xs) = past xs

-- what the item at the place is, seen from before the page was turned
module _ (es : List (ℕ × ℕ)) (rising : is_rising es ≡ true) (t : Targets) (source from len : ℕ) (items : List ℕ)
    (s : t.source ≡ source) (f : t.from ≡ from) (l : len ≡ length t.page) (is : items ≡ t.page) (rest : HasRest es t) where
  pub ended_at : t.position ≡ len → IsNextTarget es source from None
  ended_at e = subst (λ n. IsNextTarget es n from None) s (subst (λ n. IsNextTarget es t.source n None) f (page_ended es t (e ∙ l) rest))

  within : (t.position ≡ len → ⊥) → t.position < length t.page
  within other = let position = rest.page.position in omega (arith, position, other, l)

  pub next_at : (t.position ≡ len → ⊥) → IsNextTarget es source from (Some (slice_index_or items t.position 0))
  next_at other = subst (λ xs. IsNextTarget es source from (Some (slice_index_or xs t.position 0))) (sym is)
      (subst (λ n. IsNextTarget es n from (Some (slice_index_or t.page t.position 0))) s (subst (λ n. IsNextTarget es t.source n (Some (slice_index_or t.page t.position 0))) f
      (page_next es rising t (within other) rest.page)))

  pub page_at : (t.position ≡ len → ⊥) → IsPageOf es (record { source = t.source; from = slice_index_or items t.position 0 + 1; page = t.page; position = t.position + 1 })
  page_at other = subst (λ xs. IsPageOf es (record { source = t.source; from = slice_index_or xs t.position 0 + 1; page = t.page; position = t.position + 1 })) (sym is)
      (page_on es rising t (within other) rest.page)
