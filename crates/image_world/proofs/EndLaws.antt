-- The least pair with an end that isn't live, one slot more.
use Rattle.std.proofs.Common.{◌≡◌, ◌⊎◌, ℕ, ◌+◌, ◌≤◌, Bool, true, false, cond, inl, inr, List, refl, sym, ◌∙◌, ap, arith}
use Rattle.std.proofs.Common.{Option, Some, None}
use Rattle.image_world.proofs.Common.{cases_lt, both_ways, nat_tests, pair_lt, slot_at, lesser_pair, are_live, loose_in, IsLooseBefore, IsLeastLoose}

-- a pair that isn't below a lesser one isn't below
not_below : (f e g : ℕ × ℕ) → pair_lt f e ≡ false → pair_lt g e ≡ true → pair_lt f g ≡ false
not_below f e g h k = grind (arith, nat_tests)

same_not_below : (e : ℕ × ℕ) → pair_lt e e ≡ false
same_not_below e = grind (arith, nat_tests)

-- such a pair stands before this slot, or in it
split : (slots : List (Option (ℕ × ℕ))) (live : List Bool) (k : ℕ) (f : ℕ × ℕ) → IsLooseBefore slots live (k + 1) f
    → IsLooseBefore slots live k f ⊎ ((slot_at slots k ≡ Some f) × (are_live live f ≡ false))
split slots live k f b = elim (cases_lt b.position k) [
  | inl less ↦ inl (record { position = b.position; before = less; held = b.held; loose = b.loose })
  | inr from ↦ inr (ap (slot_at slots) (let before = b.before in let here : k ≡ b.position = omega arith in here) ∙ b.held, b.loose)
]

later : (slots : List (Option (ℕ × ℕ))) (live : List Bool) (k : ℕ) (f : ℕ × ℕ) → IsLooseBefore slots live k f → IsLooseBefore slots live (k + 1) f
later slots live k f b = record { position = b.position; before = omega (arith, b.before); held = b.held; loose = b.loose }

pub loose_none : (slots : List (Option (ℕ × ℕ))) (live : List Bool) → IsLeastLoose slots live 0 None
loose_none slots live f b = omega (arith, b.before)

-- where no slot from one on holds a pair
sooner : (slots : List (Option (ℕ × ℕ))) (live : List Bool) (k end : ℕ) (f : ℕ × ℕ) → ((j : ℕ) → k ≤ j → slot_at slots j ≡ None) → IsLooseBefore slots live end f → IsLooseBefore slots live k f
sooner slots live k end f none b = elim (cases_lt b.position k) [
  | inl less ↦ record { position = b.position; before = less; held = b.held; loose = b.loose }
  | inr from ↦ (let empty = none b.position from in let held = b.held in absurd (cc))
]

pub loose_behind : (slots : List (Option (ℕ × ℕ))) (live : List Bool) (k end : ℕ) (least : Option (ℕ × ℕ)) → k ≤ end → ((j : ℕ) → k ≤ j → slot_at slots j ≡ None) → IsLeastLoose slots live k least → IsLeastLoose slots live end least
loose_behind slots live k end None inside none so_far = λ f b. so_far f (sooner slots live k end f none b)
loose_behind slots live k end (Some e) inside none so_far = (
  record { position = so_far.0.position; before = omega (arith, so_far.0.before, inside); held = so_far.0.held; loose = so_far.0.loose },
  λ f b. so_far.1 f (sooner slots live k end f none b),
)

-- a slot without such a pair
none_more : (slots : List (Option (ℕ × ℕ))) (live : List Bool) (k : ℕ) (least : Option (ℕ × ℕ)) → ((f : ℕ × ℕ) → slot_at slots k ≡ Some f → are_live live f ≡ true)
    → IsLeastLoose slots live k least → IsLeastLoose slots live (k + 1) least
none_more slots live k None fine so_far = λ f b. elim (split slots live k f b) [
  | inl before ↦ so_far f before
  | inr here ↦ both_ways (are_live live f) here.1 (fine f here.0)
]
none_more slots live k (Some e) fine so_far = (
  later slots live k e so_far.0,
  λ f b. elim (split slots live k f b) [
    | inl before ↦ so_far.1 f before
    | inr here ↦ absurd (both_ways (are_live live f) here.1 (fine f here.0))
  ],
)

-- a slot with one
some_more : (slots : List (Option (ℕ × ℕ))) (live : List Bool) (k : ℕ) (g : ℕ × ℕ) (least : Option (ℕ × ℕ)) → slot_at slots k ≡ Some g → are_live live g ≡ false
    → IsLeastLoose slots live k least → IsLeastLoose slots live (k + 1) (lesser_pair least (Some g))
some_more slots live k g None held loose so_far = (
  record { position = k; before = omega arith; held = held; loose = loose },
  λ f b. elim (split slots live k f b) [
    | inl before ↦ absurd (so_far f before)
    | inr here ↦ let same : Some f ≡ Some g = sym here.0 ∙ held in let one : f ≡ g = cc in ap (λ x. pair_lt x g) one ∙ same_not_below g
  ],
)
some_more slots live k g (Some e) held loose so_far =
    elim (pair_lt g e) as (λ t. pair_lt g e ≡ t → IsLeastLoose slots live (k + 1) (cond t (Some g) (Some e))) [
      | true ↦ λ lower. (
        record { position = k; before = omega arith; held = held; loose = loose },
        λ f b. elim (split slots live k f b) [
          | inl before ↦ not_below f e g (so_far.1 f before) lower
          | inr here ↦ let same : Some f ≡ Some g = sym here.0 ∙ held in let one : f ≡ g = cc in ap (λ x. pair_lt x g) one ∙ same_not_below g
        ],
      )
      | false ↦ λ higher. (
        later slots live k e so_far.0,
        λ f b. elim (split slots live k f b) [
          | inl before ↦ so_far.1 f before
          | inr here ↦ let same : Some f ≡ Some g = sym here.0 ∙ held in let one : f ≡ g = cc in ap (λ x. pair_lt x e) one ∙ higher
        ],
      )
    ] refl

pub loose_more : (slots : List (Option (ℕ × ℕ))) (live : List Bool) (k : ℕ) (least : Option (ℕ × ℕ)) → IsLeastLoose slots live k least
    → IsLeastLoose slots live (k + 1) (lesser_pair least (loose_in live (slot_at slots k)))
loose_more slots live k least so_far = at (slot_at slots k) refl
  where
    at : (slot : Option (ℕ × ℕ)) → slot_at slots k ≡ slot → IsLeastLoose slots live (k + 1) (lesser_pair least (loose_in live slot))
    at None is = none_more slots live k least (λ f held. let same : None ≡ Some f = sym is ∙ held in absurd (cc)) so_far
    at (Some g) is =
        elim (are_live live g) as (λ t. are_live live g ≡ t → IsLeastLoose slots live (k + 1) (lesser_pair least (cond t None (Some g)))) [
          | true ↦ λ fine. none_more slots live k least (λ f held. let same : Some f ≡ Some g = sym held ∙ is in let one : f ≡ g = cc in ap (are_live live) one ∙ fine) so_far
          | false ↦ λ loose. some_more slots live k g least is loose so_far
        ] refl
