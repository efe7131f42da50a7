-- A file in the making is given up: with the pointer to its inode all of it goes, and the world is as it was.
use Rattle.std.proofs.Common.{◌≡◌, ℕ, ◌≤◌, Bool, true, false, not, cond, ◌&&◌, ◌==◌, nat_lt, List, ◌∷◌, ◌++◌, length, refl, sym, ◌∙◌, ap, subst, inl, inr, ◌⊎◌, Option, Some, None}
use Rattle.inode_changes.proofs.Common.{and_parts, and_from, or_cases, or_left, eq-eqb, eqb-true, not-true, ltb-false, false_from_ne_true, is_some, is_none, World, contents, is_live, is_free, is_primary, has_number, are_apart, holds, is_pair, IsValid, without_pointer, holds-filter, is_rising-filter, free_may, not_primary, in_append, dropped, clash_free_live, both_ways, Making}
use Rattle.tsd_model.specs.Doomed.{doomed}
use Rattle.graph_laws.specs.Counts.{stays}
use Rattle.graph_laws.proofs.DoomedLaws.{doomed_least, doomed_from}
use Rattle.graph_laws.proofs.SettleLaws.{settle_same, valid_is_settled, none_doomed}
use Rattle.inode_changes.proofs.MakingLaws.{fan_is}
use Rattle.tsd_model.proofs.ValueLaws.{clash}

module _ (root : ℕ) (first : World) (valid : IsValid first) (d i : ℕ) (shared fresh : List ℕ) (w : World) (m : Making root first d i shared fresh w) where
  abbrev left : World
  left = without_pointer w d i

  abbrev news : ℕ → Bool
  news b = has_number (i ∷ fresh) b

  news_inode : has_number (i ∷ fresh) i ≡ true
  news_inode = or_left (i == i) _ (eq-eqb i i refl)

  long : length w.blocks ≡ length first.blocks
  long = m.valid.raw.sized.each_block ∙ (ap (λ g. g.blocks) m.geometry ∙ sym valid.raw.sized.each_block)

  held_then : (a b : ℕ) → holds left.pairs a b ≡ true → (holds w.pairs a b ≡ true) × (is_pair d i (a, b) ≡ false)
  held_then a b h =
      let parts = and_parts (holds w.pairs a b) (not (is_pair d i (a, b))) (sym (holds-filter (λ e. not (is_pair d i e)) w.pairs a b) ∙ h) in
      (parts.0, not-true (is_pair d i (a, b)) parts.1)

  -- a held pair is an old one, or that to the inode, or one out of it
  three_ways : (a b : ℕ) → holds w.pairs a b ≡ true → (holds first.pairs a b ≡ true) ⊎ (((d ≡ a) × (i ≡ b)) ⊎ ((i ≡ a) × (has_number (shared ++ fresh) b ≡ true)))
  three_ways a b h = elim (or_cases (holds first.pairs a b) _ (sym (m.pairs a b) ∙ h)) [
    | inl was ↦ inl was
    | inr more ↦ elim (or_cases (is_pair a b (d, i)) _ more) [
      | inl to ↦ let parts = and_parts (d == a) (i == b) to in inr (inl (eqb-true d a parts.0, eqb-true i b parts.1))
      | inr out ↦ inr (inr (fan_is i (shared ++ fresh) a b out))
    ]
  ]

  no_target : (a b : ℕ) → has_number (i ∷ fresh) b ≡ true → holds first.pairs a b ≡ true → ⊥
  no_target a b new h = clash_free_live first b (m.free b new) (valid.raw.targets a b h)

  no_source : (a b : ℕ) → has_number (i ∷ fresh) a ≡ true → holds first.pairs a b ≡ true → ⊥
  no_source a b new h = clash_free_live first a (m.free a new) (valid.raw.sources a b h)

  same_pair : (a b : ℕ) → d ≡ a → i ≡ b → is_pair d i (a, b) ≡ true
  same_pair a b p q = and_from (a == d) (b == i) (eq-eqb a d (sym p)) (eq-eqb b i (sym q))

  not_own : has_number (shared ++ fresh) i ≡ true → ⊥
  not_own h = elim (in_append shared fresh i h) [
    | inl old ↦ clash_free_live first i (m.free i news_inode) (m.old i old)
    | inr part ↦ clash (has_number fresh i) part (not-true (has_number fresh i) (and_parts (not (has_number fresh i)) (are_apart fresh) m.once).0)
  ]

  new_apart : (b : ℕ) → has_number (i ∷ fresh) b ≡ true → is_primary left b ≡ false
  new_apart b new = not_primary left b (subst (λ g. g.primaries ≤ b) (sym m.geometry) (free_may first valid.raw b (m.free b new)).1)

  inode_doomed : has_number (doomed left) i ≡ true
  inode_doomed = doomed_from left m.valid.raw.sized.each_block i (m.lives i news_inode) (new_apart i news_inode) (λ a h.
      let was = held_then a i h in
      elim (three_ways a i was.0) [
        | inl old ↦ absurd (no_target a i news_inode old)
        | inr more ↦ elim more [
          | inl to ↦ absurd (clash (is_pair d i (a, i)) (same_pair a i to.0 refl) was.1)
          | inr out ↦ absurd (not_own out.1)
        ]
      ])

  new_doomed : (b : ℕ) → has_number (i ∷ fresh) b ≡ true → has_number (doomed left) b ≡ true
  new_doomed b new = elim (or_cases (i == b) (has_number fresh b) new) [
    | inl here ↦ subst (λ k. has_number (doomed left) k ≡ true) (eqb-true i b here) inode_doomed
    | inr part ↦ doomed_from left m.valid.raw.sized.each_block b (m.lives b new) (new_apart b new) (λ a h.
        let was = held_then a b h in
        elim (three_ways a b was.0) [
          | inl old ↦ absurd (no_target a b new old)
          | inr more ↦ elim more [
            | inl to ↦ absurd (clash (is_pair d i (a, b)) (same_pair a b to.0 to.1) was.1)
            | inr out ↦ subst (λ k. has_number (doomed left) k ≡ true) out.0 inode_doomed
          ]
        ])
  ]

  doomed_new : (b : ℕ) → has_number (doomed left) b ≡ true → has_number (i ∷ fresh) b ≡ true
  doomed_new = doomed_least left (λ b. has_number (i ∷ fresh) b ≡ true) (λ c lives other all.
      elim (has_number (i ∷ fresh) c) as (λ t. has_number (i ∷ fresh) c ≡ t → t ≡ true) [
        | true ↦ λ e. refl
        | false ↦ λ e. absurd (
            let was : is_live first c ≡ true = ap is_some (sym (m.bytes c e)) ∙ lives in
            let from = valid.led_to c (subst (λ g. g.primaries ≤ c) m.geometry (ltb-false c w.geometry.primaries other)) was in
            no_source from.0 c (all from.0 (still from.0 c e from.1)) from.1)
      ] refl)
    where
      still : (a c : ℕ) → has_number (i ∷ fresh) c ≡ false → holds first.pairs a c ≡ true → holds left.pairs a c ≡ true
      still a c e h = holds-filter (λ f. not (is_pair d i f)) w.pairs a c
          ∙ and_from (holds w.pairs a c) (not (is_pair d i (a, c))) (m.pairs a c ∙ or_left (holds first.pairs a c) _ h)
          (ap not (false_from_ne_true (is_pair d i (a, c)) (λ p. clash (has_number (i ∷ fresh) c)
          (or_left (i == c) _ (eq-eqb i c (sym (eqb-true c i (and_parts (a == d) (c == i) p).1)))) e)))

  stays_first : (b : ℕ) → stays first b ≡ true
  stays_first b = ap not (none_doomed first valid.led_to b)

  free_none : (b : ℕ) → is_free first b ≡ true → contents first b ≡ None
  free_none b h = none_of (contents first b) (and_parts (nat_lt b (length first.blocks)) (is_none (contents first b)) h).1
    where
      none_of : (o : Option (List ℕ)) → is_none o ≡ true → o ≡ None
      none_of None e = refl
      none_of (Some x) e = absurd (cc)

  same_contents : (b : ℕ) → cond (stays left b) (contents left b) None ≡ cond (stays first b) (contents first b) None
  same_contents b = elim (has_number (i ∷ fresh) b) as (λ t. has_number (i ∷ fresh) b ≡ t → cond (stays left b) (contents left b) None ≡ cond (stays first b) (contents first b) None) [
    | true ↦ λ e. ap (λ t. cond (not t) (contents left b) None) (new_doomed b e) ∙ (sym (free_none b (m.free b e)) ∙ sym (ap (λ t. cond t (contents first b) None) (stays_first b)))
    | false ↦ λ e. ap (λ t. cond (not t) (contents left b) None) (false_from_ne_true (has_number (doomed left) b) (λ k. clash (has_number (i ∷ fresh) b) (doomed_new b k) e))
        ∙ (m.bytes b e ∙ sym (ap (λ t. cond t (contents first b) None) (stays_first b)))
  ] refl

  same_held : (a b : ℕ) → (holds left.pairs a b && stays left a) ≡ (holds first.pairs a b && stays first a)
  same_held a b = both_ways (holds left.pairs a b && stays left a) (holds first.pairs a b && stays first a)
      (λ h.
      let parts = and_parts (holds left.pairs a b) (stays left a) h in
      let was = held_then a b parts.0 in
      and_from (holds first.pairs a b) (stays first a) (elim (three_ways a b was.0) [
        | inl old ↦ old
        | inr more ↦ elim more [
          | inl to ↦ absurd (clash (is_pair d i (a, b)) (same_pair a b to.0 to.1) was.1)
          | inr out ↦ absurd (clash (has_number (doomed left) a) (subst (λ k. has_number (doomed left) k ≡ true) out.0 inode_doomed) (not-true (has_number (doomed left) a) parts.1))
        ]
      ]) (stays_first a))
      (λ h.
      let parts = and_parts (holds first.pairs a b) (stays first a) h in
      and_from (holds left.pairs a b) (stays left a)
      (holds-filter (λ f. not (is_pair d i f)) w.pairs a b
      ∙ and_from (holds w.pairs a b) (not (is_pair d i (a, b))) (m.pairs a b ∙ or_left (holds first.pairs a b) _ parts.0)
      (ap not (false_from_ne_true (is_pair d i (a, b)) (λ p. no_target a i news_inode (subst (λ k. holds first.pairs a k ≡ true) (eqb-true b i (and_parts (a == d) (b == i) p).1) parts.0)))))
      (ap not (false_from_ne_true (has_number (doomed left) a) (λ k. no_source a b (doomed_new a k) parts.0))))

  -- the pointer to the new inode is dropped
  pub taken_back : dropped w d i ≡ first
  taken_back = settle_same left first m.geometry m.version m.records long (is_rising-filter (λ e. not (is_pair d i e)) w.pairs m.valid.raw.rising) valid.raw.rising same_contents same_held ∙ valid_is_settled first valid
