-- The least of what passes a test, or that nothing does.
use Rattle.std.proofs.Common.{◌≡◌, ℕ, zero, suc, ◌<◌, true, false, inl, inr, Bool, ◌⊎◌, ◌&&◌, ◌||◌, nat_lt, List, [], ◌∷◌, sym, ◌∙◌, ap, subst, arith}
use Rattle.std.proofs.Common.{Option}
use Rattle.image_world.proofs.Common.{cases_Bool, cases_eq, cases_lt, and_parts, and_from, both_ways, false_from_ne_true, nat_tests, is_pair, holds, pair_lt, is_below_first, is_rising, is_pair_ext, lt_trans, lt_itself, above_first, holds_first, is_at, IsRepeated, is_at_same, is_at_some}
use Rattle.tsd_model.proofs.ValueLaws.{or_true}

-- ---- numbers
pub record Least (test : ℕ → Bool) (n : ℕ) : Type 0 where
  pub number : ℕ
  pub inside : number < n
  pub passes : test number ≡ true
  pub least : (j : ℕ) → j < number → test j ≡ false

pub least_below : (test : ℕ → Bool) (n : ℕ) → ((k : ℕ) → k < n → test k ≡ false) ⊎ Least test n
least_below test zero = inl (λ k h. absurd (omega arith))
least_below test (suc n) = elim (least_below test n) [
  | inr found ↦ inr (record { number = found.number; inside = (let less = found.inside in omega arith); passes = found.passes; least = found.least })
  | inl none ↦ elim (cases_Bool (test n)) [
    | inl does ↦ inr (record { number = n; inside = omega arith; passes = does; least = none })
    | inr fails ↦ inl (λ k h. elim (cases_eq k n) [ inl same ↦ ap test same ∙ fails | inr other ↦ none k (omega arith) ])
  ]
]

-- ---- pairs of an ascending list
pub record LeastPair (P : (ℕ × ℕ) → Type 0) (es : List (ℕ × ℕ)) : Type 0 where
  pub pair : ℕ × ℕ
  pub held : holds es pair.0 pair.1 ≡ true
  pub has : P pair
  pub least : (f : ℕ × ℕ) → holds es f.0 f.1 ≡ true → P f → pair_lt f pair ≡ false

not_below : (e f : ℕ × ℕ) → pair_lt e f ≡ true → pair_lt f e ≡ false
not_below e f below = false_from_ne_true (pair_lt f e) (λ above. lt_itself e (lt_trans e f e below above))

pub least_pair : (P : (ℕ × ℕ) → Type 0) → ((e : ℕ × ℕ) → P e ⊎ (P e → ⊥)) → (es : List (ℕ × ℕ)) → is_rising es ≡ true
    → ((e : ℕ × ℕ) → holds es e.0 e.1 ≡ true → P e → ⊥) ⊎ LeastPair P es
least_pair P decides [] rising = inl (λ e held. absurd (cc))
least_pair P decides (e ∷ es) rising = elim (decides e) [
  | inl does ↦ inr (record {
    pair = e;
    held = holds_first e es;
    has = does;
    least = λ f held bad. elim (cases_Bool (is_pair f.0 f.1 e)) [
      | inl same ↦ let is : e ≡ f = is_pair_ext f.0 f.1 e same in subst (λ (g : ℕ × ℕ). pair_lt f g ≡ false) (sym is) (false_from_ne_true (pair_lt f f) (lt_itself f))
      | inr other ↦ not_below e f (above_first e es f.0 f.1 first.0 first.1 (later f held other))
    ];
  })
  | inr fails ↦ elim (least_pair P decides es first.1) [
    | inl none ↦ inl (λ f held bad. elim (cases_Bool (is_pair f.0 f.1 e)) [
      | inl same ↦ fails (subst P (sym (is_pair_ext f.0 f.1 e same)) bad)
      | inr other ↦ none f (later f held other) bad
    ])
    | inr found ↦ inr (record {
      pair = found.pair;
      held = rw found.held (or_true (is_pair found.pair.0 found.pair.1 e));
      has = found.has;
      least = λ f held bad. elim (cases_Bool (is_pair f.0 f.1 e)) [
        | inl same ↦ absurd (fails (subst P (sym (is_pair_ext f.0 f.1 e same)) bad))
        | inr other ↦ found.least f (later f held other) bad
      ];
    })
  ]
]
  where
    first : (is_below_first e es ≡ true) × (is_rising es ≡ true)
    first = and_parts (is_below_first e es) (is_rising es) rising

    later : (f : ℕ × ℕ) → holds (e ∷ es) f.0 f.1 ≡ true → is_pair f.0 f.1 e ≡ false → holds es f.0 f.1 ≡ true
    later f held other = rw other at held

-- ---- a pair in two slots
pub repeated_or_not : (n : ℕ) (slot : ℕ → Option (ℕ × ℕ)) (e : ℕ × ℕ) → IsRepeated n slot e ⊎ (IsRepeated n slot e → ⊥)
repeated_or_not n slot e = elim (least_below (λ k. is_at e.0 e.1 (slot k)) n) [
  | inl none ↦ inr (λ r. both_ways (is_at e.0 e.1 (slot r.second)) (none r.second r.inside) (is_at_same e.0 e.1 (slot r.second) r.other))
  | inr one ↦ elim (least_below (λ k. nat_lt one.number k && is_at e.0 e.1 (slot k)) n) [
    | inl none ↦ inr (λ r.
        let low : nat_lt one.number r.second ≡ true = elim (cases_lt r.first one.number) [
          | inl less ↦ absurd (both_ways (is_at e.0 e.1 (slot r.first)) (one.least r.first less) (is_at_same e.0 e.1 (slot r.first) r.one))
          | inr more ↦ (let apart = r.apart in grind (arith, nat_tests))
        ] in
        both_ways (nat_lt one.number r.second && is_at e.0 e.1 (slot r.second)) (none r.second r.inside) (and_from (nat_lt one.number r.second) (is_at e.0 e.1 (slot r.second)) low (is_at_same e.0 e.1 (slot r.second) r.other)))
    | inr other ↦
        let parts = and_parts (nat_lt one.number other.number) (is_at e.0 e.1 (slot other.number)) other.passes in
        inl (record {
          first = one.number;
          second = other.number;
          apart = (let less = parts.0 in grind (arith, nat_tests));
          inside = other.inside;
          one = is_at_some e.0 e.1 (slot one.number) one.passes;
          other = is_at_some e.0 e.1 (slot other.number) parts.1;
        })
  ]
]
