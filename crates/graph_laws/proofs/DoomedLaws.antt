-- Which blocks are doomed, by the rule alone: doomed blocks are the least set that has each block that it must.
use Rattle.std.proofs.Common.{◌≡◌, ℕ, zero, suc, ◌<◌, Bool, true, false, not, ◌&&◌, ◌||◌, ◌==◌, List, length, refl, sym, ◌∙◌, ap, subst, ◌⊎◌, ◌↔◌, inl, inr}
use Rattle.graph_laws.proofs.Common.{eq-eqb, eqb-true, and_parts, and_from, not-true, both_ways, cases_Bool, cases_lt, lt-ltb, ltb-false, false_from_ne_true, list_all, holds, World, is_live, is_primary, all_blocks, has_number, is_led_only_from, hangs_on, doomed_rounds, doomed, has_number-filter, all_of_held, one_fails, is_doomed, not_primary, target_stays, source_stays, stays}
use Rattle.graph_laws.specs.Dooming.{TakesIn}

-- ---- where all pairs to a block come from

-- what holds of each pair that is held holds of all
pub all_from_held : (p : (ℕ × ℕ) → Bool) (es : List (ℕ × ℕ)) → ((a b : ℕ) → holds es a b ≡ true → p (a, b) ≡ true) → list_all p es ≡ true
all_from_held p es h = elim (cases_Bool (list_all p es)) [
  | inl passes ↦ passes
  | inr fails ↦ let found = one_fails p es fails in absurd (both_ways (p (found.0, found.1)) found.3 (h found.0 found.1 found.2))
]

pub led_only : (w : World) (gone : List ℕ) (b : ℕ) → ((a : ℕ) → holds w.pairs a b ≡ true → has_number gone a ≡ true) → is_led_only_from w gone b ≡ true
led_only w gone b h = all_from_held (λ e. not (e.1 == b) || has_number gone e.0) w.pairs one
  where
    one : (a c : ℕ) → holds w.pairs a c ≡ true → (not (c == b) || has_number gone a) ≡ true
    one a c held = elim (c == b) as (λ t. (c == b) ≡ t → (not t || has_number gone a) ≡ true) [
      | true ↦ λ e. h a (subst (λ x. holds w.pairs a x ≡ true) (eqb-true c b e) held)
      | false ↦ λ e. refl
    ] refl

only_if : (b : ℕ) (t : Bool) → (not (b == b) || t) ≡ true → t ≡ true
only_if b t g = let same = eq-eqb b b refl in subst (λ x. (not x || t) ≡ true) same g

pub led_by : (w : World) (gone : List ℕ) (a b : ℕ) → is_led_only_from w gone b ≡ true → holds w.pairs a b ≡ true → has_number gone a ≡ true
led_by w gone a b all held = only_if b (has_number gone a) (all_of_held (λ e. not (e.1 == b) || has_number gone e.0) w.pairs a b all held)

-- ---- the least set

-- What holds of each block that is live, not primary, and led to only by blocks of which it holds, holds of all doomed ones.
pub doomed_least : (w : World) (P : ℕ → Type 0)
    → ((b : ℕ) → is_live w b ≡ true → is_primary w b ≡ false → ((a : ℕ) → holds w.pairs a b ≡ true → P a) → P b)
    → (b : ℕ) → has_number (doomed w) b ≡ true → P b
doomed_least w P rule = each w.geometry.blocks
  where
    each : (r b : ℕ) → has_number (doomed_rounds w r) b ≡ true → P b
    each zero b h = absurd (cc)
    each (suc r) b h =
        let gone = doomed_rounds w r in
        let hangs = (and_parts (has_number (all_blocks w) b) (hangs_on w gone b) (sym (has_number-filter (hangs_on w gone) (all_blocks w) b) ∙ h)).1 in
        let parts = and_parts (is_live w b && not (is_primary w b)) (is_led_only_from w gone b) hangs in
        let here = and_parts (is_live w b) (not (is_primary w b)) parts.0 in
        rule b here.0 (not-true (is_primary w b) here.1) (λ a held. each r a (led_by w gone a b parts.1 held))

module _ (w : World) (long : length w.blocks ≡ w.geometry.blocks) where
  parts_of : (b : ℕ) → has_number (doomed w) b ≡ true → ((is_live w b && not (is_primary w b)) ≡ true) × (is_led_only_from w (doomed w) b ≡ true)
  parts_of b h = and_parts (is_live w b && not (is_primary w b)) (is_led_only_from w (doomed w) b) (sym (is_doomed w long b) ∙ h)

  pub doomed_is_no_primary : (b : ℕ) → has_number (doomed w) b ≡ true → is_primary w b ≡ false
  doomed_is_no_primary b h = not-true (is_primary w b) (and_parts (is_live w b) (not (is_primary w b)) (parts_of b h).0).1

  pub source_is_doomed : (a b : ℕ) → has_number (doomed w) b ≡ true → holds w.pairs a b ≡ true → has_number (doomed w) a ≡ true
  source_is_doomed a b h held = led_by w (doomed w) a b (parts_of b h).1 held

  pub doomed_from : (b : ℕ) → is_live w b ≡ true → is_primary w b ≡ false → ((a : ℕ) → holds w.pairs a b ≡ true → has_number (doomed w) a ≡ true) → has_number (doomed w) b ≡ true
  doomed_from b live other all = is_doomed w long b ∙ and_from (is_live w b && not (is_primary w b)) (is_led_only_from w (doomed w) b)
      (and_from (is_live w b) (not (is_primary w b)) live (ap not other)) (led_only w (doomed w) b all)

  -- the same rule, of doomed blocks alone
  pub doomed_least_of : (P : ℕ → Type 0)
      → ((b : ℕ) → has_number (doomed w) b ≡ true → ((a : ℕ) → holds w.pairs a b ≡ true → P a) → P b)
      → (b : ℕ) → has_number (doomed w) b ≡ true → P b
  doomed_least_of P rule b h = (doomed_least w (λ c. (has_number (doomed w) c ≡ true) × P c)
      (λ c live other all. let is = doomed_from c live other (λ a held. (all a held).0) in (is, rule c is (λ a held. (all a held).1))) b h).1

-- What is doomed in a world is doomed in another where it may be, and each further pair to it comes from a doomed block.
pub doomed_in : (v w : World) → length v.blocks ≡ v.geometry.blocks → length w.blocks ≡ w.geometry.blocks
    → ((b : ℕ) → has_number (doomed v) b ≡ true → (is_live w b ≡ true) × (is_primary w b ≡ false))
    → ((a b : ℕ) → has_number (doomed v) b ≡ true → holds w.pairs a b ≡ true → (holds v.pairs a b ≡ true) ⊎ (has_number (doomed w) a ≡ true))
    → (b : ℕ) → has_number (doomed v) b ≡ true → has_number (doomed w) b ≡ true
doomed_in v w vlong wlong may led = doomed_least_of v vlong (λ b. has_number (doomed w) b ≡ true) (λ b is all.
    doomed_from w wlong b (may b is).0 (may b is).1 (λ a held. elim (led a b is held) [ inl old ↦ all a old | inr new ↦ new ]))

-- ---- as laws

-- the doomed blocks take in each block that hangs on them
pub doomed_takes_in : (w : World) → length w.blocks ≡ w.geometry.blocks → TakesIn w (has_number (doomed w))
doomed_takes_in w long b live apart all = doomed_from w long b live (not_primary w b apart) all

-- and each set that does has all of them
pub doomed_in_each : (w : World) (set : ℕ → Bool) → TakesIn w set → (b : ℕ) → has_number (doomed w) b ≡ true → set b ≡ true
doomed_in_each w set takes = doomed_least w (λ b. set b ≡ true) (λ b live other all. takes b live (ltb-false b w.geometry.primaries other) all)

-- a live block stays exactly where it is primary or a pair leads to it from one that stays
pub stays_by_pairs : (w : World) (b : ℕ) → length w.blocks ≡ w.geometry.blocks → is_live w b ≡ true
    → (stays w b ≡ true) ↔ ((b < w.geometry.primaries) ⊎ ((a : ℕ) × (holds w.pairs a b ≡ true) × (stays w a ≡ true)))
stays_by_pairs w b long live = (
  λ here. elim (cases_lt b w.geometry.primaries) [ inl first ↦ inl first | inr apart ↦ inr (source_stays w long b apart here live) ],
  λ h. elim h [
    | inl first ↦ ap not (false_from_ne_true (has_number (doomed w) b) (λ is. both_ways (is_primary w b) (doomed_is_no_primary w long b is) (lt-ltb b w.geometry.primaries first)))
    | inr led ↦ target_stays w long led.0 b led.1 led.2
  ],
)

-- blocks each of which is led to by one of them stay
pub rings_stay : (w : World) (ring : ℕ → Bool) → ((b : ℕ) → ring b ≡ true → (a : ℕ) × (holds w.pairs a b ≡ true) × (ring a ≡ true)) → (b : ℕ) → ring b ≡ true → stays w b ≡ true
rings_stay w ring led b is = ap not (false_from_ne_true (has_number (doomed w) b) (λ gone.
    both_ways (ring b) (doomed_least w (λ c. ring c ≡ false) (λ c live apart all. false_from_ne_true (ring c) (λ on. let from = led c on in both_ways (ring from.0) (all from.0 from.1) from.2)) b gone) is))
