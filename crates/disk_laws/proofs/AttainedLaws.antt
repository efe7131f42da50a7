-- Where a level is attained.
use Rattle.std.proofs.Common.{◌≡◌, ℕ, zero, suc, ◌+◌, ◌<◌, ◌≤◌, Bool, true, false, cond, ◌||◌, ◌==◌, ◌↔◌, List, [], ◌∷◌, refl, sym, ◌∙◌, ap, subst, arith, inl, inr, ◌⊎◌, IsTrue}
use Rattle.disk_laws.proofs.Common.{cases_eq, cases_lt, eq-eqb, and_parts, and_from, or_cases, eqb-true, lt-ltb, or_left, or_right, map, filter, slice_index_or, list_any, range_with_len, is_pair, holds, sources_to, World, primary_blocks, Sessions, level_le, greatest, levels_from, level_from, shown_level, led_level, attained_from, attained, IsValid, after, at_rest, Shown, Level, PlaceKind, Request, ShownAttains, GrantAttains}
use Rattle.tsd_model.specs.declared.requests.Level.TheVariants as level
use Rattle.disk_laws.proofs.DoomLaws.{not_primary}
use Rattle.disk_laws.proofs.RunLaws.{run_geometry}
use Rattle.disk_laws.proofs.HeldLaws.{le_greater, not_bare}
use Rattle.disk_laws.proofs.GrantLaws.{levels_are_grants}

-- ---- the greatest of levels

or_swap : (s t : Bool) → (s || t) ≡ (t || s)
or_swap true true = refl
or_swap true false = refl
or_swap false true = refl
or_swap false false = refl

-- a level that isn't none is at most the greatest just where it is at most one of them
pub le_greatest : (l : Level) (ls : List Level) → level_le l level.Bare ≡ false → level_le l (greatest ls) ≡ list_any (level_le l) ls
le_greatest l [] some = some
le_greatest l (x ∷ ls) some = le_greater l x (greatest ls) ∙ (ap (λ t. t || level_le l x) (le_greatest l ls some) ∙ or_swap (list_any (level_le l) ls) (level_le l x))

-- one of a range
any_in_range : (p : Level → Bool) (f : ℕ → Level) (i n : ℕ) → list_any p (map f (range_with_len i n)) ≡ true → (o : ℕ) × (o < i + n) × (p (f o) ≡ true)
any_in_range p f i zero h = absurd (cc)
any_in_range p f i (suc n) h = elim (or_cases (p (f i)) (list_any p (map f (range_with_len (i + 1) n))) h) [
  | inl here ↦ (i, omega arith, here)
  | inr later ↦ let found = any_in_range p f (i + 1) n later in (found.0, omega arith, found.2)
]

in_range_any : (p : Level → Bool) (f : ℕ → Level) (i n o : ℕ) → i ≤ o → o < i + n → p (f o) ≡ true → list_any p (map f (range_with_len i n)) ≡ true
in_range_any p f i zero o from to h = absurd (omega arith)
in_range_any p f i (suc n) o from to h = elim (cases_eq o i) [
  | inl same ↦ or_left (p (f i)) _ (subst (λ k. p (f k) ≡ true) same h)
  | inr other ↦ or_right (p (f i)) _ (in_range_any p f (i + 1) n o (omega arith) (omega arith) h)
]

-- one of the sources
pub any_source : (p : Level → Bool) (f : ℕ → Level) (b : ℕ) (es : List (ℕ × ℕ)) → list_any p (map f (sources_to es b)) ≡ true → (a : ℕ) × (holds es a b ≡ true) × (p (f a) ≡ true)
any_source p f b [] h = absurd (cc)
any_source p f b (e ∷ es) h =
    elim (e.1 == b) as (λ t. (e.1 == b) ≡ t → list_any p (map f (map (λ g. g.0) (cond t (e ∷ filter (λ g. g.1 == b) es) (filter (λ g. g.1 == b) es)))) ≡ true → (a : ℕ) × (holds (e ∷ es) a b ≡ true) × (p (f a) ≡ true)) [
      | true ↦ λ to g. elim (or_cases (p (f e.0)) (list_any p (map f (sources_to es b))) g) [
        | inl here ↦ (e.0, or_left (is_pair e.0 b e) _ (and_from (e.0 == e.0) (e.1 == b) (eq-eqb e.0 e.0 refl) to), here)
        | inr later ↦ let found = any_source p f b es later in (found.0, or_right (is_pair found.0 b e) _ found.1, found.2)
      ]
      | false ↦ λ to g. let found = any_source p f b es g in (found.0, or_right (is_pair found.0 b e) _ found.1, found.2)
    ] refl h

pub source_any : (p : Level → Bool) (f : ℕ → Level) (b a : ℕ) (es : List (ℕ × ℕ)) → holds es a b ≡ true → p (f a) ≡ true → list_any p (map f (sources_to es b)) ≡ true
source_any p f b a [] h k = absurd (cc)
source_any p f b a (e ∷ es) h k =
    elim (e.1 == b) as (λ t. (e.1 == b) ≡ t → list_any p (map f (map (λ g. g.0) (cond t (e ∷ filter (λ g. g.1 == b) es) (filter (λ g. g.1 == b) es)))) ≡ true) [
      | true ↦ λ to. elim (or_cases (is_pair a b e) (holds es a b) h) [
        | inl here ↦ or_left (p (f e.0)) _ (subst (λ c. p (f c) ≡ true) (sym (eqb-true e.0 a (and_parts (e.0 == a) (e.1 == b) here).0)) k)
        | inr later ↦ or_right (p (f e.0)) _ (source_any p f b a es later k)
      ]
      | false ↦ λ to. elim (or_cases (is_pair a b e) (holds es a b) h) [
        | inl here ↦ let at = (and_parts (e.0 == a) (e.1 == b) here).1 in absurd (cc)
        | inr later ↦ source_any p f b a es later k
      ]
    ] refl

-- ---- what is attained

-- by what is held
abbrev HeldAttains : World → Sessions → ℕ → ℕ → Level → Type 0
HeldAttains w v s b l = (w.geometry.primaries ≤ b) × ((a o : ℕ) × (holds w.pairs a b ≡ true) × (o < w.geometry.primaries) × (level_le l (level_from v s o a) ≡ true))

pub at_primary : (w : World) (v : Sessions) (s b : ℕ) (shown : Shown) (o : ℕ) → b < w.geometry.primaries → attained_from w v s b shown o ≡ cond (o == b) (shown_level w b shown) level.Bare
at_primary w v s b shown o h = ap (λ t. cond t (cond (o == b) (shown_level w b shown) level.Bare) (led_level (levels_from v s o) b w.pairs)) (lt-ltb b w.geometry.primaries h)

pub at_other : (w : World) (v : Sessions) (s b : ℕ) (shown : Shown) (o : ℕ) → w.geometry.primaries ≤ b → attained_from w v s b shown o ≡ led_level (levels_from v s o) b w.pairs
at_other w v s b shown o h = ap (λ t. cond t (cond (o == b) (shown_level w b shown) level.Bare) (led_level (levels_from v s o) b w.pairs)) (not_primary w b h)

le_shown : (t : Bool) (l x : Level) → level_le l level.Bare ≡ false → level_le l (cond t x level.Bare) ≡ true → level_le l x ≡ true
le_shown true l x some h = h
le_shown false l x some h = absurd (cc)

pub attained_where : (w : World) (v : Sessions) (s b : ℕ) (shown : Shown) (l : Level) → level_le l level.Bare ≡ false → (level_le l (attained w v s b shown) ≡ true) ↔ (ShownAttains w b shown l ⊎ HeldAttains w v s b l)
attained_where w v s b shown l some = (forth, back)
  where
    any : level_le l (attained w v s b shown) ≡ list_any (level_le l) (map (attained_from w v s b shown) (primary_blocks w))
    any = le_greatest l (map (attained_from w v s b shown) (primary_blocks w)) some

    forth : level_le l (attained w v s b shown) ≡ true → ShownAttains w b shown l ⊎ HeldAttains w v s b l
    forth h =
        let found = any_in_range (level_le l) (attained_from w v s b shown) 0 w.geometry.primaries (sym any ∙ h) in
        elim (cases_lt b w.geometry.primaries) [
          | inl below ↦ inl (below, le_shown (found.0 == b) l (shown_level w b shown) some (ap (level_le l) (sym (at_primary w v s b shown found.0 below)) ∙ found.2))
          | inr above ↦
              let led : level_le l (led_level (levels_from v s found.0) b w.pairs) ≡ true = ap (level_le l) (sym (at_other w v s b shown found.0 above)) ∙ found.2 in
              let source = any_source (level_le l) (λ a. slice_index_or (levels_from v s found.0) a level.Bare) b w.pairs (sym (le_greatest l (map (λ a. slice_index_or (levels_from v s found.0) a level.Bare) (sources_to w.pairs b)) some) ∙ led) in
              inr (above, (source.0, found.0, source.1, omega (arith, found.1), source.2))
        ]

    from_origin : (o : ℕ) → o < w.geometry.primaries → level_le l (attained_from w v s b shown o) ≡ true → level_le l (attained w v s b shown) ≡ true
    from_origin o below h = any ∙ in_range_any (level_le l) (attained_from w v s b shown) 0 w.geometry.primaries o (omega arith) (omega arith) h

    back : ShownAttains w b shown l ⊎ HeldAttains w v s b l → level_le l (attained w v s b shown) ≡ true
    back (inl h) = from_origin b h.0 (ap (level_le l) (at_primary w v s b shown b h.0 ∙ ap (λ t. cond t (shown_level w b shown) level.Bare) (eq-eqb b b refl)) ∙ h.1)
    back (inr h) = from_origin h.1.1 h.1.3
        (ap (level_le l) (at_other w v s b shown h.1.1 h.0)
        ∙ (le_greatest l (map (λ a. slice_index_or (levels_from v s h.1.1) a level.Bare) (sources_to w.pairs b)) some
        ∙ source_any (level_le l) (λ a. slice_index_or (levels_from v s h.1.1) a level.Bare) b h.1.0 w.pairs h.1.2 h.1.4))

pub attained_by_history : (kind : PlaceKind) (w : World) (wants : List Bool) (qs : List Request) (s b : ℕ) (shown : Shown) (l : Level) → IsValid w → (l ≡ level.Bare → ⊥)
    → IsTrue (level_le l (attained (after kind (at_rest w) wants qs).world (after kind (at_rest w) wants qs).sessions s b shown))
    ↔ (ShownAttains (after kind (at_rest w) wants qs).world b shown l ⊎ GrantAttains kind w wants qs s b l)
attained_by_history kind w wants qs s b shown l valid some =
    let now = after kind (at_rest w) wants qs in
    let same : now.world.geometry ≡ w.geometry = run_geometry kind (at_rest w) wants qs in
    let where_held = attained_where now.world now.sessions s b shown l (not_bare l some) in (
      λ h. elim (where_held.0 h) [
        | inl known ↦ inl known
        | inr held ↦
            let below : held.1.1 < w.geometry.primaries = subst (λ g. held.1.1 < g.primaries) same held.1.3 in
            inr (subst (λ g. g.primaries ≤ b) same held.0, (held.1.0, held.1.1, held.1.2, below, sym (levels_are_grants kind w wants qs s held.1.1 held.1.0 l valid below some) ∙ held.1.4))
      ],
      λ h. where_held.1 (elim h [
        | inl known ↦ inl known
        | inr granted ↦ inr (subst (λ g. g.primaries ≤ b) (sym same) granted.0, (granted.1.0, granted.1.1, granted.1.2, subst (λ g. granted.1.1 < g.primaries) (sym same) granted.1.3, levels_are_grants kind w wants qs s granted.1.1 granted.1.0 l valid granted.1.3 some ∙ granted.1.4))
      ]),
    )
