-- The greatest of the levels at the sources of the pairs to a block, source by source.
use Rattle.std.proofs.Common.{inl, inr, ◌≡◌, ℕ, zero, suc, ◌+◌, ◌-◌, ◌<◌, ◌≤◌, true, false, cond, ◌&&◌, ◌||◌, ◌==◌, List, [], ◌∷◌, ◌++◌, length, replicate, refl, sym, ◌∙◌, ap, subst, arith, IsTrue}
use Rattle.std.specs.Prelude.{filter, map, slice_index_or, slice_set}
use Rattle.std.proofs.lemmas.Bool.{eq-eqb, ne_eqb, lt-ltb, le-ltb, cases_lt, cases_eq}
use Rattle.std.proofs.lemmas.List.{get_or_past, ext_get_or, get_or_append_left, get_or-append_right, get_or-set_same, get_or-set_other, length-set, get_or-replicate, length-replicate, length-append}
use Rattle.std.proofs.lemmas.List.FromFn.{length-map-range_with_len, get_or-map-range_with_len}
use Rattle.tsd_model.specs.World.{World, has_number}
use Rattle.tsd_model.specs.Pairs.{holds, sources_to}
use Rattle.tsd_model.specs.Sessions.{Held, Sessions, levels_from, level_le, level_rank, greater, greatest}
use Rattle.tsd_model.specs.Attained.{shown_level, led_level, attained_from, attained_origins, attained}
use Rattle.tsd_model.proofs.LevelLaws.{led_level_nothing}
use Rattle.tsd_model.specs.declared.caps.Shown.{Shown}
use Rattle.tsd_model.specs.declared.requests.Level.{Level}
use Rattle.tsd_model.specs.declared.requests.Level.TheVariants.{Bare, Read, Write}
use Rattle.grant_table.specs.Granted.{attained_at, no_origins}
use Rattle.grant_table.specs.Led.{level_at, AreFound}

pub bare-greater : (l : Level) → greater Bare l ≡ l
bare-greater Bare = refl
bare-greater Read = refl
bare-greater Write = refl

-- a pair is held exactly where its source is among those of the pairs to its target
holds-sources : (es : List (ℕ × ℕ)) (a b : ℕ) → holds es a b ≡ has_number (sources_to es b) a
holds-sources [] a b = refl
holds-sources (e ∷ es) a b = elim (e.1 == b) as (λ t. (((e.0 == a) && t) || holds es a b) ≡ has_number (map (λ f. f.0) (cond t (e ∷ filter (λ f. f.1 == b) es) (filter (λ f. f.1 == b) es))) a) [
  | true ↦ elim (e.0 == a) as (λ u. ((u && true) || holds es a b) ≡ (u || has_number (sources_to es b) a)) [ true ↦ refl | false ↦ holds-sources es a b ]
  | false ↦ elim (e.0 == a) as (λ u. ((u && false) || holds es a b) ≡ has_number (sources_to es b) a) [ true ↦ holds-sources es a b | false ↦ holds-sources es a b ]
]

-- each number of a list is such
abbrev pub Each : (ℕ → Type 0) → List ℕ → Type 0
Each P [] = Unit {0}
Each P (x ∷ xs) = P x × Each P xs

-- what holds of each member holds of all
all-members : (P : ℕ → Type 0) (xs : List ℕ) → ((c : ℕ) → IsTrue (has_number xs c) → P c) → Each P xs
all-members P [] h = tt
all-members P (x ∷ xs) h = (
  h x (subst (λ t. IsTrue (t || has_number xs x)) (sym (eq-eqb x x refl)) refl),
  all-members P xs (λ c g. h c (elim (x == c) as (λ t. IsTrue (t || has_number xs c)) [ true ↦ refl | false ↦ g ])),
)

pub all-sources : (P : ℕ → Type 0) (es : List (ℕ × ℕ)) (b : ℕ) → ((c : ℕ) → IsTrue (holds es c b) → P c) → Each P (sources_to es b)
all-sources P es b h = all-members P (sources_to es b) (λ c g. h c (subst (λ t. IsTrue t) (sym (holds-sources es c b)) g))

pub no_origins-bare : (o : ℕ) → slice_index_or no_origins o Bare ≡ Bare
no_origins-bare o = elim (cases_lt o 16) [
  | inl l ↦ get_or-replicate 16 o Bare Bare l
  | inr l ↦ get_or_past no_origins o Bare l
]

-- ---- levels by their ranks
pub rank-left : (l m : Level) → level_rank l ≤ level_rank (greater l m)
rank-left Bare m = omega arith
rank-left Read Bare = omega arith
rank-left Read Read = omega arith
rank-left Read Write = omega arith
rank-left Write Bare = omega arith
rank-left Write Read = omega arith
rank-left Write Write = omega arith

pub rank-right : (l m : Level) → level_rank m ≤ level_rank (greater l m)
rank-right l Bare = omega arith
rank-right Bare Read = omega arith
rank-right Read Read = omega arith
rank-right Write Read = omega arith
rank-right Bare Write = omega arith
rank-right Read Write = omega arith
rank-right Write Write = omega arith

pub rank-greater : (l m : Level) (n : ℕ) → level_rank l ≤ n → level_rank m ≤ n → level_rank (greater l m) ≤ n
rank-greater l m n one other = elim (level_le l m) as (λ t. level_rank (cond t m l) ≤ n) [ true ↦ other | false ↦ one ]

pub rank-equal : (l m : Level) → level_rank l ≤ level_rank m → level_rank m ≤ level_rank l → l ≡ m
rank-equal Bare Bare one other = refl
rank-equal Bare Read one other = absurd (omega arith)
rank-equal Bare Write one other = absurd (omega arith)
rank-equal Read Bare one other = absurd (omega arith)
rank-equal Read Read one other = refl
rank-equal Read Write one other = absurd (omega arith)
rank-equal Write Bare one other = absurd (omega arith)
rank-equal Write Read one other = absurd (omega arith)
rank-equal Write Write one other = refl

pub rank-write : (l : Level) → level_rank l ≤ 2
rank-write Bare = omega arith
rank-write Read = omega arith
rank-write Write = omega arith

-- the greatest of levels is at least each of them, and at most what each of them is
rank_member : (f : ℕ → Level) (a : ℕ) (xs : List ℕ) → IsTrue (has_number xs a) → level_rank (f a) ≤ level_rank (greatest (map f xs))
rank_member f a [] h = absurd (cc)
rank_member f a (x ∷ xs) h = elim (cases_eq x a) [
  | inl e ↦ subst (λ y. level_rank (f y) ≤ level_rank (greater (f x) (greatest (map f xs)))) e (rank-left (f x) (greatest (map f xs)))
  | inr ne ↦
      let more = rank_member f a xs (subst (λ t. IsTrue (t || has_number xs a)) (ne_eqb x a ne) h) in
      let right = rank-right (f x) (greatest (map f xs)) in
      omega (arith, more, right)
]

rank_all : (f : ℕ → Level) (n : ℕ) (xs : List ℕ) → Each (λ x. level_rank (f x) ≤ n) xs → level_rank (greatest (map f xs)) ≤ n
rank_all f n [] h = omega arith
rank_all f n (x ∷ xs) h = rank-greater (f x) (greatest (map f xs)) n h.0 (rank_all f n xs h.1)

rank_source : (levels : List Level) (es : List (ℕ × ℕ)) (a b : ℕ) → IsTrue (holds es a b) → level_rank (slice_index_or levels a Bare) ≤ level_rank (led_level levels b es)
rank_source levels es a b held = rank_member (λ x. slice_index_or levels x Bare) a (sources_to es b) (subst (λ t. IsTrue t) (holds-sources es a b) held)

-- ---- the levels found so far
-- none below 0
pub found_none : (held : Held) (es : List (ℕ × ℕ)) (b : ℕ) → AreFound held es b 0 no_origins
found_none held es b = record {
  sized = length-replicate 16 Bare;
  led = λ o h. subst (λ l. level_rank l ≤ level_rank (led_level (slice_index_or held o []) b es)) (sym (no_origins-bare o)) (omega arith);
  below = λ o a h within there. absurd (omega arith);
}

-- each level becomes the greater of itself and what is held at a source
pub found_kept : (held : Held) (es : List (ℕ × ℕ)) (a b n : ℕ) (old new : List Level) → IsTrue (holds es a b) → length new ≡ length old →
    ((o : ℕ) → o < 16 → slice_index_or new o Bare ≡ greater (slice_index_or old o Bare) (level_at held o a)) →
    AreFound held es b n old → AreFound held es b n new
found_kept held es a b n old new there same each found = record {
  sized = same ∙ found.sized;
  led = λ o h. subst (λ l. level_rank l ≤ level_rank (led_level (slice_index_or held o []) b es)) (sym (each o h))
      (rank-greater (slice_index_or old o Bare) (level_at held o a) (level_rank (led_level (slice_index_or held o []) b es)) (found.led o h) (rank_source (slice_index_or held o []) es a b there));
  below = λ o c h within source.
      let before = found.below o c h within source in
      let left = rank-left (slice_index_or old o Bare) (level_at held o a) in
      let is = ap level_rank (each o h) in
      omega (arith, before, left, is);
}

-- and with that the sources up to it are counted, where none lies between
pub found_next : (held : Held) (es : List (ℕ × ℕ)) (a b n : ℕ) (old new : List Level) → IsTrue (holds es a b) → length new ≡ length old →
    ((o : ℕ) → o < 16 → slice_index_or new o Bare ≡ greater (slice_index_or old o Bare) (level_at held o a)) →
    AreFound held es b n old → ((o c : ℕ) → IsTrue (holds es c b) → n ≤ c → c < a → level_at held o c ≡ Bare) → AreFound held es b (a + 1) new
found_next held es a b n old new there same each found between =
    let kept = found_kept held es a b n old new there same each found in
    record { sized = kept.sized; led = kept.led; below = below kept }
  where
    below : AreFound held es b n new → (o c : ℕ) → o < 16 → c < a + 1 → IsTrue (holds es c b) → level_rank (level_at held o c) ≤ level_rank (slice_index_or new o Bare)
    below kept o c h within source = elim (cases_lt c n) [
      | inl l ↦ kept.below o c h l source
      | inr g ↦ elim (cases_lt c a) [
        | inl l ↦ let bare = ap level_rank (between o c source g l) in omega (arith, bare)
        | inr k ↦
            let here : c ≡ a = omega arith in
            let right = rank-right (slice_index_or old o Bare) (level_at held o a) in
            let is = ap level_rank (each o h) in
            subst (λ x. level_rank (level_at held o x) ≤ level_rank (slice_index_or new o Bare)) (sym here) (omega (arith, right, is))
      ]
    ]

-- further blocks at which nothing counts
pub found_further : (held : Held) (es : List (ℕ × ℕ)) (b n m : ℕ) (found : List Level) → AreFound held es b n found →
    ((o c : ℕ) → IsTrue (holds es c b) → n ≤ c → c < m → level_at held o c ≡ Bare) → AreFound held es b m found
found_further held es b n m found old between = record {
  sized = old.sized;
  led = old.led;
  below = λ o c h within source. elim (cases_lt c n) [
    | inl l ↦ old.below o c h l source
    | inr g ↦ let bare = ap level_rank (between o c source g within) in omega (arith, bare)
  ];
}

-- all that is led to the block is found: where no more sources count, and where no level can be greater
pub found_all : (held : Held) (es : List (ℕ × ℕ)) (b n : ℕ) (found : List Level) → AreFound held es b n found →
    ((o c : ℕ) → IsTrue (holds es c b) → n ≤ c → level_at held o c ≡ Bare) → (o : ℕ) → o < 16 → slice_index_or found o Bare ≡ led_level (slice_index_or held o []) b es
found_all held es b n found are none o h =
    rank-equal (slice_index_or found o Bare) (led_level (slice_index_or held o []) b es) (are.led o h)
    (rank_all (λ a. level_at held o a) (level_rank (slice_index_or found o Bare)) (sources_to es b)
    (all-sources (λ a. level_rank (level_at held o a) ≤ level_rank (slice_index_or found o Bare)) es b
    (λ c source. elim (cases_lt c n) [
      | inl l ↦ are.below o c h l source
      | inr g ↦ let bare = ap level_rank (none o c source g) in omega (arith, bare)
    ])))

pub found_write : (held : Held) (es : List (ℕ × ℕ)) (b n : ℕ) (found : List Level) → AreFound held es b n found → ((o : ℕ) → o < length held → slice_index_or found o Bare ≡ Write) →
    (o : ℕ) → o < 16 → slice_index_or found o Bare ≡ led_level (slice_index_or held o []) b es
found_write held es b n found are full o h =
    rank-equal (slice_index_or found o Bare) (led_level (slice_index_or held o []) b es) (are.led o h) (elim (cases_lt o (length held)) [
      | inl l ↦ let is = ap level_rank (full o l) in let most = rank-write (led_level (slice_index_or held o []) b es) in omega (arith, is, most)
      | inr g ↦ let bare = ap (λ levels. level_rank (led_level levels b es)) (get_or_past held o [] g) ∙ ap level_rank (sym (led_level_nothing b es)) in omega (arith, bare)
    ])

-- sixteen levels, read one by one
pub attained_is : (w : World) (v : Sessions) (s b : ℕ) (shown : Shown) (xs : List Level) → length xs ≡ 16 → w.geometry.primaries ≤ 16 →
    ((o : ℕ) → o < w.geometry.primaries → slice_index_or xs o Bare ≡ attained_from w v s b shown o) →
    ((o : ℕ) → w.geometry.primaries ≤ o → slice_index_or xs o Bare ≡ Bare) → xs ≡ attained_at w v s b shown
attained_is w v s b shown xs long few each rest =
    ext_get_or Bare xs (attained_at w v s b shown) (omega (arith, length-append (attained_origins w v s b shown) (replicate (16 - w.geometry.primaries) Bare), first, length-replicate (16 - w.geometry.primaries) Bare)) at
  where
    first : length (attained_origins w v s b shown) ≡ w.geometry.primaries
    first = length-map-range_with_len (attained_from w v s b shown) 0 w.geometry.primaries

    last_bare : (k : ℕ) → slice_index_or (replicate (16 - w.geometry.primaries) Bare) k Bare ≡ Bare
    last_bare k = elim (cases_lt k (16 - w.geometry.primaries)) [
      | inl l ↦ get_or-replicate (16 - w.geometry.primaries) k Bare Bare l
      | inr l ↦ get_or_past (replicate (16 - w.geometry.primaries) Bare) k Bare (let e = length-replicate (16 - w.geometry.primaries) Bare in omega (arith, e))
    ]

    at : (o : ℕ) → o < length xs → slice_index_or xs o Bare ≡ slice_index_or (attained_at w v s b shown) o Bare
    at o h = elim (cases_lt o w.geometry.primaries) [
      | inl l ↦ each o l ∙ sym (get_or_append_left (attained_origins w v s b shown) (replicate (16 - w.geometry.primaries) Bare) Bare o (omega (arith, first))
          ∙ get_or-map-range_with_len (attained_from w v s b shown) 0 w.geometry.primaries o o Bare l (omega arith))
      | inr l ↦ rest o l ∙ sym (get_or-append_right (attained_origins w v s b shown) (replicate (16 - w.geometry.primaries) Bare) w.geometry.primaries o Bare first l ∙ last_bare (o - w.geometry.primaries))
    ]

-- at a primary block what is shown counts, and comes from that block
pub shown_is : (w : World) (v : Sessions) (s b : ℕ) (shown : Shown) → w.geometry.primaries ≤ 16 → b < w.geometry.primaries →
    slice_set no_origins b (greater (slice_index_or no_origins b Bare) (shown_level w b shown)) ≡ attained_at w v s b shown
shown_is w v s b shown few primary = attained_is w v s b shown (slice_set no_origins b to) (length-set no_origins b to) few each rest
  where
    to : Level
    to = greater (slice_index_or no_origins b Bare) (shown_level w b shown)

    from_block : attained_from w v s b shown b ≡ greater (slice_index_or no_origins b Bare) (shown_level w b shown)
    from_block = ap (λ t. cond t (cond (b == b) (shown_level w b shown) Bare) (led_level (levels_from v s b) b w.pairs)) (lt-ltb b w.geometry.primaries primary)
        ∙ (ap (λ t. cond t (shown_level w b shown) Bare) (eq-eqb b b refl) ∙ sym (ap (λ l. greater l (shown_level w b shown)) (no_origins-bare b) ∙ bare-greater (shown_level w b shown)))

    from_other : (o : ℕ) → (o ≡ b → ⊥) → attained_from w v s b shown o ≡ Bare
    from_other o ne = ap (λ t. cond t (cond (o == b) (shown_level w b shown) Bare) (led_level (levels_from v s o) b w.pairs)) (lt-ltb b w.geometry.primaries primary) ∙ ap (λ t. cond t (shown_level w b shown) Bare) (ne_eqb o b ne)

    each : (o : ℕ) → o < w.geometry.primaries → slice_index_or (slice_set no_origins b (greater (slice_index_or no_origins b Bare) (shown_level w b shown))) o Bare ≡ attained_from w v s b shown o
    each o h = elim (cases_eq o b) [
      | inl e ↦ subst (λ j. slice_index_or (slice_set no_origins b (greater (slice_index_or no_origins b Bare) (shown_level w b shown))) j Bare ≡ attained_from w v s b shown j) (sym e)
          (get_or-set_same no_origins b (greater (slice_index_or no_origins b Bare) (shown_level w b shown)) Bare (omega arith) ∙ sym from_block)
      | inr ne ↦ get_or-set_other no_origins b o (greater (slice_index_or no_origins b Bare) (shown_level w b shown)) Bare ne ∙ (no_origins-bare o ∙ sym (from_other o ne))
    ]

    rest : (o : ℕ) → w.geometry.primaries ≤ o → slice_index_or (slice_set no_origins b (greater (slice_index_or no_origins b Bare) (shown_level w b shown))) o Bare ≡ Bare
    rest o h = get_or-set_other no_origins b o (greater (slice_index_or no_origins b Bare) (shown_level w b shown)) Bare (λ e. omega arith) ∙ no_origins-bare o

-- at another block what is led to it counts
pub led_is : (w : World) (v : Sessions) (s b : ℕ) (shown : Shown) (xs : List Level) → length xs ≡ 16 → w.geometry.primaries ≤ 16 → w.geometry.primaries ≤ b →
    ((o : ℕ) → o < 16 → slice_index_or xs o Bare ≡ led_level (levels_from v s o) b w.pairs) →
    ((o : ℕ) → w.geometry.primaries ≤ o → levels_from v s o ≡ []) → xs ≡ attained_at w v s b shown
led_is w v s b shown xs long few other each nothing =
    attained_is w v s b shown xs long few
    (λ o h. each o (omega arith) ∙ sym (ap (λ t. cond t (cond (o == b) (shown_level w b shown) Bare) (led_level (levels_from v s o) b w.pairs)) (le-ltb b w.geometry.primaries other)))
    (λ o h. elim (cases_lt o 16) [
      | inl l ↦ each o l ∙ (ap (λ levels. led_level levels b w.pairs) (nothing o h) ∙ sym (led_level_nothing b w.pairs))
      | inr l ↦ get_or_past xs o Bare (omega arith)
    ])

-- their greatest is the attained level
greatest-bare : (ls : List Level) (k : ℕ) → greatest (ls ++ replicate k Bare) ≡ greatest ls
greatest-bare [] k = none k
  where
    none : (n : ℕ) → greatest (replicate n Bare) ≡ Bare
    none zero = refl
    none (suc n) = bare-greater (greatest (replicate n Bare)) ∙ none n
greatest-bare (l ∷ ls) k = ap (greater l) (greatest-bare ls k)

pub greatest-attained_at : (w : World) (v : Sessions) (s b : ℕ) (shown : Shown) → greatest (attained_at w v s b shown) ≡ attained w v s b shown
greatest-attained_at w v s b shown = greatest-bare (attained_origins w v s b shown) (16 - w.geometry.primaries)
