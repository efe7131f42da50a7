-- The greatest of levels.
use Rattle.std.proofs.Common.{◌≡◌, ℕ, suc, ◌+◌, ◌<◌, true, false, cond, ◌==◌, List, [], ◌∷◌, ◌++◌, length, take, refl, sym, ◌∙◌, ap, arith}
use Rattle.std.specs.Prelude.{map, filter, slice_index_or}
use Rattle.std.specs.List.{range_with_len, enumerate_from}
use Rattle.std.proofs.lemmas.List.{take_more, map-append, length-take-le}
use Rattle.tsd_model.specs.Pairs.{sources_to}
use Rattle.tsd_model.specs.Sessions.{greater, greatest, raised_level, raised_held}
use Rattle.tsd_model.specs.Attained.{led_level}
use Rattle.tsd_model.specs.declared.requests.Level.{Level}
use Rattle.tsd_model.specs.declared.requests.Level.TheVariants.{Bare, Read, Write}
use Rattle.tsd_model.proofs.RangeLaws.{filter-snoc, map_range_next}

pub greater-bare : (l : Level) → greater l Bare ≡ l
greater-bare Bare = refl
greater-bare Read = refl
greater-bare Write = refl

pub greater-assoc : (a b c : Level) → greater a (greater b c) ≡ greater (greater a b) c
greater-assoc Bare Bare Bare = refl
greater-assoc Bare Bare Read = refl
greater-assoc Bare Bare Write = refl
greater-assoc Bare Read Bare = refl
greater-assoc Bare Read Read = refl
greater-assoc Bare Read Write = refl
greater-assoc Bare Write Bare = refl
greater-assoc Bare Write Read = refl
greater-assoc Bare Write Write = refl
greater-assoc Read Bare Bare = refl
greater-assoc Read Bare Read = refl
greater-assoc Read Bare Write = refl
greater-assoc Read Read Bare = refl
greater-assoc Read Read Read = refl
greater-assoc Read Read Write = refl
greater-assoc Read Write Bare = refl
greater-assoc Read Write Read = refl
greater-assoc Read Write Write = refl
greater-assoc Write Bare Bare = refl
greater-assoc Write Bare Read = refl
greater-assoc Write Bare Write = refl
greater-assoc Write Read Bare = refl
greater-assoc Write Read Read = refl
greater-assoc Write Read Write = refl
greater-assoc Write Write Bare = refl
greater-assoc Write Write Read = refl
greater-assoc Write Write Write = refl

bare-greater : (l : Level) → greater Bare l ≡ l
bare-greater Bare = refl
bare-greater Read = refl
bare-greater Write = refl

pub greatest-snoc : (ls : List Level) (l : Level) → greatest (ls ++ l ∷ []) ≡ greater (greatest ls) l
greatest-snoc [] l = greater-bare l ∙ sym (bare-greater l)
greatest-snoc (m ∷ ls) l = ap (greater m) (greatest-snoc ls l) ∙ greater-assoc m (greatest ls) l

-- one more pair
pub led_level-snoc : (levels : List Level) (b : ℕ) (es : List (ℕ × ℕ)) (e : ℕ × ℕ) →
    led_level levels b (es ++ e ∷ []) ≡ greater (led_level levels b es) (cond (e.1 == b) (slice_index_or levels e.0 Bare) Bare)
led_level-snoc levels b es e =
    let level_at : ℕ → Level = λ a. slice_index_or levels a Bare in
    let source_of : (ℕ × ℕ) → ℕ = λ f. f.0 in
    let found = filter (λ f. f.1 == b) es in
    ap (λ fs. greatest (map level_at (map source_of fs))) (filter-snoc (λ f. f.1 == b) es e)
    ∙ elim (e.1 == b) as (λ t. greatest (map level_at (map source_of (cond t (found ++ e ∷ []) found))) ≡ greater (greatest (map level_at (map source_of found))) (cond t (level_at e.0) Bare)) [
      | true ↦ ap (λ bs. greatest (map level_at bs)) (map-append source_of found (e ∷ [])) ∙ (ap greatest (map-append level_at (map source_of found) (e.0 ∷ [])) ∙ greatest-snoc (map level_at (map source_of found)) (level_at e.0))
      | false ↦ sym (greater-bare (greatest (map level_at (map source_of found))))
    ]

pub led_level_more : (levels : List Level) (b : ℕ) (es : List (ℕ × ℕ)) (i : ℕ) (d : ℕ × ℕ) → i < length es →
    led_level levels b (take (i + 1) es) ≡ greater (led_level levels b (take i es)) (cond ((slice_index_or es i d).1 == b) (slice_index_or levels (slice_index_or es i d).0 Bare) Bare)
led_level_more levels b es i d h = ap (led_level levels b) (take_more es i d h) ∙ led_level-snoc levels b (take i es) (slice_index_or es i d)

pub greatest_range_next : (f : ℕ → Level) (n : ℕ) → greatest (map f (range_with_len 0 (n + 1))) ≡ greater (greatest (map f (range_with_len 0 n))) (f n)
greatest_range_next f n = ap greatest (map_range_next f n) ∙ greatest-snoc (map f (range_with_len 0 n)) (f n)

-- who holds nothing is led to nothing
pub led_level_nothing : (b : ℕ) (es : List (ℕ × ℕ)) → Bare ≡ led_level [] b es
led_level_nothing b es = none (sources_to es b)
  where
    none : (xs : List ℕ) → Bare ≡ greatest (map (λ a. slice_index_or [] a Bare) xs)
    none [] = refl
    none (x ∷ xs) = sym (bare-greater (greatest (map (λ a. slice_index_or [] a Bare) xs)) ∙ sym (none xs))

enumerate-snoc : (n : ℕ) (held : List (List Level)) (levels : List Level) → enumerate_from n (held ++ levels ∷ []) ≡ enumerate_from n held ++ (n + length held, levels) ∷ []
enumerate-snoc n [] levels = let e : n ≡ n + 0 = omega arith in ap (λ k. (k, levels) ∷ []) e
enumerate-snoc n (h ∷ held) levels =
    let e : (n + 1) + length held ≡ n + suc (length held) = omega arith in
    ap (λ rest. (n, h) ∷ rest) (enumerate-snoc (n + 1) held levels ∙ ap (λ k. enumerate_from (n + 1) held ++ (k, levels) ∷ []) e)

-- one more origin
pub raised_held_more : (b : ℕ) (f : ℕ → Level) (held : List (List Level)) (o : ℕ) (d : List Level) → o < length held →
    raised_held b f (take (o + 1) held) ≡ raised_held b f (take o held) ++ raised_level b (f o) (slice_index_or held o d) ∷ []
raised_held_more b f held o d h =
    let g : (ℕ × List Level) → List Level = λ p. raised_level b (f p.0) p.1 in
    let long : length (take o held) ≡ o = length-take-le o held (omega arith) in
    ap (raised_held b f) (take_more held o d h)
    ∙ (ap (map g) (enumerate-snoc 0 (take o held) (slice_index_or held o d))
    ∙ (map-append g (enumerate_from 0 (take o held)) ((0 + length (take o held), slice_index_or held o d) ∷ [])
    ∙ ap (λ k. raised_held b f (take o held) ++ raised_level b (f k) (slice_index_or held o d) ∷ []) (omega arith)))
