-- Levels that sessions hold, after a change.
use Rattle.std.proofs.Common.{◌≡◌, ℕ, zero, suc, ◌+◌, ◌<◌, ◌≤◌, Bool, true, false, cond, ◌&&◌, ◌||◌, ◌==◌, List, [], ◌∷◌, length, refl, sym, ◌∙◌, ap, subst, arith, inl, inr, Option, Some, None}
use Rattle.disk_laws.proofs.Common.{cases_eq, cases_lt, eq-eqb, ne_eqb, nat_tests, get_or-set_same, get_or-set_other, get_or_past, get_or-map, length-set, length-map-range_with_len, get_or-map-range_with_len, length-enumerate_from, get_or-enumerate_from, map, replicate, slice_index_or, slice_set, option_map, is_some, IfSome, enumerate_from, list_any, option_map_or, World, is_live, Levels, Held, Sessions, sessions_max, level_rank, level_le, greater, held_by, is_open, levels_in, levels_from, level_from, raised_level, raised_held, raised_sessions, dropped_from, levels_at_live, fitted, attained_from, raised_at, raised_for, attains_at, Need, Level, held-map, held-with_other, held-with_same}
use Rattle.tsd_model.specs.declared.requests.Level.TheVariants as level
use Rattle.disk_laws.proofs.FitLaws.{HasOrigins, origins-raised}

-- ---- the order of levels

pub le_greater : (l a b : Level) → level_le l (greater a b) ≡ (level_le l b || level_le l a)
le_greater l a b = grind (arith, nat_tests, rank_cases)
  where
    rank_cases : (t : Bool) (x y : Level) → level_rank (cond t x y) ≡ cond t (level_rank x) (level_rank y)
    rank_cases true x y = refl
    rank_cases false x y = refl

pub not_bare : (l : Level) → (l ≡ level.Bare → ⊥) → level_le l level.Bare ≡ false
not_bare level.Bare n = absurd (n refl)
not_bare level.Read n = refl
not_bare level.Write n = refl

-- nothing is held in an empty table
pub nothing_at : (a : ℕ) → slice_index_or [] a level.Bare ≡ level.Bare
nothing_at a = refl

-- ---- where blocks died

level-at_live : (w : World) (levels : Levels) (a : ℕ) → slice_index_or (levels_at_live w levels) a level.Bare ≡ cond (is_live w a) (slice_index_or levels a level.Bare) level.Bare
level-at_live w levels a = elim (cases_lt a (length w.blocks)) [
  | inl within ↦ get_or-map-range_with_len (λ c. cond (is_live w c) (slice_index_or levels c level.Bare) level.Bare) 0 (length w.blocks) a a level.Bare within (omega arith)
  | inr past ↦
      get_or_past (levels_at_live w levels) a level.Bare (omega (arith, past, length-map-range_with_len (λ c. cond (is_live w c) (slice_index_or levels c level.Bare) level.Bare) 0 (length w.blocks)))
      ∙ sym (ap (λ o. cond (is_some o) (slice_index_or levels a level.Bare) level.Bare) (get_or_past w.blocks a None past))
]

bare_both : (t : Bool) → level.Bare ≡ cond t level.Bare level.Bare
bare_both true = refl
bare_both false = refl

-- what is held once the levels at blocks that aren't live are dropped
pub level-fitted : (w : World) (v : Sessions) (s o a : ℕ) → level_from (fitted w v) s o a ≡ cond (is_live w a) (level_from v s o a) level.Bare
level-fitted w v s o a = ap (λ x. slice_index_or (levels_in x o) a level.Bare) (held-map (map (levels_at_live w)) v s) ∙ go (held_by v s)
  where
    at : (held : Held) (i : ℕ) → slice_index_or (slice_index_or (map (levels_at_live w) held) i []) a level.Bare ≡ cond (is_live w a) (slice_index_or (slice_index_or held i []) a level.Bare) level.Bare
    at [] i = bare_both (is_live w a)
    at (levels ∷ held) zero = level-at_live w levels a
    at (levels ∷ held) (suc i) = at held i

    go : (x : Option Held) → slice_index_or (levels_in (option_map (map (levels_at_live w)) x) o) a level.Bare ≡ cond (is_live w a) (slice_index_or (levels_in x o) a level.Bare) level.Bare
    go None = bare_both (is_live w a)
    go (Some held) = at held o

-- ---- where an origin got new capabilities

pub level-dropped_from : (n b : ℕ) (v : Sessions) (s o a : ℕ) → level_from (dropped_from n b v) s o a ≡ cond (b == o) level.Bare (level_from v s o a)
level-dropped_from n b v s o a = ap (λ x. slice_index_or (levels_in x o) a level.Bare) (held-map (λ held. slice_set held b (replicate n level.Bare)) v s) ∙ go (held_by v s)
  where
    bare_in : (m i : ℕ) → slice_index_or (replicate m level.Bare) i level.Bare ≡ level.Bare
    bare_in zero i = refl
    bare_in (suc m) zero = refl
    bare_in (suc m) (suc i) = bare_in m i

    at : (held : Held) → slice_index_or (slice_index_or (slice_set held b (replicate n level.Bare)) o []) a level.Bare ≡ cond (b == o) level.Bare (slice_index_or (slice_index_or held o []) a level.Bare)
    at held = elim (cases_eq o b) [
      | inr other ↦ ap (λ levels. slice_index_or levels a level.Bare) (get_or-set_other held b o (replicate n level.Bare) [] other) ∙ sym (ap (λ t. cond t level.Bare (slice_index_or (slice_index_or held o []) a level.Bare)) (ne_eqb b o (λ e. other (sym e))))
      | inl same ↦ here same ∙ sym (ap (λ t. cond t level.Bare (slice_index_or (slice_index_or held o []) a level.Bare)) (eq-eqb b o (sym same)))
    ]
      where
        here : o ≡ b → slice_index_or (slice_index_or (slice_set held b (replicate n level.Bare)) o []) a level.Bare ≡ level.Bare
        here same = elim (cases_lt b (length held)) [
          | inl within ↦ ap (λ k. slice_index_or (slice_index_or (slice_set held b (replicate n level.Bare)) k []) a level.Bare) same ∙ (ap (λ levels. slice_index_or levels a level.Bare) (get_or-set_same held b (replicate n level.Bare) [] within) ∙ bare_in n a)
          | inr past ↦ ap (λ levels. slice_index_or levels a level.Bare) (get_or_past (slice_set held b (replicate n level.Bare)) o [] (omega (arith, past, same, length-set held b (replicate n level.Bare))))
        ]

    go : (x : Option Held) → slice_index_or (levels_in (option_map (λ held. slice_set held b (replicate n level.Bare)) x) o) a level.Bare ≡ cond (b == o) level.Bare (slice_index_or (levels_in x o) a level.Bare)
    go None = bare_both (b == o)
    go (Some held) = at held

-- ---- raising

-- another session's table
pub levels-raised_other : (v : Sessions) (s t b o : ℕ) (f : ℕ → Level) → (s ≡ t → ⊥) → held_by (raised_sessions v t b f) s ≡ held_by v s
levels-raised_other v s t b o f other = held-with_other v t s (option_map (raised_held b f) (held_by v t)) other

-- the session's own, which is open
pub held-raised : (v : Sessions) (t b : ℕ) (f : ℕ → Level) → 1 ≤ t → t ≤ length v → held_by (raised_sessions v t b f) t ≡ option_map (raised_held b f) (held_by v t)
held-raised v t b f t1 tn = held-with_same v t (option_map (raised_held b f) (held_by v t)) t1 tn

levels-raised_held : (b : ℕ) (f : ℕ → Level) (held : Held) (o : ℕ) → o < length held → slice_index_or (raised_held b f held) o [] ≡ raised_level b (f o) (slice_index_or held o [])
levels-raised_held b f held o below =
    let raise : (ℕ × Levels) → Levels = λ p. raised_level b (f p.0) p.1 in
    let within : o < length (enumerate_from 0 held) = omega (arith, below, length-enumerate_from 0 held) in
    get_or-map raise (enumerate_from 0 held) o (0, []) [] within
    ∙ (ap raise (get_or-enumerate_from 0 held o (0, []) below)
    ∙ (let e : 0 + o ≡ o = omega arith in ap (λ k. raised_level b (f k) (slice_index_or held o [])) e))

-- A session that is open, with so many origins and so many blocks.
pub record IsReady (p n o t : ℕ) (v : Sessions) : Type 0 where
  pub shape : HasOrigins p v
  pub there : is_open v t ≡ true
  pub long : length (levels_from v t o) ≡ n

open_held : (x : Option Held) → is_some x ≡ true → (held : Held) × (x ≡ Some held)
open_held None h = absurd (cc)
open_held (Some held) h = (held, refl)

levels-raised : (p n o t b : ℕ) (f : ℕ → Level) (v : Sessions) → 1 ≤ t → t ≤ sessions_max → o < p → IsReady p n o t v → levels_from (raised_sessions v t b f) t o ≡ raised_level b (f o) (levels_from v t o)
levels-raised p n o t b f v t1 tn below ready =
    let held = open_held (held_by v t) ready.there in
    let as_many : length held.0 ≡ p = subst (λ x. IfSome x (λ h. length h ≡ p)) held.1 (ready.shape.origins t) in
    ap (λ x. levels_in x o) (held-raised v t b f t1 (omega (arith, tn, ready.shape.count)) ∙ ap (option_map (raised_held b f)) held.1)
    ∙ (levels-raised_held b f held.0 o (omega (arith, below, as_many))
    ∙ ap (λ x. raised_level b (f o) (levels_in x o)) (sym held.1))

ready-raised : (p n o t b : ℕ) (f : ℕ → Level) (v : Sessions) → 1 ≤ t → t ≤ sessions_max → o < p → IsReady p n o t v → IsReady p n o t (raised_sessions v t b f)
ready-raised p n o t b f v t1 tn below ready =
    let held = open_held (held_by v t) ready.there in
    record {
      shape = origins-raised p v t b f ready.shape;
      there = ap is_some (held-raised v t b f t1 (omega (arith, tn, ready.shape.count)) ∙ ap (option_map (raised_held b f)) held.1);
      long = ap length (levels-raised p n o t b f v t1 tn below ready) ∙ (length-set (levels_from v t o) b (greater (slice_index_or (levels_from v t o) b level.Bare) (f o)) ∙ ready.long);
    }

-- one table
level-raised_level : (b : ℕ) (x : Level) (levels : Levels) (a : ℕ) → b < length levels → slice_index_or (raised_level b x levels) a level.Bare ≡ cond (b == a) (greater (slice_index_or levels a level.Bare) x) (slice_index_or levels a level.Bare)
level-raised_level b x levels a within = elim (cases_eq a b) [
  | inl here ↦ subst (λ k. slice_index_or (raised_level b x levels) k level.Bare ≡ cond (b == k) (greater (slice_index_or levels k level.Bare) x) (slice_index_or levels k level.Bare)) (sym here)
      (get_or-set_same levels b (greater (slice_index_or levels b level.Bare) x) level.Bare within ∙ ap (λ u. cond u (greater (slice_index_or levels b level.Bare) x) (slice_index_or levels b level.Bare)) (sym (eq-eqb b b refl)))
  | inr there ↦ get_or-set_other levels b a (greater (slice_index_or levels b level.Bare) x) level.Bare there ∙ ap (λ u. cond u (greater (slice_index_or levels a level.Bare) x) (slice_index_or levels a level.Bare)) (sym (ne_eqb b a (λ e. there (sym e))))
]

-- each need is at a block of the disk
abbrev pub NeedsBelow : ℕ → List Need → Type 0
NeedsBelow n [] = Unit {0}
NeedsBelow n (m ∷ ms) = (m.block < n) × NeedsBelow n ms

-- after the raise at one block
le_raised : (y z : Bool) (k old new : Level) → (z || level_le k (cond y (greater old new) old)) ≡ (((y && level_le k new) || z) || level_le k old)
le_raised true true k old new = or_true (level_le k new)
  where
    or_true : (c : Bool) → true ≡ ((c || true) || level_le k old)
    or_true true = refl
    or_true false = refl
le_raised true false k old new = le_greater k old new ∙ drop_false (level_le k new) (level_le k old)
  where
    drop_false : (c d : Bool) → (c || d) ≡ ((c || false) || d)
    drop_false true d = refl
    drop_false false d = refl
le_raised false z k old new = refl

own-raised_at : (w : World) (v : Sessions) (p n o t a : ℕ) (l : Level) → 1 ≤ t → t ≤ sessions_max → o < p → (ns : List Need) (now : Sessions) → IsReady p n o t now → NeedsBelow n ns
    → level_le l (level_from (raised_at w v t ns now) t o a) ≡ (list_any (attains_at (record { world = w; sessions = v }) t o a l) ns || level_le l (level_from now t o a))
own-raised_at w v p n o t a l t1 tn below [] now ready each = refl
own-raised_at w v p n o t a l t1 tn below (m ∷ ms) now ready each =
    let f : ℕ → Level = attained_from w v t m.block m.shown in
    let next = raised_sessions now t m.block f in
    let rest = list_any (attains_at (record { world = w; sessions = v }) t o a l) ms in
    let within : m.block < length (levels_from now t o) = omega (arith, each.0, ready.long) in
    own-raised_at w v p n o t a l t1 tn below ms next (ready-raised p n o t m.block f now t1 tn below ready) each.1
    ∙ (ap (λ levels. rest || level_le l (slice_index_or levels a level.Bare)) (levels-raised p n o t m.block f now t1 tn below ready)
    ∙ (ap (λ x. rest || level_le l x) (level-raised_level m.block (f o) (levels_from now t o) a within)
    ∙ le_raised (m.block == a) rest l (level_from now t o a) (f o)))

pub other-raised_at : (w : World) (v : Sessions) (s t : ℕ) → (s ≡ t → ⊥) → (ns : List Need) (now : Sessions) → held_by (raised_at w v t ns now) s ≡ held_by now s
other-raised_at w v s t other [] now = refl
other-raised_at w v s t other (m ∷ ms) now =
    other-raised_at w v s t other ms (raised_sessions now t m.block (attained_from w v t m.block m.shown)) ∙ levels-raised_other now s t m.block 0 (attained_from w v t m.block m.shown) other

-- what a session holds once a request of a session that is open, or of none, has raised levels
pub level-raised_for : (w : World) (v : Sessions) (p n s o a : ℕ) (l : Level) (x : Option ℕ) (ns : List Need) → o < p
    → IfSome x (λ t. (1 ≤ t) × (t ≤ sessions_max) × IsReady p n o t v) → NeedsBelow n ns
    → level_le l (level_from (raised_for w v x ns) s o a) ≡ ((option_map_or (λ t. t == s) x false && list_any (attains_at (record { world = w; sessions = v }) s o a l) ns) || level_le l (level_from v s o a))
level-raised_for w v p n s o a l None ns below h each = refl
level-raised_for w v p n s o a l (Some t) ns below h each = elim (cases_eq s t) [
  | inl same ↦ subst (λ k. level_le l (level_from (raised_at w v t ns v) k o a) ≡ (((t == k) && list_any (attains_at (record { world = w; sessions = v }) k o a l) ns) || level_le l (level_from v k o a))) (sym same)
      (own-raised_at w v p n o t a l h.0 h.1 below ns v h.2 each
      ∙ ap (λ u. (u && list_any (attains_at (record { world = w; sessions = v }) t o a l) ns) || level_le l (level_from v t o a)) (sym (eq-eqb t t refl)))
  | inr other ↦ ap (λ x. level_le l (slice_index_or (levels_in x o) a level.Bare)) (other-raised_at w v s t other ns v)
      ∙ ap (λ u. (u && list_any (attains_at (record { world = w; sessions = v }) s o a l) ns) || level_le l (level_from v s o a)) (sym (ne_eqb t s (λ e. other (sym e))))
]
