-- What a granted request attained, and what is led to where less is held.
use Rattle.std.proofs.Common.{◌≡◌, ℕ, Bool, true, false, not, cond, ◌&&◌, ◌==◌, nat_le, List, [], ◌∷◌, refl, inl, inr, arith, Option, None}
use Rattle.disk_laws.proofs.Common.{and_parts, and_from, or_cases, eq-eqb, or_left, or_right, nat_tests, map, filter, slice_index_or, unwrap_or, list_any, list_all, is_pair, holds, World, Sessions, Levels, level_rank, level_le, greater, greatest, led_level, attained, session_of, needs, denied, verdict, Need, Level, Request, Rule}
use Rattle.tsd_model.specs.declared.requests.Level.TheVariants as level
use Rattle.disk_laws.proofs.RuleLaws.{NoRule, none_first, granted_passes}

-- ---- the order of levels

through : (a b c : ℕ) → nat_le a b ≡ true → nat_le b c ≡ true → nat_le a c ≡ true
through a b c p q = grind (arith, nat_tests)

pub le_trans : (l m n : Level) → level_le l m ≡ true → level_le m n ≡ true → level_le l n ≡ true
le_trans l m n p q = through (level_rank l) (level_rank m) (level_rank n) p q

-- what is above some level isn't none
pub some_level : (l x : Level) → level_le l x ≡ false → level_le l level.Bare ≡ false
some_level level.Bare level.Bare h = h
some_level level.Bare level.Read h = h
some_level level.Bare level.Write h = h
some_level level.Read x h = refl
some_level level.Write x h = refl

pub is_bare : (l : Level) → level_le level.Read l ≡ false → l ≡ level.Bare
is_bare level.Bare h = refl
is_bare level.Read h = absurd (cc)
is_bare level.Write h = absurd (cc)

-- ---- levels along pointers

greater_less : (l x y : Level) → level_le l x ≡ false → level_le l y ≡ false → level_le l (greater x y) ≡ false
greater_less l x y p q = elim (level_le x y) as (λ t. level_le l (cond t y x) ≡ false) [ true ↦ q | false ↦ p ]

-- who holds less at the sources of the pairs to a block is led to less
pub led_less : (l : Level) (levels : Levels) (b : ℕ) (es : List (ℕ × ℕ)) → level_le l level.Bare ≡ false → ((a : ℕ) → holds es a b ≡ true → level_le l (slice_index_or levels a level.Bare) ≡ false) → level_le l (led_level levels b es) ≡ false
led_less l levels b [] some less = some
led_less l levels b (e ∷ es) some less =
    let rest : level_le l (led_level levels b es) ≡ false = led_less l levels b es some (λ a h. less a (or_right (is_pair a b e) (holds es a b) h)) in
    elim (e.1 == b) as (λ t. (e.1 == b) ≡ t → level_le l (greatest (map (λ a. slice_index_or levels a level.Bare) (map (λ g. g.0) (cond t (e ∷ filter (λ g. g.1 == b) es) (filter (λ g. g.1 == b) es))))) ≡ false) [
      | true ↦ λ to. greater_less l (slice_index_or levels e.0 level.Bare) (led_level levels b es) (less e.0 (or_left (is_pair e.0 b e) (holds es e.0 b) (and_from (e.0 == e.0) (e.1 == b) (eq-eqb e.0 e.0 refl) to))) rest
      | false ↦ λ _. rest
    ] refl

-- ---- what a granted request attained

-- at each need what the session attains there is enough
pub needs_met : (w : World) (v : Sessions) (s : ℕ) (ns : List Need) → NoRule (map (denied w v s) ns) → list_all (λ (n : Need). level_le n.level (attained w v s n.block n.shown)) ns ≡ true
needs_met w v s [] e = refl
needs_met w v s (n ∷ ns) e =
    let parts = none_first (denied w v s n) (map (denied w v s) ns) e in
    and_from (level_le n.level (attained w v s n.block n.shown)) _ (enough (level_le n.level (attained w v s n.block n.shown)) parts.0) (needs_met w v s ns parts.1)
  where
    enough : (t : Bool) → not t ≡ false → t ≡ true
    enough true h = refl
    enough false h = absurd (cc)

pub granted_needs_met : (w : World) (v : Sessions) (q : Request) → ◌≡◌ {A = Option Rule} (verdict w v q) None → list_all (λ (n : Need). level_le n.level (attained w v (unwrap_or (session_of q) 0) n.block n.shown)) (needs q) ≡ true
granted_needs_met w v q e = needs_met w v (unwrap_or (session_of q) 0) (needs q) (granted_passes w v q e).levels

-- where some need is at the block and of the level at least, that level is attained there
pub met_at : (w : World) (v : Sessions) (s b : ℕ) (l : Level) (ns : List Need) → list_all (λ (n : Need). level_le n.level (attained w v s n.block n.shown)) ns ≡ true
    → list_any (λ (n : Need). (n.block == b) && level_le l n.level) ns ≡ true → list_any (λ (n : Need). (n.block == b) && level_le l (attained w v s n.block n.shown)) ns ≡ true
met_at w v s b l [] met h = h
met_at w v s b l (n ∷ ns) met h =
    let parts = and_parts (level_le n.level (attained w v s n.block n.shown)) (list_all (λ (m : Need). level_le m.level (attained w v s m.block m.shown)) ns) met in
    elim (or_cases ((n.block == b) && level_le l n.level) (list_any (λ (m : Need). (m.block == b) && level_le l m.level) ns) h) [
      | inl here ↦
          let at = and_parts (n.block == b) (level_le l n.level) here in
          or_left ((n.block == b) && level_le l (attained w v s n.block n.shown)) _ (and_from (n.block == b) (level_le l (attained w v s n.block n.shown)) at.0 (le_trans l n.level (attained w v s n.block n.shown) at.1 parts.0))
      | inr later ↦ or_right ((n.block == b) && level_le l (attained w v s n.block n.shown)) _ (met_at w v s b l ns parts.1 later)
    ]

-- where each need is of the level at least, that level is attained at each
pub met_everywhere : (w : World) (v : Sessions) (s : ℕ) (l : Level) (ns : List Need) → list_all (λ (n : Need). level_le n.level (attained w v s n.block n.shown)) ns ≡ true
    → list_all (λ (n : Need). level_le l n.level) ns ≡ true → list_all (λ (n : Need). level_le l (attained w v s n.block n.shown)) ns ≡ true
met_everywhere w v s l [] met h = h
met_everywhere w v s l (n ∷ ns) met h =
    let parts = and_parts (level_le n.level (attained w v s n.block n.shown)) (list_all (λ (m : Need). level_le m.level (attained w v s m.block m.shown)) ns) met in
    let wants = and_parts (level_le l n.level) (list_all (λ (m : Need). level_le l m.level) ns) h in
    and_from (level_le l (attained w v s n.block n.shown)) _ (le_trans l n.level (attained w v s n.block n.shown) wants.0 parts.0) (met_everywhere w v s l ns parts.1 wants.1)
