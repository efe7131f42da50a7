-- The sessions after a request fit the world after it.
use Rattle.std.proofs.Common.{◌≡◌, ℕ, zero, suc, ◌<◌, true, false, cond, List, [], ◌∷◌, length, refl, sym, ◌∙◌, ap, subst, arith, Option, Some, None, ◌⊎◌, inl, inr}
use Rattle.disk_laws.proofs.Common.{cases_lt, get_or_past, get_or-map, length-set, length-map, length-replicate, length-map-range_with_len, get_or-map-range_with_len, length-enumerate_from, map, replicate, slice_index_or, slice_set, option_map, is_some, IfSome, enumerate_from, World, is_live, Levels, Held, Sessions, sessions_max, held_by, with_held, levels_in, raised_level, raised_held, raised_sessions, levels_at_live, fitted, Fits, session_of, needs, attained_from, chosen, chosen_run, change, raised_at, raised_for, raised_by, with_pointer, with_contents, zeros, with_new_blocks, run_at, Need, Level, PlaceKind, Request, held_keeps, length-with_held, held-map}
use Rattle.tsd_model.specs.declared.requests.Level.TheVariants as level
use Rattle.tsd_model.specs.declared.requests.Request.TheVariants as ask

-- ---- sessions with a table for each origin

-- there are as many sessions as there may be, and each open one has levels from so many origins
pub record HasOrigins (p : ℕ) (v : Sessions) : Type 0 where
  pub count : length v ≡ sessions_max
  pub origins : (s : ℕ) → IfSome (held_by v s) (λ held. length held ≡ p)

origins-map : (p : ℕ) (g : Held → Held) → ((held : Held) → length (g held) ≡ length held) → (v : Sessions) → HasOrigins p v → HasOrigins p (map (option_map g) v)
origins-map p g same v h = record {
  count = length-map v (option_map g) ∙ h.count;
  origins = λ s. subst (λ o. IfSome o (λ held. length held ≡ p)) (sym (held-map g v s)) (each (held_by v s) (h.origins s));
}
  where
    each : (o : Option Held) → IfSome o (λ held. length held ≡ p) → IfSome (option_map g o) (λ held. length held ≡ p)
    each None k = tt
    each (Some held) k = same held ∙ k

origins-with_held : (p : ℕ) (v : Sessions) (t : ℕ) (o : Option Held) → IfSome o (λ held. length held ≡ p) → HasOrigins p v → HasOrigins p (with_held v t o)
origins-with_held p v t o new h = record {
  count = length-with_held v t o ∙ h.count;
  origins = λ s. held_keeps (λ x. IfSome x (λ held. length held ≡ p)) v t s o new (h.origins s);
}

pub length-raised_held : (b : ℕ) (f : ℕ → Level) (held : Held) → length (raised_held b f held) ≡ length held
length-raised_held b f held = length-map (enumerate_from 0 held) (λ e. raised_level b (f e.0) e.1) ∙ length-enumerate_from 0 held

pub origins-raised : (p : ℕ) (v : Sessions) (s b : ℕ) (f : ℕ → Level) → HasOrigins p v → HasOrigins p (raised_sessions v s b f)
origins-raised p v s b f h = origins-with_held p v s (option_map (raised_held b f) (held_by v s)) (each (held_by v s) (h.origins s)) h
  where
    each : (o : Option Held) → IfSome o (λ held. length held ≡ p) → IfSome (option_map (raised_held b f) o) (λ held. length held ≡ p)
    each None k = tt
    each (Some held) k = length-raised_held b f held ∙ k

origins-raised_at : (p : ℕ) (w : World) (v : Sessions) (s : ℕ) (ns : List Need) (now : Sessions) → HasOrigins p now → HasOrigins p (raised_at w v s ns now)
origins-raised_at p w v s [] now h = h
origins-raised_at p w v s (n ∷ ns) now h = origins-raised_at p w v s ns (raised_sessions now s n.block (attained_from w v s n.block n.shown)) (origins-raised p now s n.block (attained_from w v s n.block n.shown) h)

pub origins-raised_by : (p : ℕ) (w : World) (v : Sessions) (q : Request) → HasOrigins p v → HasOrigins p (raised_by w v q)
origins-raised_by p w v q h = go (session_of q)
  where
    go : (o : Option ℕ) → HasOrigins p (raised_for w v o (needs q))
    go None = h
    go (Some s) = origins-raised_at p w v s (needs q) v h

pub origins-change : (kind : PlaceKind) (w : World) (u : Sessions) (q : Request) → HasOrigins w.geometry.primaries u → HasOrigins w.geometry.primaries (change kind w u q).state.sessions
origins-change kind w u ask.Bad h = h
origins-change kind w u (ask.Begin s) h = origins-with_held w.geometry.primaries u s (Some (replicate w.geometry.primaries (replicate (length w.blocks) level.Bare))) (length-replicate w.geometry.primaries (replicate (length w.blocks) level.Bare)) h
origins-change kind w u (ask.End s) h = origins-with_held w.geometry.primaries u s None tt h
origins-change kind w u (ask.Read s b shown) h = h
origins-change kind w u (ask.Write s b shown bytes) h = h
origins-change kind w u (ask.Alloc s a shown hint count) h = h
origins-change kind w u (ask.Contig s a shown hint count) h = h
origins-change kind w u ask.GetFree h = h
origins-change kind w u (ask.Create s a shown b) h = h
origins-change kind w u (ask.Delete s a shown b) h = h
origins-change kind w u (ask.SetCap s b shown caps) h = origins-map w.geometry.primaries (λ held. slice_set held b (replicate (length w.blocks) level.Bare)) (λ held. length-set held b (replicate (length w.blocks) level.Bare)) u h
origins-change kind w u (ask.Sweep s shown) h = h
origins-change kind w u (ask.List s a shown start) h = h

-- ---- without the levels at blocks that aren't live

at_live : (w : World) (levels : Levels) (b : ℕ) → (slice_index_or (levels_at_live w levels) b level.Bare ≡ level.Bare) ⊎ (is_live w b ≡ true)
at_live w levels b = elim (cases_lt b (length w.blocks)) [
  | inr past ↦ inl (get_or_past (levels_at_live w levels) b level.Bare (omega (arith, past, length-map-range_with_len (λ c. cond (is_live w c) (slice_index_or levels c level.Bare) level.Bare) 0 (length w.blocks))))
  | inl within ↦ let at = get_or-map-range_with_len (λ c. cond (is_live w c) (slice_index_or levels c level.Bare) level.Bare) 0 (length w.blocks) b b level.Bare within (omega arith) in
      elim (is_live w b) as (λ t. slice_index_or (levels_at_live w levels) b level.Bare ≡ cond t (slice_index_or levels b level.Bare) level.Bare → (slice_index_or (levels_at_live w levels) b level.Bare ≡ level.Bare) ⊎ (t ≡ true)) [
        | true ↦ λ _. inr refl
        | false ↦ λ e. inl e
      ] at
]

-- a table of levels, at one origin
at_origin : (w : World) (held : Held) (o : ℕ) → (slice_index_or (map (levels_at_live w) held) o [] ≡ []) ⊎ ((levels : Levels) × (slice_index_or (map (levels_at_live w) held) o [] ≡ levels_at_live w levels))
at_origin w [] o = inl refl
at_origin w (levels ∷ held) zero = inr (levels, refl)
at_origin w (levels ∷ held) (suc o) = at_origin w held o

pub fitted_fits : (w : World) (v : Sessions) → length w.blocks ≡ w.geometry.blocks → HasOrigins w.geometry.primaries v → Fits w (fitted w v)
fitted_fits w v long h = record {
  count = length-map v (option_map (map (levels_at_live w))) ∙ h.count;
  origins = λ s. subst (λ x. IfSome x (λ held. length held ≡ w.geometry.primaries)) (sym (held-map (map (levels_at_live w)) v s)) (as_many (held_by v s) (h.origins s));
  blocks = λ s o. subst (λ x. is_some x ≡ true → o < w.geometry.primaries → length (levels_in x o) ≡ w.geometry.blocks) (sym (held-map (map (levels_at_live w)) v s)) (as_long o (held_by v s) (h.origins s));
  live = λ s o b. subst (λ x. (slice_index_or (levels_in x o) b level.Bare ≡ level.Bare) ⊎ (is_live w b ≡ true)) (sym (held-map (map (levels_at_live w)) v s)) (only_live o b (held_by v s));
}
  where
    as_many : (x : Option Held) → IfSome x (λ held. length held ≡ w.geometry.primaries) → IfSome (option_map (map (levels_at_live w)) x) (λ held. length held ≡ w.geometry.primaries)
    as_many None k = tt
    as_many (Some held) k = length-map held (levels_at_live w) ∙ k

    as_long : (o : ℕ) (x : Option Held) → IfSome x (λ held. length held ≡ w.geometry.primaries) → is_some (option_map (map (levels_at_live w)) x) ≡ true → o < w.geometry.primaries → length (levels_in (option_map (map (levels_at_live w)) x) o) ≡ w.geometry.blocks
    as_long o None k there below = absurd (cc)
    as_long o (Some held) k there below =
        let within : o < length held = omega (arith, below, k) in
        let at = get_or-map (levels_at_live w) held o [] [] within in
        ap length at ∙ (length-map-range_with_len (λ c. cond (is_live w c) (slice_index_or (slice_index_or held o []) c level.Bare) level.Bare) 0 (length w.blocks) ∙ long)

    only_live : (o b : ℕ) (x : Option Held) → (slice_index_or (levels_in (option_map (map (levels_at_live w)) x) o) b level.Bare ≡ level.Bare) ⊎ (is_live w b ≡ true)
    only_live o b None = inl refl
    only_live o b (Some held) = elim (at_origin w held o) [
      | inl none ↦ inl (ap (λ levels. slice_index_or levels b level.Bare) none)
      | inr some ↦ subst (λ levels. (slice_index_or levels b level.Bare ≡ level.Bare) ⊎ (is_live w b ≡ true)) (sym some.1) (at_live w some.0 b)
    ]

-- ---- the geometry stays

pub geometry-new_blocks : (a : ℕ) (bs : List ℕ) (w : World) → (with_new_blocks w a bs).geometry ≡ w.geometry
geometry-new_blocks a [] w = refl
geometry-new_blocks a (b ∷ bs) w = geometry-new_blocks a bs (with_pointer (with_contents w b (zeros w)) a b)

pub geometry-change : (kind : PlaceKind) (w : World) (u : Sessions) (q : Request) → (change kind w u q).state.world.geometry ≡ w.geometry
geometry-change kind w u ask.Bad = refl
geometry-change kind w u (ask.Begin s) = refl
geometry-change kind w u (ask.End s) = refl
geometry-change kind w u (ask.Read s b shown) = refl
geometry-change kind w u (ask.Write s b shown bytes) = refl
geometry-change kind w u (ask.Alloc s a shown hint count) = geometry-new_blocks a (chosen kind w hint count) w
geometry-change kind w u (ask.Contig s a shown hint count) = geometry-new_blocks a (run_at (chosen_run kind w hint count) count) w
geometry-change kind w u ask.GetFree = refl
geometry-change kind w u (ask.Create s a shown b) = refl
geometry-change kind w u (ask.Delete s a shown b) = refl
geometry-change kind w u (ask.SetCap s b shown caps) = refl
geometry-change kind w u (ask.Sweep s shown) = refl
geometry-change kind w u (ask.List s a shown start) = refl

version-new_blocks : (a : ℕ) (bs : List ℕ) (w : World) → (with_new_blocks w a bs).version ≡ w.version
version-new_blocks a [] w = refl
version-new_blocks a (b ∷ bs) w = version-new_blocks a bs (with_pointer (with_contents w b (zeros w)) a b)

pub version-change : (kind : PlaceKind) (w : World) (u : Sessions) (q : Request) → (change kind w u q).state.world.version ≡ w.version
version-change kind w u ask.Bad = refl
version-change kind w u (ask.Begin s) = refl
version-change kind w u (ask.End s) = refl
version-change kind w u (ask.Read s b shown) = refl
version-change kind w u (ask.Write s b shown bytes) = refl
version-change kind w u (ask.Alloc s a shown hint count) = version-new_blocks a (chosen kind w hint count) w
version-change kind w u (ask.Contig s a shown hint count) = version-new_blocks a (run_at (chosen_run kind w hint count) count) w
version-change kind w u ask.GetFree = refl
version-change kind w u (ask.Create s a shown b) = refl
version-change kind w u (ask.Delete s a shown b) = refl
version-change kind w u (ask.SetCap s b shown caps) = refl
version-change kind w u (ask.Sweep s shown) = refl
version-change kind w u (ask.List s a shown start) = refl
