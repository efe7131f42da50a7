-- A request of one session and the levels of another.
use Rattle.std.proofs.Common.{◌≡◌, ℕ, Bool, true, false, not, cond, ◌&&◌, ◌==◌, length, refl, sym, ◌∙◌, ap, subst, inl, inr, ◌⊎◌, Option, Some, None}
use Rattle.disk_laws.proofs.Common.{eq-eqb, map, replicate, slice_index_or, slice_set, option_map, is_some, is_none, option_map_or, World, is_live, Held, Sessions, held_by, is_open, levels_in, level_from, levels_at_live, fitted, Fits, session_of, needs, is_granted, verdict, State, change, judged, raised_by, raised_for, answer, is_of_session, is_set_cap_of, Level, PlaceKind, Request, Rule, held-map, held-with_other}
use Rattle.tsd_model.specs.declared.requests.Level.TheVariants as level
use Rattle.tsd_model.specs.declared.requests.Request.TheVariants as ask
use Rattle.disk_laws.specs.Isolation.{renews}
use Rattle.disk_laws.proofs.AnswerLaws.{after_answer, refused_answer, granted_answer}
use Rattle.disk_laws.proofs.HeldLaws.{level-fitted, level-dropped_from, other-raised_at}
use Rattle.tsd_model.proofs.ValueLaws.{and_false}

another : (n t : ℕ) → (t == n) ≡ false → n ≡ t → ⊥
another n t h e = clash (sym (eq-eqb t n (sym e)) ∙ h)
  where
    clash : true ≡ false → ⊥
    clash k = cc

raised-other : (w : World) (v : Sessions) (q : Request) (n : ℕ) → is_of_session q n ≡ false → held_by (raised_by w v q) n ≡ held_by v n
raised-other w v q n h = go (session_of q) h
  where
    go : (x : Option ℕ) → option_map_or (λ t. t == n) x false ≡ false → held_by (raised_for w v x (needs q)) n ≡ held_by v n
    go None k = refl
    go (Some t) k = other-raised_at w v n t (another n t k) (needs q) v

-- what a request changes of another session but to drop the levels of a block
change-other : (kind : PlaceKind) (w : World) (u : Sessions) (q : Request) (n o a : ℕ) → is_of_session q n ≡ false
    → (level_from (change kind w u q).state.sessions n o a ≡ cond (is_set_cap_of q o) level.Bare (level_from u n o a)) × (is_open (change kind w u q).state.sessions n ≡ is_open u n)
change-other kind w u (ask.Begin t) n o a h = let same = held-with_other u t n (Some (replicate w.geometry.primaries (replicate (length w.blocks) level.Bare))) (another n t h) in
    (ap (λ x. slice_index_or (levels_in x o) a level.Bare) same, ap is_some same)
change-other kind w u (ask.End t) n o a h = let same = held-with_other u t n None (another n t h) in
    (ap (λ x. slice_index_or (levels_in x o) a level.Bare) same, ap is_some same)
change-other kind w u (ask.SetCap t b shown caps) n o a h = (level-dropped_from (length w.blocks) b u n o a, open-map (λ held. slice_set held b (replicate (length w.blocks) level.Bare)) u n)
  where
    open-map : (f : Held → Held) (v : Sessions) (s : ℕ) → is_open (map (option_map f) v) s ≡ is_open v s
    open-map f v s = ap is_some (held-map f v s) ∙ some_map (held_by v s)
      where
        some_map : (x : Option Held) → is_some (option_map f x) ≡ is_some x
        some_map None = refl
        some_map (Some held) = refl
change-other kind w u q n o a h = (refl, refl)

open-fitted : (w : World) (v : Sessions) (n : ℕ) → is_open (fitted w v) n ≡ is_open v n
open-fitted w v n = ap is_some (held-map (map (levels_at_live w)) v n) ∙ same (held_by v n)
  where
    same : (x : Option Held) → is_some (option_map (map (levels_at_live w)) x) ≡ is_some x
    same None = refl
    same (Some held) = refl

twice : (live c : Bool) (x : Level) → cond live (cond c level.Bare x) level.Bare ≡ cond (live && not (true && c)) x level.Bare
twice true true x = refl
twice true false x = refl
twice false c x = refl

-- what is held is held at live blocks
as_was : (live g c : Bool) (x : Level) → (x ≡ level.Bare) ⊎ (live ≡ true) → (g && c) ≡ false → x ≡ cond (live && not (g && c)) x level.Bare
as_was live g c x (inl bare) k = subst (λ y. y ≡ cond (live && not (g && c)) y level.Bare) (sym bare) (same (live && not (g && c)))
  where
    same : (t : Bool) → level.Bare ≡ cond t level.Bare level.Bare
    same true = refl
    same false = refl
as_was live g c x (inr there) k = subst (λ t. x ≡ cond (t && not (g && c)) x level.Bare) (sym there) (subst (λ t. x ≡ cond (not t) x level.Bare) (sym k) refl)

-- what session n holds after request p, from o at block a
abbrev LevelAfter : State → ℕ → ℕ → ℕ → State → Request → Type 0
LevelAfter s n o a t p = level_from t.sessions n o a ≡ cond (is_live t.world a && not (renews s p o)) (level_from s.sessions n o a) level.Bare

pub others_keep_levels : (kind : PlaceKind) (s : State) (q : Request) (want : Bool) (n o a : ℕ) → Fits s.world s.sessions → is_of_session q n ≡ false
    → level_from (answer kind s q want).state.sessions n o a ≡ cond (is_live (answer kind s q want).state.world a && not (renews s q o)) (level_from s.sessions n o a) level.Bare
others_keep_levels kind s q want n o a fits h = elim (verdict s.world s.sessions q) as (λ x. verdict s.world s.sessions q ≡ x → LevelAfter s n o a (answer kind s q want).state q) [
  | Some r ↦ λ e. subst (λ out. LevelAfter s n o a out.state q) (sym (refused_answer kind s q want r e))
      (as_was (is_live s.world a) (is_granted s.world s.sessions q) (is_set_cap_of q o) (level_from s.sessions n o a) (fits.live n o a) (ap (λ x. is_none x && is_set_cap_of q o) e))
  | None ↦ λ e. elim (granted_answer kind s q want e) [
    | inl done ↦ subst (λ out. LevelAfter s n o a out.state q) (sym done) (granted e)
    | inr lacking ↦ subst (λ out. LevelAfter s n o a out.state q) (sym lacking.0) (subst (LevelAfter s n o a s) (sym lacking.1.1)
        (as_was (is_live s.world a) (is_granted s.world s.sessions (ask.Begin lacking.1.0)) false (level_from s.sessions n o a) (fits.live n o a) (and_false (is_granted s.world s.sessions (ask.Begin lacking.1.0)))))
  ]
] refl
  where
    granted : ◌≡◌ {A = Option Rule} (verdict s.world s.sessions q) None → LevelAfter s n o a (judged kind s q None).state q
    granted e =
        let u = raised_by s.world s.sessions q in
        let next = (change kind s.world u q).state in
        let was : level_from u n o a ≡ level_from s.sessions n o a = ap (λ x. slice_index_or (levels_in x o) a level.Bare) (raised-other s.world s.sessions q n h) in
        level-fitted next.world next.sessions n o a
        ∙ (ap (λ x. cond (is_live next.world a) x level.Bare) ((change-other kind s.world u q n o a h).0 ∙ ap (cond (is_set_cap_of q o) level.Bare) was)
        ∙ (twice (is_live next.world a) (is_set_cap_of q o) (level_from s.sessions n o a)
        ∙ ap (λ x. cond (is_live next.world a && not (is_none x && is_set_cap_of q o)) (level_from s.sessions n o a) level.Bare) (sym e)))

pub others_stay_open : (kind : PlaceKind) (s : State) (q : Request) (want : Bool) (n : ℕ) → is_of_session q n ≡ false → is_open (answer kind s q want).state.sessions n ≡ is_open s.sessions n
others_stay_open kind s q want n h = after_answer (λ t. is_open t.sessions n ≡ is_open s.sessions n) kind s q want refl granted
  where
    granted : ◌≡◌ {A = Option Rule} (verdict s.world s.sessions q) None → is_open (judged kind s q None).state.sessions n ≡ is_open s.sessions n
    granted e =
        let u = raised_by s.world s.sessions q in
        let next = (change kind s.world u q).state in
        open-fitted next.world next.sessions n
        ∙ ((change-other kind s.world u q n 0 0 h).1
        ∙ ap is_some (raised-other s.world s.sessions q n h))
