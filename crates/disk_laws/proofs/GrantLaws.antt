-- What a session holds is what it was granted.
use Rattle.std.proofs.Common.{◌≡◌, ℕ, zero, suc, ◌<◌, ◌≤◌, Bool, true, false, not, cond, ◌&&◌, ◌||◌, ◌==◌, nat_lt, nat_le, List, [], ◌∷◌, length, refl, sym, ◌∙◌, ap, subst, arith, inl, inr, ◌⊎◌, Option, Some, None, drop}
use Rattle.disk_laws.proofs.Common.{cases_eq, eq-eqb, ne_eqb, leb-false, ltb-false, or_parts, replicate, slice_index_or, is_some, is_none, IfSome, list_any, option_map_or, World, is_live, Held, Sessions, sessions_max, level_le, held_by, is_open, levels_in, level_from, session_begun, session_ended, Fits, session_of, needs, IsValid, is_begin, is_no_session, has_bad_session, is_already_open, names_missing_block, is_granted, verdict, State, change, judged, raised_by, answer, after, wants_now, at_rest, Asked, state_after, is_of_session, attains_at, gives_grant, is_end_of, is_set_cap_of, keeps_grant, has_grant, Level, PlaceKind, Request, Rule, onto_past, newest_first, no_held, held_keeps, held-with_other, held-with_same}
use Rattle.tsd_model.specs.declared.requests.Level.TheVariants as level
use Rattle.tsd_model.specs.declared.requests.Request.TheVariants as ask
use Rattle.disk_laws.proofs.RuleLaws.{Passes, granted_passes}
use Rattle.disk_laws.proofs.AnswerLaws.{refused_answer, granted_answer}
use Rattle.disk_laws.proofs.FitLaws.{HasOrigins, origins-raised_by}
use Rattle.disk_laws.proofs.RunLaws.{answer_valid, answer_fits, fits_have_origins, answer_geometry}
use Rattle.disk_laws.proofs.FreshLaws.{no_sessions_fit}
use Rattle.disk_laws.proofs.HeldLaws.{not_bare, level-fitted, level-dropped_from, IsReady, NeedsBelow, level-raised_for}
use Rattle.tsd_model.proofs.ValueLaws.{and_false}

-- ---- the needs of a request that passes

-- the one or two blocks that are named are of the disk
named_below : (n b : ℕ) (t : Bool) → (nat_le n b || t) ≡ false → b < n
named_below n b t h = leb-false n b (or_parts (nat_le n b) t h).0

needs_below : (w : World) (q : Request) → names_missing_block w q ≡ false → NeedsBelow w.geometry.blocks (needs q)
needs_below w ask.Bad h = tt
needs_below w (ask.Begin s) h = tt
needs_below w (ask.End s) h = tt
needs_below w (ask.Read s b shown) h = (named_below w.geometry.blocks b _ h, tt)
needs_below w (ask.Write s b shown bytes) h = (named_below w.geometry.blocks b _ h, tt)
needs_below w (ask.Alloc s a shown hint count) h = (named_below w.geometry.blocks a _ h, tt)
needs_below w (ask.Contig s a shown hint count) h = (named_below w.geometry.blocks a _ h, tt)
needs_below w ask.GetFree h = tt
needs_below w (ask.Create s a shown b) h = (named_below w.geometry.blocks a _ h, (named_below w.geometry.blocks b _ (or_parts (nat_le w.geometry.blocks a) _ h).1, tt))
needs_below w (ask.Delete s a shown b) h = (named_below w.geometry.blocks a _ h, tt)
needs_below w (ask.SetCap s b shown caps) h = (named_below w.geometry.blocks b _ h, tt)
needs_below w (ask.Sweep s shown) h = (named_below w.geometry.blocks 0 _ h, tt)
needs_below w (ask.List s a shown start) h = (named_below w.geometry.blocks a _ h, tt)

-- a session that is named is in range
pub in_range : (t : ℕ) → is_no_session t ≡ false → (1 ≤ t) × (t ≤ sessions_max)
in_range t h = let parts = or_parts (nat_lt t 1) (nat_lt sessions_max t) h in (ltb-false t 1 parts.0, ltb-false sessions_max t parts.1)

is_opened : (t : Bool) → not t ≡ false → t ≡ true
is_opened true h = refl
is_opened false h = absurd (cc)

-- ---- a granted request

bare_in : (n a : ℕ) → slice_index_or (replicate n level.Bare) a level.Bare ≡ level.Bare
bare_in zero a = refl
bare_in (suc n) zero = refl
bare_in (suc n) (suc a) = bare_in n a

-- nothing is held in a new session
begun_bare : (n : ℕ) (p o a : ℕ) → slice_index_or (slice_index_or (replicate p (replicate n level.Bare)) o []) a level.Bare ≡ level.Bare
begun_bare n zero o a = refl
begun_bare n (suc p) zero a = bare_in n a
begun_bare n (suc p) (suc o) a = begun_bare n p o a

closed : (x : Option Held) → is_some x ≡ false → ◌≡◌ {A = Option Held} x None
closed None h = refl
closed (Some held) h = absurd (cc)

le_cond : (t : Bool) (l x : Level) → level_le l level.Bare ≡ false → level_le l (cond t x level.Bare) ≡ (t && level_le l x)
le_cond true l x h = refl
le_cond false l x h = h

le_not_cond : (t : Bool) (l x : Level) → level_le l level.Bare ≡ false → level_le l (cond t level.Bare x) ≡ (not (false || t) && level_le l x)
le_not_cond true l x h = h
le_not_cond false l x h = refl

regroup : (live e g r s y old : Bool) → g ≡ true → r ≡ ((s && y) || old) → (live && (not e && r)) ≡ ((live && not (g && e)) && (((g && s) && y) || old))
regroup live e true r s y old q k = assoc live (not e) r ∙ ap (λ z. (live && not e) && z) k
  where
    assoc : (c d f : Bool) → (c && (d && f)) ≡ ((c && d) && f)
    assoc true d f = refl
    assoc false d f = refl
regroup live e false r s y old q k = absurd (cc)

-- what was held stays where nothing was granted
unchanged : (live e g s y old : Bool) → (old ≡ false) ⊎ (live ≡ true) → (g && e) ≡ false → ((g && s) && y) ≡ false → old ≡ ((live && not (g && e)) && (((g && s) && y) || old))
unchanged live e g s y old h p q = subst (λ c. old ≡ ((live && not c) && (((g && s) && y) || old))) (sym p) (subst (λ d. old ≡ ((live && true) && (d || old))) (sym q) (elim h [ inl none ↦ bare none | inr there ↦ subst (λ c. old ≡ ((c && true) && old)) (sym there) refl ]))
  where
    bare : old ≡ false → old ≡ ((live && true) && old)
    bare none = subst (λ c. c ≡ ((live && true) && c)) (sym none) (end live)
      where
        end : (c : Bool) → false ≡ ((c && true) && false)
        end true = refl
        end false = refl

module _ (w : World) (v : Sessions) (valid : IsValid w) (fits : Fits w v) (s o a : ℕ) (l : Level) (below : o < w.geometry.primaries) (some : level_le l level.Bare ≡ false) where
  abbrev before : State
  before = record { world = w; sessions = v }

  ready : (t : ℕ) → is_open v t ≡ true → IsReady w.geometry.primaries w.geometry.blocks o t v
  ready t there = record {
    shape = fits_have_origins (record { world = w; sessions = v }) fits;
    there = there;
    long = fits.blocks t o there below;
  }

  session_ready : (q : Request) → is_begin q ≡ false → Passes w v q → IfSome (session_of q) (λ t. (1 ≤ t) × (t ≤ sessions_max) × IsReady w.geometry.primaries w.geometry.blocks o t v)
  session_ready q n pass = go (session_of q) pass.in_range (subst (λ t. (not t && option_map_or (λ k. not (is_open v k)) (session_of q) false) ≡ false) n pass.opened)
    where
      go : (x : Option ℕ) → option_map_or is_no_session x false ≡ false → (true && option_map_or (λ k. not (is_open v k)) x false) ≡ false → IfSome x (λ t. (1 ≤ t) × (t ≤ sessions_max) × IsReady w.geometry.primaries w.geometry.blocks o t v)
      go None h k = tt
      go (Some t) h k = let range = in_range t h in (range.0, range.1, ready t (is_opened (is_open v t) k))

  -- what was held before, or is attained now where a level is needed
  abbrev raises : Request → Bool
  raises q = (is_of_session q s && list_any (attains_at (record { world = w; sessions = v }) s o a l) (needs q)) || level_le l (level_from v s o a)

  drop_begin : (x : Bool) (y : Bool) → y ≡ ((x && false) || y)
  drop_begin true y = refl
  drop_begin false y = refl

  level-raised_by : (q : Request) → Passes w v q → level_le l (level_from (raised_by w v q) s o a) ≡ raises q
  level-raised_by (ask.Begin n) pass = drop_begin (n == s) (level_le l (level_from v s o a))
  level-raised_by q pass = level-raised_for w v w.geometry.primaries w.geometry.blocks s o a l (session_of q) (needs q) below (session_ready q refl pass) (needs_below w q pass.there)

  -- the changes of the sessions themselves
  level-begun : (u : Sessions) (n : ℕ) → is_open u n ≡ false → level_le l (level_from (session_begun w u n) s o a) ≡ level_le l (level_from u s o a)
  level-begun u n shut = elim (cases_eq s n) [
    | inr other ↦ ap (λ x. level_le l (slice_index_or (levels_in x o) a level.Bare)) (held-with_other u n s (Some (replicate w.geometry.primaries (replicate (length w.blocks) level.Bare))) other)
    | inl same ↦ subst (λ k. level_le l (level_from (session_begun w u n) k o a) ≡ level_le l (level_from u k o a)) (sym same)
        (let none = closed (held_by u n) shut in
        let was : level_from u n o a ≡ level.Bare = ap (λ x. slice_index_or (levels_in x o) a level.Bare) none in
        let now : level_from (session_begun w u n) n o a ≡ level.Bare = held_keeps (λ x. slice_index_or (levels_in x o) a level.Bare ≡ level.Bare) u n n (Some (replicate w.geometry.primaries (replicate (length w.blocks) level.Bare))) (begun_bare (length w.blocks) w.geometry.primaries o a) was in
        ap (level_le l) (now ∙ sym was))
  ]

  level-ended : (u : Sessions) (n : ℕ) → 1 ≤ n → n ≤ length u → level_le l (level_from (session_ended u n) s o a) ≡ (not ((n == s) || false) && level_le l (level_from u s o a))
  level-ended u n n1 most = elim (cases_eq s n) [
    | inr other ↦ ap (λ x. level_le l (slice_index_or (levels_in x o) a level.Bare)) (held-with_other u n s None other)
        ∙ ap (λ t. not (t || false) && level_le l (level_from u s o a)) (sym (ne_eqb n s (λ e. other (sym e))))
    | inl same ↦ subst (λ k. level_le l (level_from (session_ended u n) k o a) ≡ (not ((n == k) || false) && level_le l (level_from u k o a))) (sym same)
        (ap (λ x. level_le l (slice_index_or (levels_in x o) a level.Bare)) (held-with_same u n None n1 most)
        ∙ (some ∙ ap (λ t. not (t || false) && level_le l (level_from u n o a)) (sym (eq-eqb n n refl))))
  ]

  level-change : (kind : PlaceKind) (u : Sessions) (q : Request) → length u ≡ sessions_max → has_bad_session q ≡ false → is_already_open u q ≡ false
      → level_le l (level_from (change kind w u q).state.sessions s o a) ≡ (not (is_end_of q s || is_set_cap_of q o) && level_le l (level_from u s o a))
  level-change kind u (ask.Begin n) long good shut = level-begun u n shut
  level-change kind u (ask.End n) long good shut = level-ended u n (in_range n good).0 (omega (arith, (in_range n good).1, long))
  level-change kind u (ask.SetCap n b shown caps) long good shut = ap (level_le l) (level-dropped_from (length w.blocks) b u s o a) ∙ le_not_cond (b == o) l (level_from u s o a) some
  level-change kind u q long good shut = refl

  opens_new : (q : Request) → Passes w v q → is_already_open (raised_by w v q) q ≡ false
  opens_new (ask.Begin n) pass = pass.opens_new
  opens_new q pass = refl

  granted_level : (kind : PlaceKind) (q : Request) → ◌≡◌ {A = Option Rule} (verdict w v q) None
      → level_le l (level_from (judged kind (record { world = w; sessions = v }) q None).state.sessions s o a)
      ≡ (keeps_grant (record { world = w; sessions = v }) (judged kind (record { world = w; sessions = v }) q None).state q s o a && (gives_grant (record { world = w; sessions = v }) q s o a l || level_le l (level_from v s o a)))
  granted_level kind q e =
      let pass = granted_passes w v q e in
      let u = raised_by w v q in
      let next = (change kind w u q).state in
      let live = is_live next.world a in
      let shape : HasOrigins w.geometry.primaries u = origins-raised_by w.geometry.primaries w v q (fits_have_origins (record { world = w; sessions = v }) fits) in
      ap (level_le l) (level-fitted next.world next.sessions s o a)
      ∙ (le_cond live l (level_from next.sessions s o a) some
      ∙ (ap (λ t. live && t) (level-change kind u q shape.count pass.in_range (opens_new q pass))
      ∙ regroup live (is_end_of q s || is_set_cap_of q o) (is_granted w v q) (level_le l (level_from u s o a)) (is_of_session q s) (list_any (attains_at (record { world = w; sessions = v }) s o a l) (needs q)) (level_le l (level_from v s o a))
      (ap is_none e) (level-raised_by q pass)))

  -- what is held is held at live blocks
  alive : (level_le l (level_from v s o a) ≡ false) ⊎ (is_live w a ≡ true)
  alive = elim (fits.live s o a) [ inl none ↦ inl (ap (level_le l) none ∙ some) | inr there ↦ inr there ]

  abbrev StepLevel : State → Request → Type 0
  StepLevel next q = level_le l (level_from next.sessions s o a) ≡ (keeps_grant (record { world = w; sessions = v }) next q s o a && (gives_grant (record { world = w; sessions = v }) q s o a l || level_le l (level_from v s o a)))

  stays_level : (q : Request) → (is_granted w v q && (is_end_of q s || is_set_cap_of q o)) ≡ false → ((is_granted w v q && is_of_session q s) && list_any (attains_at (record { world = w; sessions = v }) s o a l) (needs q)) ≡ false
      → StepLevel (record { world = w; sessions = v }) q
  stays_level q p r = unchanged (is_live w a) (is_end_of q s || is_set_cap_of q o) (is_granted w v q) (is_of_session q s) (list_any (attains_at (record { world = w; sessions = v }) s o a l) (needs q)) (level_le l (level_from v s o a)) alive p r

  pub answer_level : (kind : PlaceKind) (q : Request) (want : Bool) → StepLevel (answer kind (record { world = w; sessions = v }) q want).state q
  answer_level kind q want = elim (verdict w v q) as (λ x. verdict w v q ≡ x → StepLevel (answer kind (record { world = w; sessions = v }) q want).state q) [
    | Some r ↦ λ e. subst (λ out. StepLevel out.state q) (sym (refused_answer kind (record { world = w; sessions = v }) q want r e))
        (let no : is_granted w v q ≡ false = ap is_none e in
        stays_level q (ap (λ t. t && (is_end_of q s || is_set_cap_of q o)) no) (ap (λ t. (t && is_of_session q s) && list_any (attains_at (record { world = w; sessions = v }) s o a l) (needs q)) no))
    | None ↦ λ e. elim (granted_answer kind (record { world = w; sessions = v }) q want e) [
      | inl done ↦ subst (λ out. StepLevel out.state q) (sym done) (granted_level kind q e)
      | inr lacking ↦ subst (λ out. StepLevel out.state q) (sym lacking.0)
          (subst (StepLevel (record { world = w; sessions = v })) (sym lacking.1.1)
          (stays_level (ask.Begin lacking.1.0) (and_false (is_granted w v (ask.Begin lacking.1.0))) (and_false (is_granted w v (ask.Begin lacking.1.0) && is_of_session (ask.Begin lacking.1.0) s))))
    ]
  ] refl

-- ---- a run

-- a valid world with sessions that fit it, of this geometry
record Stands (w : World) (t : State) : Type 0 where
  valid : IsValid t.world
  fits : Fits t.world t.sessions
  geometry : t.world.geometry ≡ w.geometry

rests : (w : World) → IsValid w → Stands w (at_rest w)
rests w valid = record {
  valid = valid;
  fits = no_sessions_fit w;
  geometry = refl;
}

stands_after : (kind : PlaceKind) (w : World) → IsValid w → (past : List Asked) → Stands w (state_after kind (at_rest w) past)
stands_after kind w valid [] = rests w valid
stands_after kind w valid (e ∷ past) =
    let st = state_after kind (at_rest w) past in
    let is : Stands w (state_after kind (at_rest w) past) = stands_after kind w valid past in
    record {
      valid = answer_valid kind st e.request e.wants is.valid;
      fits = answer_fits kind st e.request e.wants is.valid is.fits;
      geometry = answer_geometry kind st e.request e.wants ∙ is.geometry;
    }

grants_after : (kind : PlaceKind) (w : World) (past : List Asked) (s o a : ℕ) (l : Level) → IsValid w → o < w.geometry.primaries → level_le l level.Bare ≡ false
    → level_le l (level_from (state_after kind (at_rest w) past).sessions s o a) ≡ has_grant kind (at_rest w) past s o a l
grants_after kind w [] s o a l valid below some = ap (λ x. level_le l (slice_index_or (levels_in x o) a level.Bare)) (no_held s) ∙ some
grants_after kind w (e ∷ past) s o a l valid below some =
    let st = state_after kind (at_rest w) past in
    let is : Stands w (state_after kind (at_rest w) past) = stands_after kind w valid past in
    answer_level st.world st.sessions is.valid is.fits s o a l (subst (λ g. o < g.primaries) (sym is.geometry) below) some kind e.request e.wants
    ∙ ap (λ t. keeps_grant st (state_after kind (at_rest w) (e ∷ past)) e.request s o a && (gives_grant st e.request s o a l || t)) (grants_after kind w past s o a l valid below some)

-- a run and its requests, the newest first
pub after_newest_first : (kind : PlaceKind) (start : State) (wants : List Bool) (qs : List Request) (past : List Asked) → after kind (state_after kind start past) wants qs ≡ state_after kind start (onto_past wants qs past)
after_newest_first kind start wants [] past = refl
after_newest_first kind start wants (q ∷ qs) past = after_newest_first kind start (drop 1 wants) qs (record { request = q; wants = wants_now wants } ∷ past)

pub levels_are_grants : (kind : PlaceKind) (w : World) (wants : List Bool) (qs : List Request) (s o a : ℕ) (l : Level) → IsValid w → o < w.geometry.primaries → (l ≡ level.Bare → ⊥)
    → level_le l (level_from (after kind (at_rest w) wants qs).sessions s o a) ≡ has_grant kind (at_rest w) (newest_first wants qs) s o a l
levels_are_grants kind w wants qs s o a l valid below some =
    ap (λ t. level_le l (level_from t.sessions s o a)) (after_newest_first kind (at_rest w) wants qs [])
    ∙ grants_after kind w (newest_first wants qs) s o a l valid below (not_bare l some)
