-- What each answer keeps, a run keeps.
use Rattle.std.proofs.Common.{◌≡◌, Bool, List, [], ◌∷◌, refl, sym, ◌∙◌, subst, Option, None, drop}
use Rattle.disk_laws.proofs.Common.{Fits, IsValid, verdict, State, change, raised_by, judged, answer, after, wants_now, PlaceKind, Request, Rule}
use Rattle.disk_laws.proofs.AnswerLaws.{after_answer}
use Rattle.disk_laws.proofs.FitLaws.{HasOrigins, origins-raised_by, origins-change, fitted_fits, geometry-change, version-change}
use Rattle.disk_laws.proofs.RuleLaws.{granted_passes}
use Rattle.disk_laws.proofs.ValidLaws.{change_valid}

pub after_run : (P : State → Type 0) (kind : PlaceKind) → ((s : State) (q : Request) (want : Bool) → P s → P (answer kind s q want).state) → (s : State) (wants : List Bool) (qs : List Request) → P s → P (after kind s wants qs)
after_run P kind each s wants [] h = h
after_run P kind each s wants (q ∷ qs) h = after_run P kind each (answer kind s q (wants_now wants)).state (drop 1 wants) qs (each s q (wants_now wants) h)

-- ---- valid, and sessions that fit

pub granted_is_valid : (kind : PlaceKind) (s : State) (q : Request) → IsValid s.world → ◌≡◌ {A = Option Rule} (verdict s.world s.sessions q) None → IsValid (judged kind s q None).state.world
granted_is_valid kind s q valid e = change_valid kind s.world s.sessions (raised_by s.world s.sessions q) q valid (granted_passes s.world s.sessions q e)

pub answer_valid : (kind : PlaceKind) (s : State) (q : Request) (want : Bool) → IsValid s.world → IsValid (answer kind s q want).state.world
answer_valid kind s q want valid = after_answer (λ t. IsValid t.world) kind s q want valid (granted_is_valid kind s q valid)

pub fits_have_origins : (s : State) → Fits s.world s.sessions → HasOrigins s.world.geometry.primaries s.sessions
fits_have_origins s fits = record { count = fits.count; origins = fits.origins }

pub answer_fits : (kind : PlaceKind) (s : State) (q : Request) (want : Bool) → IsValid s.world → Fits s.world s.sessions → Fits (answer kind s q want).state.world (answer kind s q want).state.sessions
answer_fits kind s q want valid fits = after_answer (λ t. Fits t.world t.sessions) kind s q want fits changed
  where
    changed : ◌≡◌ {A = Option Rule} (verdict s.world s.sessions q) None → Fits (judged kind s q None).state.world (judged kind s q None).state.sessions
    changed e =
        let u = raised_by s.world s.sessions q in
        let next = (change kind s.world u q).state in
        let same : next.world.geometry ≡ s.world.geometry = geometry-change kind s.world u q in
        let raised : HasOrigins s.world.geometry.primaries u = origins-raised_by s.world.geometry.primaries s.world s.sessions q (fits_have_origins s fits) in
        let there : HasOrigins s.world.geometry.primaries next.sessions = origins-change kind s.world u q raised in
        fitted_fits next.world next.sessions (granted_is_valid kind s q valid e).raw.sized.each_block (subst (λ g. HasOrigins g.primaries next.sessions) (sym same) there)

pub run_valid : (kind : PlaceKind) (s : State) (wants : List Bool) (qs : List Request) → IsValid s.world → Fits s.world s.sessions → IsValid (after kind s wants qs).world × Fits (after kind s wants qs).world (after kind s wants qs).sessions
run_valid kind s wants qs valid fits = after_run (λ t. IsValid t.world × Fits t.world t.sessions) kind (λ t q want h. (answer_valid kind t q want h.0, answer_fits kind t q want h.0 h.1)) s wants qs (valid, fits)

-- ---- the version and the geometry stay

pub answer_geometry : (kind : PlaceKind) (s : State) (q : Request) (want : Bool) → (answer kind s q want).state.world.geometry ≡ s.world.geometry
answer_geometry kind s q want = after_answer (λ t. t.world.geometry ≡ s.world.geometry) kind s q want refl (λ _. geometry-change kind s.world (raised_by s.world s.sessions q) q)

pub run_geometry : (kind : PlaceKind) (s : State) (wants : List Bool) (qs : List Request) → (after kind s wants qs).world.geometry ≡ s.world.geometry
run_geometry kind s wants qs = after_run (λ t. t.world.geometry ≡ s.world.geometry) kind (λ t q want h. answer_geometry kind t q want ∙ h) s wants qs refl

pub answer_version : (kind : PlaceKind) (s : State) (q : Request) (want : Bool) → (answer kind s q want).state.world.version ≡ s.world.version
answer_version kind s q want = after_answer (λ t. t.world.version ≡ s.world.version) kind s q want refl (λ _. version-change kind s.world (raised_by s.world s.sessions q) q)

pub run_version : (kind : PlaceKind) (s : State) (wants : List Bool) (qs : List Request) → (after kind s wants qs).world.version ≡ s.world.version
run_version kind s wants qs = after_run (λ t. t.world.version ≡ s.world.version) kind (λ t q want h. answer_version kind t q want ∙ h) s wants qs refl
