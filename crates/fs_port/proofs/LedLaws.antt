-- What sessions hold stays while requests neither open nor close one, nor set a capability.
use Rattle.std.proofs.Common.{◌≡◌, ℕ, ◌<◌, Bool, true, false, not, ◌&&◌, ◌||◌, List, [], ◌∷◌, refl, sym, ◌∙◌, ap, subst}
use Rattle.std.proofs.lemmas.Bool.{and_from, or_right}
use Rattle.tsd_model.specs.World.{is_live}
use Rattle.tsd_model.specs.Sessions.{level_le, level_from, Fits}
use Rattle.tsd_model.specs.Verdict.{is_granted}
use Rattle.tsd_model.specs.Valid.{IsValid}
use Rattle.tsd_model.specs.Step.{State}
use Rattle.tsd_model.specs.Run.{answer}
use Rattle.tsd_model.specs.History.{is_end_of, is_set_cap_of, gives_grant, keeps_grant}
use Rattle.tsd_model.specs.declared.requests.Level.{Level}
use Rattle.tsd_model.specs.declared.requests.Level.TheVariants as level
use Rattle.tsd_model.specs.declared.requests.PlaceKind.{PlaceKind}
use Rattle.tsd_model.specs.declared.requests.Request.{Request}
use Rattle.tsd_model.specs.declared.requests.Request.TheVariants as ask
use Rattle.disk_laws.proofs.GrantLaws.{answer_level}
use Rattle.disk_laws.proofs.RunLaws.{answer_valid, answer_fits, run_geometry}
use Rattle.tsd_model.specs.Needs.{is_steady}
use Rattle.fs_port.specs.Calls.{LeadTo}
use Rattle.fs_port.specs.Led.{LivesOn}

least : (x : Level) → level_le level.Bare x ≡ true
least level.Bare = refl
least level.Read = refl
least level.Write = refl

ends_none : (q : Request) (s o : ℕ) → is_steady q ≡ true → (is_end_of q s || is_set_cap_of q o) ≡ false
ends_none (ask.Begin n) s o h = absurd (cc)
ends_none (ask.End n) s o h = absurd (cc)
ends_none (ask.SetCap n b shown caps) s o h = absurd (cc)
ends_none q s o h = refl

kept : (live g e : Bool) → live ≡ true → e ≡ false → (live && not (g && e)) ≡ true
kept true true e l h = ap not h
kept true false e l h = refl
kept false g e l h = absurd (cc)

module _ (kind : PlaceKind) (st : State) (q : Request) (want : Bool) (s o b : ℕ) (valid : IsValid st.world) (fits : Fits st.world st.sessions) (below : o < st.world.geometry.primaries)
    (calm : is_steady q ≡ true) (live : is_live (answer kind st q want).state.world b ≡ true) where
  above_bare : (l : Level) → level_le l level.Bare ≡ false → level_le l (level_from st.sessions s o b) ≡ true → level_le l (level_from (answer kind st q want).state.sessions s o b) ≡ true
  above_bare l some held =
      answer_level st.world st.sessions valid fits s o b l below some kind q want
      ∙ and_from (keeps_grant st (answer kind st q want).state q s o b) _
      (kept (is_live (answer kind st q want).state.world b) (is_granted st.world st.sessions q) (is_end_of q s || is_set_cap_of q o) live (ends_none q s o calm))
      (or_right (gives_grant st q s o b l) _ held)

  level_stays : (l : Level) → level_le l (level_from st.sessions s o b) ≡ true → level_le l (level_from (answer kind st q want).state.sessions s o b) ≡ true
  level_stays level.Bare held = least (level_from (answer kind st q want).state.sessions s o b)
  level_stays level.Read held = above_bare level.Read refl held
  level_stays level.Write held = above_bare level.Write refl held

pub levels_stay : (kind : PlaceKind) (st next : State) (qs : List (Request × Bool)) (s o b : ℕ) (l : Level) → IsValid st.world → Fits st.world st.sessions → o < st.world.geometry.primaries
    → LeadTo kind st qs next → LivesOn kind st qs b → level_le l (level_from st.sessions s o b) ≡ true → level_le l (level_from next.sessions s o b) ≡ true
levels_stay kind st next [] s o b l valid fits below led lives held = subst (λ x. level_le l (level_from x.sessions s o b) ≡ true) (sym led) held
levels_stay kind st next (q ∷ qs) s o b l valid fits below led lives held =
    levels_stay kind (answer kind st q.0 q.1).state next qs s o b l (answer_valid kind st q.0 q.1 valid) (answer_fits kind st q.0 q.1 valid fits)
    (subst (λ g. o < g.primaries) (sym (run_geometry kind st (q.1 ∷ []) (q.0 ∷ []))) below)
    led.1 lives.1 (level_stays kind st q.0 q.1 s o b valid fits below led.0 lives.0 l held)
