-- What a session can't have where it shows no right capability.
use Rattle.std.specs.Prelude.{◌≡◌, ℕ, ◌<◌, Bool, false, ◌&&◌, ◌==◌, List, ◌++◌, is_some, IsTrue}
use Rattle.std.specs.List.{list_any}
use Rattle.tsd_model.specs.World.{World, is_primary}
use Rattle.tsd_model.specs.Sessions.{Sessions, level_le, level_from, is_open, Fits}
use Rattle.tsd_model.specs.Attained.{shown_level, attained_from}
use Rattle.tsd_model.specs.Needs.{needs}
use Rattle.tsd_model.specs.Verdict.{Check, is_granted, first_rule, session_rules, block_rules, level_rules}
use Rattle.tsd_model.specs.Valid.{IsValid}
use Rattle.tsd_model.specs.Step.{State}
use Rattle.tsd_model.specs.Run.{after, at_rest}
use Rattle.tsd_model.specs.History.{is_of_session}
use Rattle.tsd_model.specs.declared.caps.Shown.{Shown}
use Rattle.tsd_model.specs.declared.needs.Need.{Need}
use Rattle.tsd_model.specs.declared.requests.Level.{Level}
use Rattle.tsd_model.specs.declared.requests.Level.TheVariants as level
use Rattle.tsd_model.specs.declared.requests.PlaceKind.{PlaceKind}
use Rattle.tsd_model.specs.declared.requests.Request.{Request}
use Rattle.reach_laws.specs.Runs.{at_some_request}

-- ---- what is shown

-- the need is at block o, and what is shown there is right for l: it attains at least l against o's record as it is now
abbrev pub is_right_at : Level → World → ℕ → Need → Bool
is_right_at l w o n = (n.block == o) && level_le l (shown_level w n.block n.shown)

-- a granted request of the session that shows at block o a capability right for l
abbrev pub shows_right : Level → ℕ → ℕ → State → Request → Bool
shows_right l s o st q =
    (is_granted st.world st.sessions q && is_of_session q s) && list_any (is_right_at l st.world o) (needs q)

-- the need is at a primary block, and what is shown there is right for l
abbrev pub is_right_somewhere : Level → World → Need → Bool
is_right_somewhere l w n = is_primary w n.block && level_le l (shown_level w n.block n.shown)

-- the request shows a right capability at some primary block where it needs a level
abbrev pub has_right : Level → State → Request → Bool
has_right l st q = list_any (is_right_somewhere l st.world) (needs q)

-- besides, it is a granted request of the session
abbrev pub shows_any_right : Level → ℕ → State → Request → Bool
shows_any_right l s st q = (is_granted st.world st.sessions q && is_of_session q s) && has_right l st q

-- ---- what is held

-- The session holds less than l from primary block o, at every block. Less than read is nothing.
abbrev pub HoldsLess : Level → State → ℕ → ℕ → Type 0
HoldsLess l st s o = (a : ℕ) → level_le l (level_from st.sessions s o a) ≡ false

-- A session that isn't open holds nothing: less than any level that is one.
abbrev pub ClosedHoldsNothing : Type 0
ClosedHoldsNothing = (l : Level) (st : State) (s o : ℕ) → (l ≡ level.Bare → ⊥) → is_open st.sessions s ≡ false
    → HoldsLess l st s o

-- Where a run begins with no session open, none is.
abbrev pub NoneIsOpenAtRest : Type 0
NoneIsOpenAtRest = (w : World) (s : ℕ) → is_open (at_rest w).sessions s ≡ false

-- In a run where no granted request of the session shows at primary block o a capability right for l, a session that
-- held less than l from o holds less than l from it at the end.
abbrev pub HoldsWhatWasShown : Type 0
HoldsWhatWasShown =
    (l : Level) (kind : PlaceKind) (st : State) (wants : List Bool) (qs : List Request) (s o : ℕ)
    → IsValid st.world → Fits st.world st.sessions → o < st.world.geometry.primaries
    → HoldsLess l st s o → at_some_request (shows_right l s o) kind st wants qs ≡ false
    → HoldsLess l (after kind st wants qs) s o

-- And it attains at least l from o just at o itself, by showing there what is right for l.
abbrev pub AttainsWhatWasShown : Type 0
AttainsWhatWasShown =
    (l : Level) (kind : PlaceKind) (st : State) (wants : List Bool) (qs : List Request) (s o b : ℕ) (shown : Shown)
    → IsValid st.world → Fits st.world st.sessions → o < st.world.geometry.primaries
    → HoldsLess l st s o → at_some_request (shows_right l s o) kind st wants qs ≡ false
    → level_le l (attained_from (after kind st wants qs).world (after kind st wants qs).sessions s b shown o)
    ≡ ((o == b) && level_le l (shown_level (after kind st wants qs).world b shown))

-- ---- who is refused

-- the request needs at least l at some block
abbrev pub needs_level : Level → Request → Bool
needs_level l q = list_any (λ (n : Need). level_le l n.level) (needs q)

-- the rules up to Denied
abbrev pub rules_to_denied : World → Sessions → Request → List Check
rules_to_denied w v q = session_rules v q ++ (block_rules w q ++ level_rules w v q)

-- A session that held less than l from every primary block, and that in a run was granted no request in which it showed
-- a capability right for l, is refused each request that needs l and shows none either: by Denied or by a rule before
-- it.
abbrev pub RefusedUnshown : Type 0
RefusedUnshown =
    (l : Level) (kind : PlaceKind) (st : State) (wants : List Bool) (qs : List Request) (q : Request) (s : ℕ)
    → IsValid st.world → Fits st.world st.sessions → ((o : ℕ) → o < st.world.geometry.primaries → HoldsLess l st s o)
    → at_some_request (shows_any_right l s) kind st wants qs ≡ false
    → IsTrue (is_of_session q s) → IsTrue (needs_level l q) → has_right l (after kind st wants qs) q ≡ false
    → (is_granted (after kind st wants qs).world (after kind st wants qs).sessions q ≡ false)
    × IsTrue (is_some (first_rule (rules_to_denied (after kind st wants qs).world (after kind st wants qs).sessions q)))
