-- The premises of the laws can be met: a secret that is kept, whatever the others ask.
use Rattle.std.proofs.Common.{◌≡◌, ℕ, ◌<◌, zero, suc, Bool, true, false, not, ◌&&◌, ◌||◌, ◌==◌, List, [], ◌∷◌, refl, arith, inl, inr, drop}
use Rattle.reach_laws.proofs.Common.{nat_tests, and_parts, or_cases, or_left, list_all, IsLawful, holds, contents, is_live, level_le, level_from, Fits, shown_level, IsValid, is_granted, State, answer, after, wants_now, is_of_session, Cap, Nothing, Key, Null, Level, PlaceKind, Near, Request, fresh_is_valid, no_sessions_fit, is_bare, run_valid, at_some_request, shows_right, AlikeBut, is_of, replies_to, IsShutOff, LeavesShut, NoneOpens, keeps_to, region_left}
use Rattle.tsd_model.specs.declared.requests.Level.TheVariants as level
use Rattle.tsd_model.specs.declared.requests.Request.TheVariants as ask
use Rattle.reach_laws.proofs.ConfinementLaws.{closed_holds_nothing, none_is_open_at_rest, holds_what_was_shown}
use Rattle.reach_laws.proofs.Counterexamples.{read_and_write, start, W}
use Rattle.reach_laws.proofs.RegionLaws.{region_is_hidden}
use Rattle.tsd_model.proofs.ValueLaws.{clash}

-- session 1 has written x to block 2, to which block 0 points
abbrev requests : ℕ → List Request
requests x = ask.Begin 1 ∷ ask.Alloc 1 0 W Null 1 ∷ ask.Write 1 2 Nothing (x ∷ []) ∷ []

abbrev kept_secret : ℕ → State
kept_secret x = after Near start [] (requests x)

abbrev region : ℕ → Bool
region b = (0 == b) || (2 == b)

abbrev others : ℕ → Bool
others n = not (1 == n)

-- the others may know every capability that isn't right at block 0
abbrev knows : ℕ → Cap → Bool
knows x c = not (level_le level.Read (shown_level (kept_secret x).world 0 (Key c)))

-- a session that asks nothing shows nothing
silent : (l : Level) (n o : ℕ) (kind : PlaceKind) (s : State) (wants : List Bool) (qs : List Request) → list_all (λ q. not (is_of_session q n)) qs ≡ true → at_some_request (shows_right l n o) kind s wants qs ≡ false
silent l n o kind s wants [] h = refl
silent l n o kind s wants (q ∷ qs) h =
    let parts = and_parts (not (is_of_session q n)) (list_all (λ p. not (is_of_session p n)) qs) h in
    none (is_granted s.world s.sessions q) (is_of_session q n) _ _ parts.0 (silent l n o kind (answer kind s q (wants_now wants)).state (drop 1 wants) qs parts.1)
  where
    none : (g t u v : Bool) → not t ≡ true → v ≡ false → (((g && t) && u) || v) ≡ false
    none g true u v p e = absurd (cc)
    none true false u v p e = e
    none false false u v p e = e

-- ---- the premises

lawful : IsLawful start.world.geometry
lawful = record { sectors = inl refl; blocks = (omega arith, omega arith); primaries = (omega arith, omega arith, omega arith); slots = (omega arith, omega arith) }

stands : (x : ℕ) → IsValid (kept_secret x).world × Fits (kept_secret x).world (kept_secret x).sessions
stands x = run_valid Near start [] (requests x) (fresh_is_valid start.world.geometry (read_and_write 0xaa 0xbb ∷ read_and_write 0xcc 0xdd ∷ []) lawful refl) (no_sessions_fit start.world)

outside : (b : ℕ) → region (suc (suc (suc b))) ≡ false
outside b = grind (arith, nat_tests)

live_there : (x b : ℕ) → region b ≡ true → is_live (kept_secret x).world b ≡ true
live_there x zero h = refl
live_there x (suc zero) h = absurd (cc)
live_there x (suc (suc zero)) h = refl
live_there x (suc (suc (suc b))) h = absurd (clash (region (suc (suc (suc b)))) h (outside b))

from_inside : (x a b : ℕ) → holds (kept_secret x).world.pairs a b ≡ true → region a ≡ true
from_inside x a b h = elim (or_cases ((0 == a) && (2 == b)) false h) [
  | inl here ↦ or_left (0 == a) (2 == a) (and_parts (0 == a) (2 == b) here).0
  | inr none ↦ absurd (cc)
]

not_asked : (x n : ℕ) → others n ≡ true → list_all (λ q. not (is_of_session q n)) (requests x) ≡ true
not_asked x n h = grind (arith, h)

nothing_held : (x n o b : ℕ) → others n ≡ true → o < 2 → level_from (kept_secret x).sessions n o b ≡ level.Bare
nothing_held x n o b other below = is_bare (level_from (kept_secret x).sessions n o b)
    (holds_what_was_shown level.Read Near start [] (requests x) n o (fresh_is_valid start.world.geometry (read_and_write 0xaa 0xbb ∷ read_and_write 0xcc 0xdd ∷ []) lawful refl) (no_sessions_fit start.world) below
    (closed_holds_nothing level.Read start n o (λ e. absurd (cc)) (none_is_open_at_rest start.world n)) (silent level.Read n o Near start [] (requests x) (not_asked x n other)) b)

nothing_known : (x o : ℕ) (c : Cap) → region o ≡ true → knows x c ≡ true → shown_level (kept_secret x).world o (Key c) ≡ level.Bare
nothing_known x zero c h k = is_bare (shown_level (kept_secret x).world 0 (Key c)) (not_so (level_le level.Read (shown_level (kept_secret x).world 0 (Key c))) k)
  where
    not_so : (t : Bool) → not t ≡ true → t ≡ false
    not_so true e = absurd (cc)
    not_so false e = refl
nothing_known x (suc zero) c h k = absurd (cc)
nothing_known x (suc (suc zero)) c h k = refl
nothing_known x (suc (suc (suc o))) c h k = absurd (clash (region (suc (suc (suc o)))) h (outside o))

shut : (x : ℕ) → IsShutOff (knows x) region others (kept_secret x)
shut x = record {
  live = live_there x;
  pointers = λ a b h _. from_inside x a b h;
  held = λ n o b other below _. nothing_held x n o b other below;
  shown = nothing_known x;
}

alike : (x y : ℕ) → AlikeBut region (kept_secret x) (kept_secret y)
alike x y = record {
  like = record { geometry = refl; version = refl; count = refl; live = same_live; pairs = refl; records = refl };
  bytes = same_bytes;
  sessions = refl;
}
  where
    same_live : (b : ℕ) → is_live (kept_secret y).world b ≡ is_live (kept_secret x).world b
    same_live zero = refl
    same_live (suc zero) = refl
    same_live (suc (suc zero)) = refl
    same_live (suc (suc (suc b))) = refl

    same_bytes : (b : ℕ) → region b ≡ false → contents (kept_secret y).world b ≡ contents (kept_secret x).world b
    same_bytes zero h = absurd (cc)
    same_bytes (suc zero) h = refl
    same_bytes (suc (suc zero)) h = absurd (cc)
    same_bytes (suc (suc (suc b))) h = refl

-- where session 1 asks nothing, nobody opens the region
none_opens : (x : ℕ) (kind : PlaceKind) (hidden : ℕ → Bool) (s : State) (wants : List Bool) (qs : List Request) → list_all (λ q. not (is_of_session q 1)) qs ≡ true → NoneOpens (knows x) others kind hidden s wants qs
none_opens x kind hidden s wants [] h = tt
none_opens x kind hidden s wants (q ∷ qs) h =
    let parts = and_parts (not (is_of_session q 1)) (list_all (λ p. not (is_of_session p 1)) qs) h in
    (λ other _. of_none q parts.0 other, none_opens x kind (region_left hidden (answer kind s q (wants_now wants)).state) (answer kind s q (wants_now wants)).state (drop 1 wants) qs parts.1)
  where
    never : (n : ℕ) → not (n == 1) ≡ true → not (1 == n) ≡ false → ⊥
    never n p e = clash (not (1 == n)) (grind (arith, p)) e

    of_none : (p : Request) → not (is_of_session p 1) ≡ true → is_of others p ≡ false → LeavesShut (knows x) hidden s.world p
    of_none (ask.Create n a shown b) mine other = absurd (never n mine other)
    of_none (ask.SetCap n b shown caps) mine other = absurd (never n mine other)
    of_none p mine other = tt

-- As long as session 1 asks nothing, the others are answered the same whatever the secret is, if they know any capabilities but those of block 0.
pub secret_is_kept : (x y : ℕ) (kind : PlaceKind) (wants : List Bool) (qs : List Request) → list_all (λ q. not (is_of_session q 1)) qs ≡ true → list_all (keeps_to (knows x) others) qs ≡ true
    → replies_to others kind (kept_secret y) wants qs ≡ replies_to others kind (kept_secret x) wants qs
secret_is_kept x y kind wants qs silent_one keeps =
    region_is_hidden kind (knows x) region others (kept_secret x) (kept_secret y) wants qs
    (record { valid = (stands x).0; fits = (stands x).1; shut = shut x; keeps = keeps; closed = none_opens x kind region (kept_secret x) wants qs silent_one }) (alike x y)
