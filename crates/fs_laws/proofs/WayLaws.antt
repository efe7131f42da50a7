-- How a session that may write a root gets to write what hangs from it.
use Rattle.std.proofs.Common.{◌≡◌, ℕ, zero, suc, ◌+◌, ◌<◌, ◌≤◌, Bool, true, false, not, ◌&&◌, ◌||◌, ◌==◌, List, [], ◌∷◌, refl, sym, ◌∙◌, ap, subst, arith, inl, inr}
use Rattle.fs_laws.proofs.Common.{and_parts, and_from, or_cases, eqb-true, or_left, or_right, list_any, range_with_len, is_live, primary_blocks, holds, level_le, greatest, level_from, Fits, attained_from, is_granted, IsValid, State, answer, Shown, PlaceKind, Request}
use Rattle.std.specs.Prelude.{map}
use Rattle.tsd_model.specs.Needs.{needs, is_steady}
use Rattle.tsd_model.specs.History.{is_of_session, is_end_of, is_set_cap_of, attains_at, gives_grant, keeps_grant}
use Rattle.tsd_model.specs.declared.needs.Need.{Need}
use Rattle.tsd_model.specs.declared.requests.Level.{Level}
use Rattle.tsd_model.specs.declared.requests.Level.TheVariants as level
use Rattle.tsd_model.specs.declared.requests.Request.TheVariants as ask
use Rattle.disk_laws.proofs.HeldLaws.{le_greater}
use Rattle.disk_laws.proofs.AttainedLaws.{attained_where}
use Rattle.disk_laws.proofs.GrantLaws.{answer_level}
use Rattle.disk_laws.proofs.RunLaws.{run_geometry}
use Rattle.fs_laws.specs.Ways.{HoldsWrite, attains_write, writes_through}

pub ways_lead_on : (st : State) (s a b : ℕ) (shown : Shown) → st.world.geometry.primaries ≤ b → holds st.world.pairs a b ≡ true → HoldsWrite st s a → attains_write st s b shown ≡ true
ways_lead_on st s a b shown above pair held = (attained_where st.world st.sessions s b shown level.Write refl).1 (inr (above, (a, held.0, pair, held.1, held.2)))

-- the greatest is that from some primary block
from_some : (ls : List Level) → level_le level.Write (greatest ls) ≡ true → list_any (level_le level.Write) ls ≡ true
from_some [] h = absurd (cc)
from_some (x ∷ ls) h = elim (or_cases (level_le level.Write (greatest ls)) (level_le level.Write x) (sym (le_greater level.Write x (greatest ls)) ∙ h)) [
  | inl later ↦ or_right (level_le level.Write x) _ (from_some ls later)
  | inr here ↦ or_left (level_le level.Write x) _ here
]

in_range : (p : Level → Bool) (f : ℕ → Level) (i n : ℕ) → list_any p (map f (range_with_len i n)) ≡ true → (o : ℕ) × (o < i + n) × (p (f o) ≡ true)
in_range p f i zero h = absurd (cc)
in_range p f i (suc n) h = elim (or_cases (p (f i)) (list_any p (map f (range_with_len (i + 1) n))) h) [
  | inl here ↦ (i, omega arith, here)
  | inr later ↦ let found = in_range p f (i + 1) n later in (found.0, omega arith, found.2)
]

steady : (q : Request) (s o : ℕ) → is_steady q ≡ true → (is_end_of q s || is_set_cap_of q o) ≡ false
steady (ask.Begin n) s o h = absurd (cc)
steady (ask.End n) s o h = absurd (cc)
steady (ask.SetCap n b shown caps) s o h = absurd (cc)
steady q s o h = refl

kept : (live g e : Bool) → live ≡ true → e ≡ false → (live && not (g && e)) ≡ true
kept true true e l h = ap not h
kept true false e l h = refl
kept false g e l h = absurd (cc)

-- what is given or held from a primary block is held afterwards
held_after : (kind : PlaceKind) (st : State) (q : Request) (want : Bool) (s a o : ℕ) → IsValid st.world → Fits st.world st.sessions → o < st.world.geometry.primaries → is_steady q ≡ true → is_live (answer kind st q want).state.world a ≡ true
    → (gives_grant st q s o a level.Write || level_le level.Write (level_from st.sessions s o a)) ≡ true → HoldsWrite (answer kind st q want).state s a
held_after kind st q want s a o valid fits below calm live h = (
  o,
  subst (λ g. o < g.primaries) (sym (run_geometry kind st (want ∷ []) (q ∷ []))) below,
  answer_level st.world st.sessions valid fits s o a level.Write below refl kind q want
      ∙ and_from (keeps_grant st (answer kind st q want).state q s o a) _
      (kept (is_live (answer kind st q want).state.world a) (is_granted st.world st.sessions q) (is_end_of q s || is_set_cap_of q o) live (steady q s o calm)) h,
)

pub ways_stay : (kind : PlaceKind) (st : State) (q : Request) (want : Bool) (s a : ℕ) → IsValid st.world → Fits st.world st.sessions → HoldsWrite st s a → is_steady q ≡ true → is_live (answer kind st q want).state.world a ≡ true → HoldsWrite (answer kind st q want).state s a
ways_stay kind st q want s a valid fits held calm live = held_after kind st q want s a held.0 valid fits held.1 calm live (or_right (gives_grant st q s held.0 a level.Write) _ held.2)

-- a need there at which write is attained, from some primary block
through : (st : State) (s a : ℕ) (ns : List Need) → list_any (λ n. (n.block == a) && attains_write st s a n.shown) ns ≡ true → (o : ℕ) × (o < st.world.geometry.primaries) × (list_any (attains_at st s o a level.Write) ns ≡ true)
through st s a [] h = absurd (cc)
through st s a (n ∷ ns) h = elim (or_cases ((n.block == a) && attains_write st s a n.shown) (list_any (λ m. (m.block == a) && attains_write st s a m.shown) ns) h) [
  | inl here ↦
      let parts = and_parts (n.block == a) (attains_write st s a n.shown) here in
      let found = in_range (level_le level.Write) (attained_from st.world st.sessions s a n.shown) 0 st.world.geometry.primaries (from_some (map (attained_from st.world st.sessions s a n.shown) (primary_blocks st.world)) parts.1) in
      (found.0, omega (arith, found.1), or_left (attains_at st s found.0 a level.Write n) _ (and_from (n.block == a) _ parts.0 (ap (λ b. level_le level.Write (attained_from st.world st.sessions s b n.shown found.0)) (eqb-true n.block a parts.0) ∙ found.2)))
  | inr later ↦ let found = through st s a ns later in (found.0, found.1, or_right (attains_at st s found.0 a level.Write n) _ found.2)
]

pub ways_are_gained : (kind : PlaceKind) (st : State) (q : Request) (want : Bool) (s a : ℕ) → IsValid st.world → Fits st.world st.sessions → is_granted st.world st.sessions q ≡ true → is_of_session q s ≡ true → writes_through st q s a ≡ true → is_steady q ≡ true → is_live (answer kind st q want).state.world a ≡ true → HoldsWrite (answer kind st q want).state s a
ways_are_gained kind st q want s a valid fits granted own through_a calm live =
    let found = through st s a (needs q) through_a in
    held_after kind st q want s a found.0 valid fits found.1 calm live
    (or_left (gives_grant st q s found.0 a level.Write) _ (and_from (is_granted st.world st.sessions q && is_of_session q s) _ (and_from (is_granted st.world st.sessions q) _ granted own) found.2))
