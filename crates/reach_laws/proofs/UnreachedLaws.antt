-- What no session could reach stays as it is, and no reply depends on its bytes.
use Rattle.std.proofs.Common.{◌≡◌, ℕ, zero, suc, ◌+◌, ◌<◌, ◌≤◌, Bool, true, false, not, ◌&&◌, ◌==◌, nat_lt, nat_le, List, [], ◌∷◌, length, refl, sym, ◌∙◌, ap, subst, inl, inr, arith, Option, None, drop}
use Rattle.reach_laws.proofs.Common.{and_parts, or_cases, or_right, nat_tests, All-head, All-tail, All, slice_get, IsTrue, list_any, list_all, and_false, holds, kept_of, World, is_live, all_blocks, primary_blocks, has_number, reach, reach_rounds, level_le, level_from, Fits, no_sessions, record_level, shown_level, needs, IsValid, is_granted, State, answer, after, at_rest, replies, wants_now, is_set_cap_of, Cap, Shown, Nothing, Key, Need, Record, PlaceKind, Request, writes_to, has_source, leads, found_any, reached_is_live, no_sessions_fit, is_bare, answer_valid, answer_fits, answer_geometry, AlikeBut, is_known, shows_known, is_of, reads_hidden, still_hidden, acts_with_write, moves_pointers, IsShutOff, keeps_to, LeavesShut, region_left, IsOutOfReach, BlockIsAsItWas}
use Rattle.tsd_model.specs.declared.geometry.Geometry.{Geometry}
use Rattle.tsd_model.specs.declared.requests.Level.TheVariants as level
use Rattle.tsd_model.specs.declared.requests.Request.TheVariants as ask
use Rattle.disk_laws.proofs.GraphLaws.{has_number-filter, has_number-range}
use Rattle.reach_laws.proofs.ConfidentialityLaws.{replies_hide_bytes, hidden_bytes_stay_hidden}
use Rattle.reach_laws.proofs.ConfinementLaws.{closed_holds_nothing, none_is_open_at_rest}
use Rattle.reach_laws.proofs.IntegrityLaws.{bytes_have_a_writer, pointers_have_a_writer, records_have_a_writer}
use Rattle.reach_laws.proofs.RegionLaws.{never_writes, never_reads, stays_shut}
use Rattle.tsd_model.proofs.ValueLaws.{clash}

-- all sessions
abbrev all : ℕ → Bool
all n = true

-- a request of none needs nothing
none_acts : (b : ℕ) (st : State) (q : Request) → is_of all q ≡ false → acts_with_write b st q ≡ false
none_acts b st ask.Bad h = and_false (is_granted st.world st.sessions ask.Bad)
none_acts b st ask.GetFree h = and_false (is_granted st.world st.sessions ask.GetFree)
none_acts b st q h = absurd (cc)

none_leaves : (known : Cap → Bool) (region : ℕ → Bool) (w : World) (q : Request) → is_of all q ≡ false → LeavesShut known region w q
none_leaves known region w ask.Bad h = tt
none_leaves known region w ask.GetFree h = tt
none_leaves known region w q h = absurd (cc)

-- ---- the capabilities that attain nothing in the region

abbrev is_harmless : World → (ℕ → Bool) → Cap → ℕ → Bool
is_harmless w region c o = not (region o && level_le level.Read (shown_level w o (Key c)))

abbrev known_by : World → (ℕ → Bool) → Cap → Bool
known_by w region c = list_all (is_harmless w region c) (primary_blocks w)

all_number : (p : ℕ → Bool) (xs : List ℕ) (b : ℕ) → list_all p xs ≡ true → has_number xs b ≡ true → p b ≡ true
all_number p [] b h k = absurd (cc)
all_number p (x ∷ xs) b h k =
    let parts = and_parts (p x) (list_all p xs) h in
    elim (or_cases (x == b) (has_number xs b) k) [
      | inl here ↦ subst (λ i. p i ≡ true) (same here) parts.0
      | inr behind ↦ all_number p xs b parts.1 behind
    ]
  where
    same : (x == b) ≡ true → x ≡ b
    same e = grind (arith, nat_tests)

no_record : (w : World) → IsValid w → (o : ℕ) (c : Cap) → w.geometry.primaries ≤ o → shown_level w o (Key c) ≡ level.Bare
no_record w valid o c past = ap (λ r. record_level r (kept_of w.version c)) (past_none w.records o (omega (arith, past, valid.raw.each_record)))
  where
    past_none : (rs : List Record) (i : ℕ) → length rs ≤ i → ◌≡◌ {A = Option Record} (slice_get rs i) None
    past_none [] i h = refl
    past_none (r ∷ rs) zero h = absurd (omega arith)
    past_none (r ∷ rs) (suc i) h = past_none rs i (omega arith)

known_is_bare : (w : World) → IsValid w → (region : ℕ → Bool) (o : ℕ) (c : Cap) → region o ≡ true → known_by w region c ≡ true → shown_level w o (Key c) ≡ level.Bare
known_is_bare w valid region o c here known = elim (nat_lt o w.geometry.primaries) as (λ t. nat_lt o w.geometry.primaries ≡ t → shown_level w o (Key c) ≡ level.Bare) [
  | true ↦ λ e. is_bare (shown_level w o (Key c))
      (right (region o) (level_le level.Read (shown_level w o (Key c))) here
      (all_number (is_harmless w region c) (primary_blocks w) o known (has_number-range 0 w.geometry.primaries o ∙ within e)))
  | false ↦ λ e. no_record w valid o c (past e)
] refl
  where
    right : (t u : Bool) → t ≡ true → not (t && u) ≡ true → u ≡ false
    right true true e h = absurd (cc)
    right true false e h = refl
    right false u e h = absurd (cc)

    within : nat_lt o w.geometry.primaries ≡ true → (nat_le 0 o && nat_lt o (0 + w.geometry.primaries)) ≡ true
    within e = grind (arith, nat_tests)

    past : nat_lt o w.geometry.primaries ≡ false → w.geometry.primaries ≤ o
    past e = grind (arith, nat_tests)

-- what attains nothing in the region is known
bare_is_known : (w : World) (region : ℕ → Bool) (c : Cap) → ((o : ℕ) → region o ≡ true → shown_level w o (Key c) ≡ level.Bare) → (os : List ℕ) → list_all (is_harmless w region c) os ≡ true
bare_is_known w region c bare [] = refl
bare_is_known w region c bare (o ∷ os) = elim (region o) as (λ t. region o ≡ t → (not (t && level_le level.Read (shown_level w o (Key c))) && list_all (is_harmless w region c) os) ≡ true) [
  | true ↦ λ e. ap (λ l. not (level_le level.Read l) && list_all (is_harmless w region c) os) (bare o e) ∙ bare_is_known w region c bare os
  | false ↦ λ e. bare_is_known w region c bare os
] refl

shown_is_known : (w : World) (region : ℕ → Bool) (shown : Shown) → ((o : ℕ) → region o ≡ true → shown_level w o shown ≡ level.Bare) → is_known (known_by w region) shown ≡ true
shown_is_known w region Nothing bare = refl
shown_is_known w region (Key c) bare = bare_is_known w region c bare (primary_blocks w)

needs_are_known : (w : World) (region : ℕ → Bool) (ns : List Need) → ((o : ℕ) → region o ≡ true → All (λ (n : Need). shown_level w o n.shown ≡ level.Bare) ns) → list_all (λ (n : Need). is_known (known_by w region) n.shown) ns ≡ true
needs_are_known w region [] bare = refl
needs_are_known w region (n ∷ ns) bare =
    ap (λ t. t && list_all (λ (m : Need). is_known (known_by w region) m.shown) ns) (shown_is_known w region n.shown (λ o h. All-head (λ (m : Need). shown_level w o m.shown ≡ level.Bare) n ns (bare o h)))
    ∙ needs_are_known w region ns (λ o h. All-tail (λ (m : Need). shown_level w o m.shown ≡ level.Bare) n ns (bare o h))

keeps_known : (w : World) (region : ℕ → Bool) (q : Request) → ((o : ℕ) → region o ≡ true → All (λ (n : Need). shown_level w o n.shown ≡ level.Bare) (needs q)) → keeps_to (known_by w region) all q ≡ true
keeps_known w region q bare = or_right (not (is_of all q)) (shows_known (known_by w region) q) (needs_are_known w region (needs q) bare)

-- ---- one request

-- The region at some moment of the run: shut off, and as it was.
record IsKept (w : World) (region : ℕ → Bool) (st : State) : Type 0 where
  valid : IsValid st.world
  fits : Fits st.world st.sessions
  geometry : st.world.geometry ≡ w.geometry
  shut : IsShutOff (known_by w region) region all st
  same : (b : ℕ) → region b ≡ true → BlockIsAsItWas w st.world b

module _ (kind : PlaceKind) (w : World) (region : ℕ → Bool) (reached : (b : ℕ) → region b ≡ true → has_number (reach w) b ≡ true) (pointers : (a b : ℕ) → holds w.pairs a b ≡ true → region b ≡ true → region a ≡ true)
    (s : State) (kept : IsKept w region s) (q : Request) (want : Bool) (keeps : keeps_to (known_by w region) all q ≡ true) where
  abbrev next : State
  next = (answer kind s q want).state

  none_writes : (b : ℕ) → region b ≡ true → acts_with_write b s q ≡ false
  none_writes b here = elim (acts_with_write b s q) as (λ t. acts_with_write b s q ≡ t → t ≡ false) [
    | true ↦ λ e. elim (is_of all q) as (λ t. is_of all q ≡ t → true ≡ false) [
      | true ↦ λ own. absurd (never_writes (known_by w region) region all s kept.shut q b own keeps here e)
      | false ↦ λ none. sym e ∙ none_acts b s q none
    ] refl
    | false ↦ λ _. refl
  ] refl

  none_moves : (a : ℕ) → region a ≡ true → moves_pointers a s q ≡ false
  none_moves a here = ap (λ t. has_source q a && t) (none_writes a here) ∙ and_false (has_source q a)

  valid_next : IsValid next.world
  valid_next = answer_valid kind s q want kept.valid

  -- a pointer out of the region's live block is still there
  still_held : (a b : ℕ) → region a ≡ true → is_live next.world a ≡ true → holds next.world.pairs a b ≡ holds w.pairs a b
  still_held a b here live = pointers_have_a_writer kind s q want a b (kept.shut.live a here) live (none_moves a here) ∙ (kept.same a here).out b

  -- so each block that is reached in it is live
  lives_on : (r b : ℕ) → has_number (reach_rounds w (primary_blocks w) r) b ≡ true → region b ≡ true → is_live next.world b ≡ true
  lives_on zero b h here = valid_next.raw.primaries b (subst (λ (g : Geometry). b < g.primaries) (sym (answer_geometry kind s q want ∙ kept.geometry)) (below (sym (has_number-range 0 w.geometry.primaries b) ∙ h)))
    where
      below : (nat_le 0 b && nat_lt b (0 + w.geometry.primaries)) ≡ true → b < w.geometry.primaries
      below g = grind (arith, nat_tests)
  lives_on (suc r) b h here =
      let xs = reach_rounds w (primary_blocks w) r in
      let passes = (and_parts (has_number (all_blocks w) b) (leads w xs b) (sym (has_number-filter (leads w xs) (all_blocks w) b) ∙ h)).1 in
      elim (or_cases (has_number xs b) (list_any (λ e. (e.1 == b) && has_number xs e.0) w.pairs) passes) [
        | inl old ↦ lives_on r b old here
        | inr new ↦
            let from = found_any xs b w.pairs new in
            let inside = pointers from.0 b from.1 here in
            valid_next.raw.targets from.0 b (still_held from.0 b inside (lives_on r from.0 from.2 inside) ∙ from.1)
      ]

  lives : (b : ℕ) → region b ≡ true → is_live next.world b ≡ true
  lives b here = lives_on w.geometry.blocks b (reached b here) here

  left_is : (b : ℕ) → region b ≡ true → region_left region next b ≡ true
  left_is b here = ap (λ t. t && is_live next.world b) here ∙ lives b here

  shut_next : IsShutOff (known_by w region) region all next
  shut_next =
      let shut = stays_shut kind (known_by w region) region all s kept.valid kept.fits kept.shut q want keeps (λ none granted. none_leaves (known_by w region) region s.world q none) in
      record {
        live = lives;
        pointers = λ a b h here. (and_parts (region a) (is_live next.world a) (shut.pointers a b h (left_is b here))).0;
        held = λ n o b own below here. shut.held n o b own below (left_is b here);
        shown = λ o c here k. shut.shown o c (left_is o here) k;
      }

  same_next : (b : ℕ) → region b ≡ true → BlockIsAsItWas w next.world b
  same_next b here = record {
    bytes = bytes_have_a_writer kind s q want b (kept.shut.live b here) (lives b here) (ap (λ t. writes_to q b && t) (none_writes b here) ∙ and_false (writes_to q b)) ∙ (kept.same b here).bytes;
    caps = records_have_a_writer kind s q want b (ap (λ t. is_set_cap_of q b && t) (none_writes b here) ∙ and_false (is_set_cap_of q b)) ∙ (kept.same b here).caps;
    out = λ c. still_held b c here (lives b here);
    into = λ a. elim (region a) as (λ t. region a ≡ t → holds next.world.pairs a b ≡ holds w.pairs a b) [
      | true ↦ λ inside. still_held a b inside (lives a inside)
      | false ↦ λ outside. both_false (holds next.world.pairs a b) (holds w.pairs a b) (region a) (λ h. shut_next.pointers a b h here) (λ h. pointers a b h here) outside
    ] refl;
  }
    where
      both_false : (x y t : Bool) → (x ≡ true → t ≡ true) → (y ≡ true → t ≡ true) → t ≡ false → x ≡ y
      both_false true true t f g e = refl
      both_false false false t f g e = refl
      both_false true false t f g e = absurd (clash t (f refl) e)
      both_false false true t f g e = absurd (clash t (g refl) e)

  kept_next : IsKept w region next
  kept_next = record {
    valid = valid_next;
    fits = answer_fits kind s q want kept.valid kept.fits;
    geometry = answer_geometry kind s q want ∙ kept.geometry;
    shut = shut_next;
    same = same_next;
  }

-- ---- a list

module _ (kind : PlaceKind) (w : World) (region : ℕ → Bool) (reached : (b : ℕ) → region b ≡ true → has_number (reach w) b ≡ true) (pointers : (a b : ℕ) → holds w.pairs a b ≡ true → region b ≡ true → region a ≡ true) where
  abbrev Harmless : List Request → Type 0
  Harmless qs = (o : ℕ) → region o ≡ true → All (λ q. All (λ (n : Need). shown_level w o n.shown ≡ level.Bare) (needs q)) qs

  harmless_first : (q : Request) (qs : List Request) → Harmless (q ∷ qs) → keeps_to (known_by w region) all q ≡ true
  harmless_first q qs h = keeps_known w region q (λ o here. All-head (λ p. All (λ (n : Need). shown_level w o n.shown ≡ level.Bare) (needs p)) q qs (h o here))

  harmless_rest : (q : Request) (qs : List Request) → Harmless (q ∷ qs) → Harmless qs
  harmless_rest q qs h o here = All-tail (λ p. All (λ (n : Need). shown_level w o n.shown ≡ level.Bare) (needs p)) q qs (h o here)

  run_kept : (s : State) → IsKept w region s → (wants : List Bool) (qs : List Request) → Harmless qs → IsKept w region (after kind s wants qs)
  run_kept s kept wants [] h = kept
  run_kept s kept wants (q ∷ qs) h =
      run_kept (answer kind s q (wants_now wants)).state (kept_next kind w region reached pointers s kept q (wants_now wants) (harmless_first q qs h)) (drop 1 wants) qs (harmless_rest q qs h)

  -- no request reads what is hidden in the region
  none_reads : (s : State) → IsKept w region s → (hidden : ℕ → Bool) → ((b : ℕ) → hidden b ≡ true → region b ≡ true) → (q : Request) → keeps_to (known_by w region) all q ≡ true → reads_hidden hidden s q ≡ false
  none_reads s kept hidden inside (ask.Read n b shown) keeps = elim (reads_hidden hidden s (ask.Read n b shown)) as (λ t. reads_hidden hidden s (ask.Read n b shown) ≡ t → t ≡ false) [
    | true ↦ λ e. absurd (never_reads (known_by w region) region all s kept.shut hidden inside (ask.Read n b shown) refl keeps e)
    | false ↦ λ _. refl
  ] refl
  none_reads s kept hidden inside q keeps = refl

  run_hidden : (s : State) → IsKept w region s → (hidden : ℕ → Bool) → ((b : ℕ) → hidden b ≡ true → region b ≡ true) → (t : State) → AlikeBut hidden s t → (wants : List Bool) (qs : List Request) → Harmless qs
      → replies kind t wants qs ≡ replies kind s wants qs
  run_hidden s kept hidden inside t alike wants [] h = refl
  run_hidden s kept hidden inside t alike wants (q ∷ qs) h =
      let want = wants_now wants in
      let now = (answer kind s q want).state in
      let then = (answer kind t q want).state in
      let keeps = harmless_first q qs h in
      let reply = replies_hide_bytes kind hidden s t q want alike (none_reads s kept hidden inside q keeps) in
      let rest = run_hidden now (kept_next kind w region reached pointers s kept q want keeps) (still_hidden hidden s q now)
      (λ b g. inside b (and_parts (hidden b) (is_live s.world b && is_live now.world b) (and_parts (hidden b && (is_live s.world b && is_live now.world b)) (not (is_granted s.world s.sessions q && writes_to q b)) g).0).0)
      then (hidden_bytes_stay_hidden kind hidden s t q want alike) (drop 1 wants) qs (harmless_rest q qs h) in
      ap (λ r. r ∷ replies kind then (drop 1 wants) qs) reply ∙ ap (λ rs. (answer kind s q want).reply ∷ rs) rest

-- ---- from rest

kept_at_rest : (w : World) → IsValid w → (qs : List Request) (region : ℕ → Bool) → IsOutOfReach w qs region → IsKept w region (at_rest w)
kept_at_rest w valid qs region out = record {
  valid = valid;
  fits = no_sessions_fit w;
  geometry = refl;
  shut = record {
    live = λ b here. reached_is_live w b valid (out.reached b here);
    pointers = out.pointers;
    held = λ n o b own below here. is_bare (level_from no_sessions n o b) (closed_holds_nothing level.Read (at_rest w) n o none (none_is_open_at_rest w n) b);
    shown = λ o c here known. known_is_bare w valid region o c here known;
  };
  same = λ b here. record { bytes = refl; caps = refl; out = λ c. refl; into = λ a. refl };
}
  where
    none : level.Read ≡ level.Bare → ⊥
    none e = cc

pub unreached_stays : (kind : PlaceKind) (w : World) (wants : List Bool) (qs : List Request) → IsValid w → (region : ℕ → Bool) → IsOutOfReach w qs region → (b : ℕ) → IsTrue (region b) → BlockIsAsItWas w (after kind (at_rest w) wants qs).world b
unreached_stays kind w wants qs valid region out b here = (run_kept kind w region out.reached out.pointers (at_rest w) (kept_at_rest w valid qs region out) wants qs out.shown).same b here

pub unreached_is_hidden : (kind : PlaceKind) (w : World) (wants : List Bool) (qs : List Request) → IsValid w → (region : ℕ → Bool) → IsOutOfReach w qs region → (u : World) → AlikeBut region (at_rest w) (at_rest u)
    → replies kind (at_rest u) wants qs ≡ replies kind (at_rest w) wants qs
unreached_is_hidden kind w wants qs valid region out u alike =
    run_hidden kind w region out.reached out.pointers (at_rest w) (kept_at_rest w valid qs region out) region (λ b h. h) (at_rest u) alike wants qs out.shown
