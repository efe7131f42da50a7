-- What a run changed has a writer, who had the access for it.
use Rattle.std.proofs.Common.{◌≡◌, ℕ, ◌⊎◌, Bool, true, false, ◌&&◌, ◌==◌, List, [], ◌∷◌, ◌++◌, refl, ap, subst, inl, inr, Option, Some, None, drop}
use Rattle.reach_laws.proofs.Common.{and_parts, or_cases, All-nil, All-cons, All, slice_get, is_none, unwrap_or, IsTrue, list_any, list_all, holds, World, contents, is_live, level_le, attained, session_of, needs, IsValid, is_granted, verdict, State, answer, after, at_rest, wants_now, is_set_cap_of, Need, PlaceKind, Request, Rule, writes_to, has_source, is_create_of, is_removal, attained_by_history, granted_needs_met, met_everywhere, at_some_request, attains_write, acts_with_write, writes_bytes, sets_record, moves_pointers, gives_pointer, removes_blocks, AttainsWrite, HasWriter, StaysLive}
use Rattle.tsd_model.specs.declared.requests.Level.TheVariants as level
use Rattle.tsd_model.specs.declared.requests.Request.TheVariants as ask
use Rattle.reach_laws.proofs.IntegrityLaws.{run_bytes_have_a_writer, run_pointers_have_a_writer, run_records_have_a_writer, run_new_pointers_have_a_giver, run_blocks_have_a_remover}

-- ---- the request of a run that passes a test

record Found (test : State → Request → Bool) (kind : PlaceKind) (s : State) (wants : List Bool) (qs : List Request) : Type 0 where
  earlier : List Request
  request : Request
  later : List Request
  parts : qs ≡ earlier ++ request ∷ later
  passes : test (after kind s wants earlier) request ≡ true

find_one : (test : State → Request → Bool) (kind : PlaceKind) (s : State) (wants : List Bool) (qs : List Request) → at_some_request test kind s wants qs ≡ true → Found test kind s wants qs
find_one test kind s wants [] h = absurd (cc)
find_one test kind s wants (q ∷ qs) h =
    let next = (answer kind s q (wants_now wants)).state in
    elim (or_cases (test s q) (at_some_request test kind next (drop 1 wants) qs) h) [
      | inl here ↦ record { earlier = []; request = q; later = qs; parts = refl; passes = here }
      | inr behind ↦
          let found = find_one test kind next (drop 1 wants) qs behind in
          record { earlier = q ∷ found.earlier; request = found.request; later = found.later; parts = ap (λ l. q ∷ l) found.parts; passes = found.passes }
    ]

-- ---- requests that need write wherever they need a level

record NeedsWrite (q : Request) : Type 0 where
  session : ℕ
  own : ◌≡◌ {A = Option ℕ} (session_of q) (Some session)
  each : list_all (λ (n : Need). level_le level.Write n.level) (needs q) ≡ true

write_needs : (b : ℕ) (q : Request) → writes_to q b ≡ true → NeedsWrite q
write_needs b (ask.Write s x shown bytes) h = record { session = s; own = refl; each = refl }
write_needs b q h = absurd (cc)

source_needs : (a : ℕ) (q : Request) → has_source q a ≡ true → NeedsWrite q
source_needs a (ask.Alloc s x shown hint count) h = record { session = s; own = refl; each = refl }
source_needs a (ask.Contig s x shown hint count) h = record { session = s; own = refl; each = refl }
source_needs a (ask.Create s x shown y) h = record { session = s; own = refl; each = refl }
source_needs a (ask.Delete s x shown y) h = record { session = s; own = refl; each = refl }
source_needs a q h = absurd (cc)

create_needs : (a b : ℕ) (q : Request) → is_create_of q a b ≡ true → NeedsWrite q
create_needs a b (ask.Create s x shown y) h = record { session = s; own = refl; each = refl }
create_needs a b q h = absurd (cc)

set_needs : (o : ℕ) (q : Request) → is_set_cap_of q o ≡ true → NeedsWrite q
set_needs o (ask.SetCap s x shown caps) h = record { session = s; own = refl; each = refl }
set_needs o q h = absurd (cc)

removal_needs : (q : Request) → is_removal q ≡ true → NeedsWrite q
removal_needs (ask.Delete s x shown y) h = record { session = s; own = refl; each = refl }
removal_needs (ask.Sweep s shown) h = record { session = s; own = refl; each = refl }
removal_needs q h = absurd (cc)

-- ---- the writer

no_rule : (x : Option Rule) → is_none x ≡ true → ◌≡◌ {A = Option Rule} x None
no_rule None h = refl
no_rule (Some r) h = absurd (cc)

some_level : level.Write ≡ level.Bare → ⊥
some_level e = cc

all_from : (p : Need → Bool) (P : Need → Type 0) → ((n : Need) → p n ≡ true → P n) → (ns : List Need) → list_all p ns ≡ true → All P ns
all_from p P each [] h = All-nil P
all_from p P each (n ∷ ns) h = let parts = and_parts (p n) (list_all p ns) h in All-cons P n ns (each n parts.0) (all_from p P each ns parts.1)

module _ (kind : PlaceKind) (w : World) (wants : List Bool) (valid : IsValid w) where
  may_write : (qs : List Request) (q : Request) → is_granted (after kind (at_rest w) wants qs).world (after kind (at_rest w) wants qs).sessions q ≡ true → (n : NeedsWrite q)
      → All (λ (m : Need). AttainsWrite kind w wants qs n.session m.block m.shown) (needs q)
  may_write qs q granted n =
      let st = after kind (at_rest w) wants qs in
      let met = granted_needs_met st.world st.sessions q (no_rule (verdict st.world st.sessions q) granted) in
      let write = met_everywhere st.world st.sessions (unwrap_or (session_of q) 0) level.Write (needs q) met n.each in
      all_from (λ (m : Need). level_le level.Write (attained st.world st.sessions n.session m.block m.shown)) (λ (m : Need). AttainsWrite kind w wants qs n.session m.block m.shown)
      (λ m h. (attained_by_history kind w wants qs n.session m.block m.shown level.Write valid some_level).0 h)
      (needs q)
      (subst (λ (s : Option ℕ). list_all (λ (m : Need). level_le level.Write (attained st.world st.sessions (unwrap_or s 0) m.block m.shown)) (needs q) ≡ true) n.own write)

  writer : (test : Request → Bool) → ((q : Request) → test q ≡ true → NeedsWrite q) → (some : State → Request → Bool) → ((st : State) (q : Request) → some st q ≡ true → (test q ≡ true) × (is_granted st.world st.sessions q ≡ true))
      → (qs : List Request) → at_some_request some kind (at_rest w) wants qs ≡ true → HasWriter test kind w wants qs
  writer test writes some is qs h =
      let found = find_one some kind (at_rest w) wants qs h in
      let q = found.request in
      let passes = is (after kind (at_rest w) wants found.earlier) q found.passes in
      let n = writes q passes.0 in
      record {
        earlier = found.earlier;
        request = q;
        later = found.later;
        parts = found.parts;
        passes = passes.0;
        granted = passes.1;
        session = n.session;
        own = n.own;
        may = may_write found.earlier q passes.1 n;
      }

-- ---- who changed what

acts_granted : (b : ℕ) (st : State) (q : Request) → acts_with_write b st q ≡ true → is_granted st.world st.sessions q ≡ true
acts_granted b st q h = (and_parts (is_granted st.world st.sessions q) (list_any (λ (n : Need). (n.block == b) && attains_write st q n) (needs q)) h).0

-- either no request did it, or one that passes the test
same_or : (X Y : Type 0) (t : Bool) → (t ≡ false → X) → (t ≡ true → Y) → X ⊎ Y
same_or X Y true left right = inr (right refl)
same_or X Y false left right = inl (left refl)

module _ (kind : PlaceKind) (w : World) (wants : List Bool) (qs : List Request) (valid : IsValid w) where
  pub bytes_by_access : (b : ℕ) → StaysLive kind w wants qs b → (contents (after kind (at_rest w) wants qs).world b ≡ contents w b) ⊎ HasWriter (λ q. writes_to q b) kind w wants qs
  bytes_by_access b live = same_or _ _ (at_some_request (writes_bytes b) kind (at_rest w) wants qs) (run_bytes_have_a_writer kind (at_rest w) wants qs b live)
      (writer kind w wants valid (λ q. writes_to q b) (write_needs b) (writes_bytes b) (λ st q h. let parts = and_parts (writes_to q b) (acts_with_write b st q) h in (parts.0, acts_granted b st q parts.1)) qs)

  pub pointers_by_access : (a b : ℕ) → StaysLive kind w wants qs a → (holds (after kind (at_rest w) wants qs).world.pairs a b ≡ holds w.pairs a b) ⊎ HasWriter (λ q. has_source q a) kind w wants qs
  pointers_by_access a b live = same_or _ _ (at_some_request (moves_pointers a) kind (at_rest w) wants qs) (run_pointers_have_a_writer kind (at_rest w) wants qs a b live)
      (writer kind w wants valid (λ q. has_source q a) (source_needs a) (moves_pointers a) (λ st q h. let parts = and_parts (has_source q a) (acts_with_write a st q) h in (parts.0, acts_granted a st q parts.1)) qs)

  pub new_pointers_by_access : (a b : ℕ) → StaysLive kind w wants qs b → IsTrue (holds (after kind (at_rest w) wants qs).world.pairs a b) → IsTrue (holds w.pairs a b) ⊎ HasWriter (λ q. is_create_of q a b) kind w wants qs
  new_pointers_by_access a b live held = same_or _ _ (at_some_request (gives_pointer a b) kind (at_rest w) wants qs) (λ none. run_new_pointers_have_a_giver kind (at_rest w) wants qs a b live none held)
      (writer kind w wants valid (λ q. is_create_of q a b) (create_needs a b) (gives_pointer a b)
      (λ st q h. let parts = and_parts (is_create_of q a b) (acts_with_write a st q && acts_with_write b st q) h in (parts.0, acts_granted a st q (and_parts (acts_with_write a st q) (acts_with_write b st q) parts.1).0)) qs)

  pub caps_by_access : (o : ℕ) → (slice_get (after kind (at_rest w) wants qs).world.records o ≡ slice_get w.records o) ⊎ HasWriter (λ q. is_set_cap_of q o) kind w wants qs
  caps_by_access o = same_or _ _ (at_some_request (sets_record o) kind (at_rest w) wants qs) (run_records_have_a_writer kind (at_rest w) wants qs o)
      (writer kind w wants valid (λ q. is_set_cap_of q o) (set_needs o) (sets_record o) (λ st q h. let parts = and_parts (is_set_cap_of q o) (acts_with_write o st q) h in (parts.0, acts_granted o st q parts.1)) qs)

  pub blocks_by_access : (b : ℕ) → IsTrue (is_live w b) → StaysLive kind w wants qs b ⊎ HasWriter is_removal kind w wants qs
  blocks_by_access b live = same_or _ _ (at_some_request removes_blocks kind (at_rest w) wants qs) (run_blocks_have_a_remover kind (at_rest w) wants qs b live)
      (writer kind w wants valid is_removal removal_needs removes_blocks
      (λ st q h. let parts = and_parts (is_removal q) (is_granted st.world st.sessions q && list_all (attains_write st q) (needs q)) h in (parts.0, (and_parts (is_granted st.world st.sessions q) (list_all (attains_write st q) (needs q)) parts.1).0)) qs)
