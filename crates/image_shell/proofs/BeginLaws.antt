-- A session begun on a core, beside those that are open.
use Rattle.std.proofs.Common.{◌≡◌, ◌≢◌, ◌≤◌, ◌⊎◌, inl, inr, ℕ, Bool, true, false, List, length, [], ◌∷◌, refl, sym, ◌∙◌, ap, subst, Option, Some, None, Ok, Err, is_some, option_map}
use Rattle.std.proofs.lemmas.Bool.{cases_eq}
use Rattle.std.proofs.lemmas.List.{length-map}
use Rattle.image_shell.proofs.Common.{AreLike, Core, CountsFaultOf, Fits, Held, Image, IsAnswer, IsAtStart, IsCoreAt, IsCoreReady, IsOneMore, IsSessionBegun, IsValid, KeepsBehind, LeavesEither, LeavesOnly, Outcome, PlaceKind, Sessions, Stands, StandsForEither, State, Status, View, Works, World, answer, fitted, held_by, is_open, judged, no_sessions, session_begun, sessions_max, sessions_of, starved, state_on, told_state, told_world, weakened, world_of, world_on}
use Rattle.tsd_model.specs.Verdict.{verdict}
use Rattle.tsd_model.specs.declared.replies.Reply.{Reply}
use Rattle.tsd_model.specs.declared.replies.Reply.TheVariants as reply
use Rattle.tsd_model.specs.declared.replies.Rule.{Rule}
use Rattle.tsd_model.specs.declared.requests.Request.TheVariants as ask
use Rattle.tsd_model.proofs.SessionLaws.{held-map, held-with_other, held-with_same, held_keeps, length-with_held, no_held}
use Rattle.disk_laws.proofs.AnswerLaws.{after_answer}
use Rattle.disk_laws.proofs.RunLaws.{run_valid}
use Rattle.tsd_words.specs.declared.status.Status.TheVariants as status
use Rattle.tsd_core.specs.Applying.{IsReplyLike, IsToldAnswer, next_world}

open_mapped : (f : Held → Held) (o : Option Held) → is_some (option_map f o) ≡ is_some o
open_mapped f None = refl
open_mapped f (Some h) = refl

open_fitted : (w : World) (v : Sessions) (n : ℕ) → is_open (fitted w v) n ≡ is_open v n
open_fitted w v n = ap is_some (held-map _ v _) ∙ open_mapped _ (held_by v n)

no_bytes : (x : List ℕ) → reply.Done ≡ reply.Bytes x → ⊥
no_bytes x e = cc

no_refusal : (r : Rule) → reply.Refused r ≡ reply.Done → ⊥
no_refusal r e = cc

no_memory : reply.NoMemory ≡ reply.Done → ⊥
no_memory e = cc

done_like : (r : Reply) → IsReplyLike reply.Done r → r ≡ reply.Done
done_like r (inl e) = sym e
done_like r (inr x) = absurd (no_bytes x.0 x.2)

-- a begin that is answered Done opens the session
module _ (session : ℕ) (low : 1 ≤ session) (high : session ≤ sessions_max) where
  one_more : (w : World) (v : Sessions) → length v ≡ sessions_max → IsOneMore session v (fitted w (session_begun w v session))
  one_more w v all = record {
    this = open_fitted w (session_begun w v session) session ∙ ap is_some (held-with_same v session _ low (subst (λ n. session ≤ n) (sym all) high));
    others = λ n h. open_fitted w (session_begun w v session) n ∙ held_keeps (λ (o : Option Held). is_some o ≡ true) v session n _ refl h;
    only = λ n h. elim (cases_eq n session) [
      | inl same ↦ inl same
      | inr other ↦ inr (sym (ap is_some (held-with_other v session n _ other)) ∙ (sym (open_fitted w (session_begun w v session) n) ∙ h))
    ];
    count = length-map (session_begun w v session) _ ∙ length-with_held v session _;
  }

  module _ (kind : PlaceKind) (s : State) (all : length s.sessions ≡ sessions_max) where
    abbrev by_rule : Option Rule → Bool → Outcome
    by_rule o false = judged kind s (ask.Begin session) o
    by_rule o true = starved s (ask.Begin session) o (judged kind s (ask.Begin session) o)

    opens_by : (o : Option Rule) (want : Bool) → (by_rule o want).reply ≡ reply.Done → IsOneMore session s.sessions (by_rule o want).state.sessions
    opens_by (Some r) false e = absurd (no_refusal r e)
    opens_by (Some r) true e = absurd (no_refusal r e)
    opens_by None true e = absurd (no_memory e)
    opens_by None false e = one_more s.world s.sessions all

    begin_opens : (want : Bool) → (answer kind s (ask.Begin session) want).reply ≡ reply.Done → IsOneMore session s.sessions (answer kind s (ask.Begin session) want).state.sessions
    begin_opens false e = opens_by (verdict s.world s.sessions (ask.Begin session)) false e
    begin_opens true e = opens_by (verdict s.world s.sessions (ask.Begin session)) true e

  begin_world : (kind : PlaceKind) (s : State) (want : Bool) → (answer kind s (ask.Begin session) want).state.world ≡ s.world
  begin_world kind s want = after_answer (λ t. t.world ≡ s.world) kind s (ask.Begin session) want refl (λ _. refl)

  module _ (told : Type 0) (kind : PlaceKind) (c0 c1 : Core) (v w : View) (all : length (sessions_of c0) ≡ sessions_max) (at : told → IsAtStart (world_of v.reads) c0 v)
      (sent : told → w.sent ≡ v.sent) (any : told → LeavesEither v w (next_world kind (state_on c0 v.reads) (ask.Begin session))) (works : Works v w) (aside : KeepsBehind told c0 c1 v w) where
    either_start : (x : Image) → StandsForEither (world_on v) (next_world kind (state_on c0 v.reads) (ask.Begin session)) x → Stands x (world_of v.reads)
    either_start x (inl before) = before
    either_start x (inr next) = subst (λ (u : World). Stands x u) (begin_world kind (state_on c0 v.reads) false) next

    moments : told → LeavesOnly v w (λ x f. Stands x (world_of v.reads) × (f ≡ v.sent))
    moments t = weakened v w (λ x f. StandsForEither (world_on v) (next_world kind (state_on c0 v.reads) (ask.Begin session)) x × (f ≡ v.sent)) (λ x f. Stands x (world_of v.reads) × (f ≡ v.sent)) (any t) (λ x f left. (either_start x left.0, left.1))

    at_next : (t : told) → IsCoreAt c1 w → IsAnswer kind (state_on c0 v.reads) (ask.Begin session) reply.Done (state_on c1 w.reads) → IsAtStart (world_of v.reads) c1 w
    at_next t core given =
        let stay = run_valid kind (state_on c0 v.reads) (given.want ∷ []) (ask.Begin session ∷ []) (at t).valid (at t).fits in
        let world : world_of w.reads ≡ world_of v.reads = ap (λ (s : State). s.world) given.state ∙ begin_world kind (state_on c0 v.reads) given.want in
        record {
          core = core;
          world = world;
          valid = (at t).valid;
          fits = subst (λ (u : World). Fits u (sessions_of c1)) world (subst (λ (s : State). Fits s.world s.sessions) (sym given.state) stay.1);
        }

    pub begun_done : {X : Type 0} (x : X) (r : Reply) → r ≡ reply.Done → IsCoreReady c1 → (told → IsCoreAt c1 w) → (told → IsAnswer kind (state_on c0 v.reads) (ask.Begin session) r (state_on c1 w.reads)) → IsToldAnswer kind c0 (ask.Begin session) r c1
        → w.faults ≡ v.faults → w.writes ≡ v.writes → IsSessionBegun {X = X} told session c0 c1 v w (Ok x)
    begun_done {X = X} x r done ready core given told_first faultless idle =
        let s = told_state c0 in
        let told_given : IsToldAnswer kind c0 (ask.Begin session) reply.Done c1 = subst (λ (o : Reply). IsToldAnswer kind c0 (ask.Begin session) o c1) done told_first in
        let is : (answer kind s (ask.Begin session) told_given.want).reply ≡ reply.Done = done_like _ told_given.reply in
        record {
          ready = ready;
          begun = subst (λ (u : Sessions). IsOneMore session (sessions_of c0) u) (sym told_given.sessions) (begin_opens kind s all told_given.want is);
          like = subst (λ (u : World). AreLike (told_world c1) u) (begin_world kind s told_given.want) told_given.world;
          at = λ t. at_next t (core t) (subst (λ (o : Reply). IsAnswer kind (state_on c0 v.reads) (ask.Begin session) o (state_on c1 w.reads)) done (given t));
          sent = sent;
          any_moment = moments;
          behind = aside;
          stops = tt;
          clock = works.clock;
          put_faults = works.put_faults;
          faults = (λ e. absurd (cc), λ ne. faultless);
          idle = λ ne. idle;
        }

    pub not_begun : {X : Type 0} (why : Status) → (why ≡ status.DeviceFault) ⊎ (why ≡ status.NoMemory) → CountsFaultOf {T = X} status.DeviceFault (Err why) v.faults w.faults → (why ≢ status.DeviceFault → w.writes ≡ v.writes) → IsSessionBegun {X = X} told session c0 c1 v w (Err why)
    not_begun why stops faults idle = record {
      ready = tt;
      begun = tt;
      like = tt;
      at = λ t. tt;
      sent = sent;
      any_moment = moments;
      behind = aside;
      stops = stops;
      clock = works.clock;
      put_faults = works.put_faults;
      faults = faults;
      idle = λ ne. idle (λ e. ne (ap Err e));
    }

-- a core with no session open has room for all
pub all_closed : (c : Core) → c.grants.sessions ≡ no_sessions → length (sessions_of c) ≡ sessions_max
all_closed c none = ap (λ (v : Sessions). length (fitted (told_world c) v)) none

-- and none is open on it
pub none_open : (c : Core) → c.grants.sessions ≡ no_sessions → (n : ℕ) → is_open (sessions_of c) n ≡ true → ⊥
none_open c none n h =
    let closed : is_open (sessions_of c) n ≡ false = open_fitted (told_world c) c.grants.sessions n ∙ (ap (λ (v : Sessions). is_open v n) none ∙ ap is_some (no_held n)) in
    absurd (cc)

-- ---- at the start

pub valid_now : (start : World) (c : Core) (v : View) → IsAtStart start c v → IsValid (world_of v.reads) × Fits (world_of v.reads) (sessions_of c)
valid_now start c v at = (subst IsValid (sym at.world) at.valid, subst (λ (w : World). Fits w (sessions_of c)) (sym at.world) at.fits)

-- the world of the device is that
pub start_now : (start : World) (c : Core) (v : View) → IsAtStart start c v → IsAtStart (world_of v.reads) c v
start_now start c v at = subst (λ (w : World). IsAtStart w c v) (sym at.world) at
