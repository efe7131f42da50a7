-- A core whose records of the journal are elsewhere, and what goes on with a disk in memory, call after call.
use Rattle.std.proofs.Common.{◌≡◌, List, [], refl, sym, ◌∙◌, ap, ℕ, inl, inr, ⊎_elim, subst}
use Rattle.gathered_tasks.proofs.Common.{CarriesOut, Core, CountsFault, Err, Failed, GoesOn, HoldsOn, IfOk, Image, IsAmong, IsCoreAt, IsErrAnd, IsGood, IsInMemory, IsReadyInMemory, IsSound, JournalRecord, LeavesBaseOrNow, LeavesOnly, Ok, Patch, PlaceKind, Request, Result, Stands, StandsForAny, State, View, World, behind, cleared, ends_in, firm_image, gone_on, held_state, home, joined, part_stays, sessions_of, started, state_on, tables_of, told_state, told_world, weakened, world_of, ◌⊎◌}
use Rattle.std.proofs.lemmas.Result.{IfOk-weaker, on_ok_weaker}
use Rattle.tsd_model.specs.Run.{IsAnswer, answer}
use Rattle.tsd_model.specs.declared.replies.Reply.{Reply}
use Rattle.image_world.proofs.AgreeLaws.{alike_outside, old_stands}
use Rattle.image_world.proofs.AlikeLaws.{alike_tables}
use Rattle.gathering.proofs.Closed.{cleared_closed, cleared_home, closed_ring, closed_valid}
use Rattle.volume_laws.proofs.OperationLaws.{works_joined, works_none}
use Rattle.tsd_core.proofs.Common.{AreLike}
use Rattle.tsd_core.specs.Applying.{IsReplyLike, IsToldAnswer, next_world}
use Rattle.gathered_tasks.proofs.HoldLaws.{cleared_aside}
use Rattle.gathered_tasks.proofs.TaskLaws.{behind_more}

-- the core with these records in place of its own
abbrev pub with_ring : Core → List JournalRecord → Core
with_ring c rs = record c { volume = record c.volume { ring = rs } }

-- ---- an image, and the disk in memory as a group begins on it

-- it stands for the same
pub cleared_stands : (x : Image) → IsGood x → Stands (cleared x) (world_of x)
cleared_stands x good = old_stands x (cleared x) good (cleared_home x) (closed_valid (cleared x) (cleared_closed x))

pub cleared_world : (x : Image) → IsGood x → world_of (gone_on [] x) ≡ world_of x
cleared_world x good = sym (cleared_stands x good).world

cleared_tables : (x : Image) → IsGood x → tables_of (home (cleared x)) ≡ tables_of (home x)
cleared_tables x good = alike_tables (home x) (home (cleared x)) good.header (alike_outside (home x) (home (cleared x)) (cleared_home x))

-- ---- the journal is taken from a core

module _ (c : Core) (v : View) (at : IsCoreAt c v) where
  pub begun_at : IsInMemory (with_ring c []) c.volume.ring [] v
  begun_at = record {
    firm = at.0;
    ring_at = record { shows = at.1.shows; others_closed = at.1.others_closed; journal_firm = λ n inside. at.0 n };
    good = at.1.good;
    fits = record {
      shows = (closed_ring (cleared v.reads) (cleared_closed v.reads)).shows;
      others_closed = λ index from less. cleared_closed v.reads index less;
      good = (cleared_stands v.reads at.1.good).good;
      tables = cleared_tables v.reads at.1.good ∙ at.1.tables;
    };
    aside = cleared_aside c.volume.tables.geometry v.reads;
  }

  pub begun_state : held_state (with_ring c []) [] v ≡ state_on c v.reads
  begun_state i = record { world = cleared_world v.reads at.1.good i; sessions = (state_on c v.reads).sessions }

  -- the same of the core, the records and the batch that the call leaves
  module _ (d : Core) (rs : List JournalRecord) (batch : List Patch) (is : d ≡ with_ring c []) (given : rs ≡ c.volume.ring) (none : batch ≡ []) where
    pub begun_in_memory : IsInMemory d rs batch v
    begun_in_memory = subst (λ (b : List Patch). IsInMemory d rs b v) (sym none) (subst (λ (k : List JournalRecord). IsInMemory d k [] v) (sym given) (subst (λ (k : Core). IsInMemory k c.volume.ring [] v) (sym is) begun_at))

    pub begun_held : held_state d batch v ≡ state_on c v.reads
    begun_held = ap (λ (b : List Patch). held_state d b v) none ∙ ap (λ (k : Core). held_state k [] v) is ∙ begun_state

-- ---- and goes back to it

pub ended_at : (c : Core) (rs : List JournalRecord) (v : View) → IsInMemory c rs [] v → IsCoreAt (with_ring c rs) v
ended_at c rs v at = (
  at.firm,
  record {
    shows = at.ring_at.shows;
    others_closed = at.ring_at.others_closed;
    good = at.good;
    tables = sym (cleared_tables v.reads at.good) ∙ at.fits.tables;
  },
)

-- ---- worlds

-- an image stands for one of three worlds, where one of two is on the device and the other in memory
among_later : (base now next base1 now1 w : World) → (base1 ≡ base) ⊎ (base1 ≡ now) → now1 ≡ now → IsAmong base1 now1 next w → IsAmong base now next w
among_later base now next base1 now1 w here same (inl is) = ⊎_elim (λ e. inl (is ∙ e)) (λ e. inr (inl (is ∙ e))) here
among_later base now next base1 now1 w here same (inr (inl is)) = inr (inl (is ∙ same))
among_later base now next base1 now1 w here same (inr (inr is)) = inr (inr is)

any_later : (base now next base1 now1 : World) (x : Image) → (base1 ≡ base) ⊎ (base1 ≡ now) → now1 ≡ now → StandsForAny base1 now1 next x → StandsForAny base now next x
any_later base now next base1 now1 x here same (inl s) = ⊎_elim (λ e. inl (subst (λ (k : World). Stands x k) e s)) (λ e. inr (inl (subst (λ (k : World). Stands x k) e s))) here
any_later base now next base1 now1 x here same (inr (inl s)) = inr (inl (subst (λ (k : World). Stands x k) same s))
any_later base now next base1 now1 x here same (inr (inr s)) = inr (inr s)

-- a call whose next world is the one in memory leaves one of two
any_of_two : (base now next : World) (x : Image) → StandsForAny base now now x → StandsForAny base now next x
any_of_two base now next x (inl s) = inl s
any_of_two base now next x (inr (inl s)) = inr (inl s)
any_of_two base now next x (inr (inr s)) = inr (inl s)

one_of_two : (base now : World) (x : Image) → StandsForAny base now now x → Stands x base ⊎ Stands x now
one_of_two base now x (inl s) = inl s
one_of_two base now x (inr (inl s)) = inr s
one_of_two base now x (inr (inr s)) = inr s

stands_for : (base now : World) (x : Image) → StandsForAny base now now x → (world_of x ≡ base) ⊎ (world_of x ≡ now)
stands_for base now x (inl s) = inl (sym s.world)
stands_for base now x (inr (inl s)) = inr (sym s.world)
stands_for base now x (inr (inr s)) = inr (sym s.world)

-- a crash inside a commit
pub base_or_now : (batch : List Patch) (v w : View) → LeavesOnly v w (λ x f. StandsForAny (world_of v.reads) (world_of (gone_on batch v.reads)) (world_of (gone_on batch v.reads)) x × (f ≡ v.sent)) → LeavesBaseOrNow batch v w
base_or_now batch v w leaves =
    weakened v w (λ x f. StandsForAny (world_of v.reads) (world_of (gone_on batch v.reads)) (world_of (gone_on batch v.reads)) x × (f ≡ v.sent))
    (λ x f. (Stands x (world_of v.reads) ⊎ Stands x (world_of (gone_on batch v.reads))) × (f ≡ v.sent)) leaves
    (λ x f left. (one_of_two (world_of v.reads) (world_of (gone_on batch v.reads)) x left.0, left.1))

-- ---- one call

-- the same, said of an equal world
goes_to : {T : Type 0} {told : Type 0} {c0 c1 : Core} {ring : List JournalRecord} {b0 b1 : List Patch} {v w : View} {next to : World} {r : Result T Failed} → (told → next ≡ to)
    → GoesOn told c0 c1 ring b0 b1 v w next r → GoesOn told c0 c1 ring b0 b1 v w to r
goes_to {b0 = b0} {v = v} {w = w} same goes = record {
  ready = goes.ready;
  at = goes.at;
  size = goes.size;
  spent = goes.spent;
  sent = goes.sent;
  any_moment = λ t. subst (λ (k : World). LeavesOnly v w (λ x f. StandsForAny (world_of v.reads) (world_of (gone_on b0 v.reads)) k x × (f ≡ v.sent))) (same t) (goes.any_moment t);
  behind = goes.behind;
  works = goes.works;
  faults = goes.faults;
}

-- one that failed, with a failure of another type and another next world
goes_failed : {S T : Type 0} {told : Type 0} {c0 c1 : Core} {ring : List JournalRecord} {b0 b1 : List Patch} {v w : View} (next : World) {e e1 : Failed}
    → GoesOn {T = S} told c0 c1 ring b0 b1 v w (world_of (gone_on b0 v.reads)) (Err e) → GoesOn {T = T} told c0 c1 ring b0 b1 v w next (Err e1)
goes_failed {b0 = b0} {v = v} {w = w} next goes = record {
  ready = tt;
  at = λ t. tt;
  size = goes.size;
  spent = goes.spent;
  sent = goes.sent;
  any_moment = λ t. weakened v w _ (λ x f. StandsForAny (world_of v.reads) (world_of (gone_on b0 v.reads)) next x × (f ≡ v.sent)) (goes.any_moment t)
      (λ x f left. (any_of_two (world_of v.reads) (world_of (gone_on b0 v.reads)) next x left.0, left.1));
  behind = goes.behind;
  works = goes.works;
  faults = goes.faults;
}

-- ---- one call more

module _ {S : Type 0} {told : Type 0} {c0 c1 : Core} {mid : List JournalRecord} {b0 b1 : List Patch} {v u : View} {s : S} (first : HoldsOn {T = S} told c0 c1 mid b0 b1 v u (Ok s)) (sound : told → IsSound u) where
  same_now : told → world_of (gone_on b1 u.reads) ≡ world_of (gone_on b0 v.reads)
  same_now t = ap (λ (k : State). k.world) (first.state t)

  at_mid : told → (world_of u.reads ≡ world_of v.reads) ⊎ (world_of u.reads ≡ world_of (gone_on b0 v.reads))
  at_mid t =
      stands_for (world_of v.reads) (world_of (gone_on b0 v.reads)) u.reads
      (ends_in v u (λ x f. StandsForAny (world_of v.reads) (world_of (gone_on b0 v.reads)) (world_of (gone_on b0 v.reads)) x × (f ≡ v.sent)) (sound t) (first.goes_on.any_moment t)).0

  moments : {w : View} (next : World) → told → LeavesOnly u w (λ x f. StandsForAny (world_of u.reads) (world_of (gone_on b1 u.reads)) next x × (f ≡ u.sent))
      → LeavesOnly v w (λ x f. StandsForAny (world_of v.reads) (world_of (gone_on b0 v.reads)) next x × (f ≡ v.sent))
  moments {w = w} next t more =
      joined v u w (λ x f. StandsForAny (world_of v.reads) (world_of (gone_on b0 v.reads)) next x × (f ≡ v.sent)) (λ x f. StandsForAny (world_of u.reads) (world_of (gone_on b1 u.reads)) next x × (f ≡ u.sent))
      (weakened v u (λ x f. StandsForAny (world_of v.reads) (world_of (gone_on b0 v.reads)) (world_of (gone_on b0 v.reads)) x × (f ≡ v.sent)) (λ x f. StandsForAny (world_of v.reads) (world_of (gone_on b0 v.reads)) next x × (f ≡ v.sent)) (first.goes_on.any_moment t)
      (λ x f left. (any_of_two (world_of v.reads) (world_of (gone_on b0 v.reads)) next x left.0, left.1)))
      more
      (λ x f left. (any_later (world_of v.reads) (world_of (gone_on b0 v.reads)) next (world_of u.reads) (world_of (gone_on b1 u.reads)) x (at_mid t) (same_now t) left.0, left.1 ∙ first.goes_on.sent t))

  -- Two calls in a row, the first of which leaves the state as it is.
  pub goes_then : {T : Type 0} {c2 : Core} {ring : List JournalRecord} {b2 : List Patch} {w : View} {next : World} {r : Result T Failed} → GoesOn told c1 c2 ring b1 b2 u w next r → GoesOn told c0 c2 ring b0 b2 v w next r
  goes_then {w = w} {next = next} {r = r} more = record {
    ready = more.ready;
    at = more.at;
    size = record { geometry = more.size.geometry ∙ first.goes_on.size.geometry; version = more.size.version ∙ first.goes_on.size.version };
    spent = more.spent;
    sent = λ t. more.sent t ∙ first.goes_on.sent t;
    any_moment = λ t. moments next t (more.any_moment t);
    behind = λ t. behind_more c0 c1 v u w (sound t) first.goes_on.size (first.goes_on.behind t) (more.behind t);
    works = works_joined v u w first.goes_on.works more.works;
    faults = subst (λ (n : ℕ). CountsFault r n w.faults) first.goes_on.faults more.faults;
  }

  -- both leave it
  pub holds_then : {T : Type 0} {c2 : Core} {ring : List JournalRecord} {b2 : List Patch} {w : View} {r : Result T Failed} → HoldsOn told c1 c2 ring b1 b2 u w r → HoldsOn told c0 c2 ring b0 b2 v w r
  holds_then {r = r} more = record {
    goes_on = goes_to same_now (goes_then more.goes_on);
    state = λ t. on_ok_weaker r (λ is. is ∙ first.state t) (more.state t);
    told_state = on_ok_weaker r (λ is. is ∙ first.told_state) more.told_state;
  }

  told_then : (kind : PlaceKind) (q : Request) (r : Reply) (c2 : Core) → IsToldAnswer kind c1 q r c2 → IsToldAnswer kind c0 q r c2
  told_then kind q r c2 is = record {
    want = is.want;
    reply = subst (λ (k : State). IsReplyLike r (answer kind k q is.want).reply) first.told_state is.reply;
    world = subst (λ (k : State). AreLike (told_world c2) (answer kind k q is.want).state.world) first.told_state is.world;
    sessions = subst (λ (k : State). sessions_of c2 ≡ (answer kind k q is.want).state.sessions) first.told_state is.sessions;
  }

  -- the second carries out a request
  pub carried_then : {c2 : Core} {ring : List JournalRecord} {b2 : List Patch} {w : View} {kind : PlaceKind} {q : Request} {r : Result Reply Failed} → CarriesOut told kind q c1 c2 ring b1 b2 u w r → CarriesOut told kind q c0 c2 ring b0 b2 v w r
  carried_then {c2 = c2} {b2 = b2} {w = w} {kind = kind} {q = q} {r = r} more = record {
    goes_on = goes_to (λ t. ap (λ (k : State). next_world kind k q) (first.state t)) (goes_then more.goes_on);
    given = λ t. subst (λ (k : State). IfOk r (λ a. IsAnswer kind k q a (held_state c2 b2 w))) (first.state t) (more.given t);
    told_given = IfOk-weaker r (λ a. IsToldAnswer kind c1 q a c2) (λ a. IsToldAnswer kind c0 q a c2) (λ a is. told_then kind q a c2 is) more.told_given;
    base = λ t. on_ok_weaker r (among_later (world_of v.reads) (world_of (gone_on b0 v.reads)) (world_of (gone_on b2 w.reads)) (world_of u.reads) (world_of (gone_on b1 u.reads)) (world_of w.reads) (at_mid t) (same_now t)) (more.base t);
  }

-- ---- a call that failed, in one that fails by it

pub holds_failed : {S T : Type 0} {told : Type 0} {c0 c1 : Core} {ring : List JournalRecord} {b0 b1 : List Patch} {v w : View} {e : Failed} (Q : Failed → Type 0) (r : Result T Failed) → IsErrAnd r Q
    → HoldsOn {T = S} told c0 c1 ring b0 b1 v w (Err e) → HoldsOn {T = T} told c0 c1 ring b0 b1 v w r
holds_failed Q (Ok x) is holds = absurd is
holds_failed {b0 = b0} {v = v} Q (Err f) is holds = record {
  goes_on = goes_failed (world_of (gone_on b0 v.reads)) holds.goes_on;
  state = λ t. tt;
  told_state = tt;
}

pub carried_failed : {S : Type 0} {told : Type 0} (kind : PlaceKind) (q : Request) {c0 c1 : Core} {ring : List JournalRecord} {b0 b1 : List Patch} {v w : View} {e : Failed} (Q : Failed → Type 0) (r : Result Reply Failed) → IsErrAnd r Q
    → HoldsOn {T = S} told c0 c1 ring b0 b1 v w (Err e) → CarriesOut told kind q c0 c1 ring b0 b1 v w r
carried_failed kind q Q (Ok x) is holds = absurd is
carried_failed kind q {c0 = c0} {b0 = b0} {v = v} Q (Err f) is holds = record {
  goes_on = goes_failed (next_world kind (held_state c0 b0 v) q) holds.goes_on;
  given = λ t. tt;
  told_given = tt;
  base = λ t. tt;
}

-- ---- a call that answers something, and leaves the state as it is

pub holds_of : {S T : Type 0} {told : Type 0} {c0 c1 : Core} {ring : List JournalRecord} {b0 b1 : List Patch} {v w : View} {s : S} (x : T)
    → GoesOn {T = S} told c0 c1 ring b0 b1 v w (world_of (gone_on b0 v.reads)) (Ok s) → (told → held_state c1 b1 w ≡ held_state c0 b0 v) → told_state c1 ≡ told_state c0
    → HoldsOn {T = T} told c0 c1 ring b0 b1 v w (Ok x)
holds_of x goes state same = record {
  goes_on = record { ready = goes.ready; at = goes.at; size = goes.size; spent = tt; sent = goes.sent; any_moment = goes.any_moment; behind = goes.behind; works = goes.works; faults = goes.faults };
  state = state;
  told_state = same;
}

-- ---- nothing was called

pub holds_still : (told : Type 0) (c : Core) (ring : List JournalRecord) (batch : List Patch) (v : View) → (told → IsSound v) → IsReadyInMemory c → (told → IsInMemory c ring batch v)
    → HoldsOn {T = Unit {0}} told c c ring batch batch v v (Ok tt)
holds_still told c ring batch v sound ready at = record {
  goes_on = record {
    ready = ready;
    at = at;
    size = record { geometry = refl; version = refl };
    spent = tt;
    sent = λ t. refl;
    any_moment = λ t. started v (λ x f. StandsForAny (world_of v.reads) (world_of (gone_on batch v.reads)) (world_of (gone_on batch v.reads)) x × (f ≡ v.sent)) (sound t)
        (λ x f left. let same : x ≡ v.reads = firm_image v (at t).firm x f left in (inl (record { good = subst (λ (y : Image). IsGood y) (sym same) (at t).good; world = ap world_of (sym same) }), left.1));
    behind = λ t. part_stays (behind c.volume.tables.geometry) v (sound t) (at t).firm;
    works = works_none v;
    faults = refl;
  };
  state = λ t. refl;
  told_state = refl;
}
