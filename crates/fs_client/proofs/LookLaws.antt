-- A request that only looks, of a client that may write the block.
use Rattle.std.proofs.Common.{◌≡◌, ◌≢◌, ℕ, zero, suc, ◌<◌, ◌≤◌, Bool, true, false, ◌&&◌, ◌||◌, ◌==◌, refl, sym, ◌∙◌, ap, subst, arith, inl, inr, Option, Some, None, List, [], Result, Ok, Err}
use Rattle.fs_client.proofs.Common.{and_from, eq-eqb, or_left, is_none, is_some, unwrap_or, Rose, World, contents, is_live, Sessions, is_open, level_le, level_from, Fits, attained, verdict, IsValid, State, judged, targets_from, answer, is_of_session, Level, PlaceKind, Request, Reply, Rule, answer_valid, answer_fits, attained_where, holds, is_steady, HoldsWrite, writes_through, ways_stay, ways_are_gained, read_is_granted, list_is_granted, DiskView, state_of, IsDiskSound, IsAskCarriedOut, IsEitherSide, IsValidNow, LeavesWorldsOnly, Stays, both_leave, leaves_more, on_answer, if_fault, both_stay, both_count, led_both, led_by, FsRefusal, Client, shown_at, read_by, list_by, AsksOnce, MayWrite, Looked, OnlyLooks}
use Rattle.tsd_model.specs.declared.requests.Level.TheVariants as level
use Rattle.tsd_model.specs.declared.replies.Reply.TheVariants as reply
use Rattle.disk_laws.specs.Grants.{ShownAttains}
use Rattle.fs_trees.specs.declared.refusal.FsRefusal.TheVariants as no
use Rattle.fs_client.proofs.RefusedLaws.{is_steady_too, same_answer}

-- ---- what is no other refusal is a fault

pub only_a_fault : (e : FsRefusal) → (e ≢ no.Device → ⊥) → e ≡ no.Device
only_a_fault no.NotThisFs h = absurd (h (λ g. cc))
only_a_fault no.NoEntry h = absurd (h (λ g. cc))
only_a_fault no.Exists h = absurd (h (λ g. cc))
only_a_fault no.NotDir h = absurd (h (λ g. cc))
only_a_fault no.IsDir h = absurd (h (λ g. cc))
only_a_fault no.NotEmpty h = absurd (h (λ g. cc))
only_a_fault no.DirFull h = absurd (h (λ g. cc))
only_a_fault no.TooBig h = absurd (h (λ g. cc))
only_a_fault (no.Full free wanted) h = absurd (h (λ g. cc))
only_a_fault (no.PointersFull held most) h = absurd (h (λ g. cc))
only_a_fault no.Device h = refl

-- ---- such a request is granted

pub is_numbered : (v : Sessions) (s : ℕ) → is_open v s ≡ true → 1 ≤ s
is_numbered v zero h = absurd (cc)
is_numbered v (suc s) h = omega arith

write_is_read : (l : Level) → level_le level.Write l ≡ true → level_le level.Read l ≡ true
write_is_read level.Bare h = absurd (cc)
write_is_read level.Read h = refl
write_is_read level.Write h = refl

pub read_granted : (c : Client) (v : DiskView) (b : ℕ) → IsValidNow v → MayWrite c v b → verdict v.world v.sessions (read_by c b) ≡ None
read_granted c v b now may =
    read_is_granted v.world v.sessions now.valid c.session (is_numbered v.sessions c.session may.begun) may.number may.begun b (shown_at c b) may.live
    (write_is_read (attained v.world v.sessions c.session b (shown_at c b)) may.attains)

pub list_granted : (c : Client) (v : DiskView) (b start : ℕ) → IsValidNow v → MayWrite c v b → verdict v.world v.sessions (list_by c b start) ≡ None
list_granted c v b start now may =
    list_is_granted v.world v.sessions now.valid c.session (is_numbered v.sessions c.session may.begun) may.number may.begun b (shown_at c b) start may.live
    (write_is_read (attained v.world v.sessions c.session b (shown_at c b)) may.attains)

-- ---- and changes no world

pub read_looks : (kind : PlaceKind) (s : State) (c : Client) (b : ℕ) (want : Bool) → (answer kind s (read_by c b) want).state.world ≡ s.world
read_looks kind s c b want = ap (λ o. o.state.world) (same_answer kind s (read_by c b) want refl) ∙ by_verdict (verdict s.world s.sessions (read_by c b))
  where
    by_verdict : (o : Option Rule) → (judged kind s (read_by c b) o).state.world ≡ s.world
    by_verdict None = refl
    by_verdict (Some r) = refl

pub list_looks : (kind : PlaceKind) (s : State) (c : Client) (b start : ℕ) (want : Bool) → (answer kind s (list_by c b start) want).state.world ≡ s.world
list_looks kind s c b start want = ap (λ o. o.state.world) (same_answer kind s (list_by c b start) want refl) ∙ by_verdict (verdict s.world s.sessions (list_by c b start))
  where
    by_verdict : (o : Option Rule) → (judged kind s (list_by c b start) o).state.world ≡ s.world
    by_verdict None = refl
    by_verdict (Some r) = refl

-- ---- what the reply says

pub bytes_read : (c : Client) (old new : DiskView) (b : ℕ) (bytes : List ℕ) → IsValidNow old → MayWrite c old b → IsAskCarriedOut old new (read_by c b) (reply.Bytes bytes) → contents old.world b ≡ Some bytes
bytes_read c old new b bytes now may done =
    let q = read_by c b in
    let s = state_of old in
    let e : (answer old.kind s q done.0).reply ≡ reply.Bytes (unwrap_or (contents old.world b) []) =
    ap (λ o. o.reply) (same_answer old.kind s q done.0 refl) ∙ ap (λ x. (judged old.kind s q x).reply) (read_granted c old b now may) in
    let said : unwrap_or (contents old.world b) [] ≡ bytes = same_bytes (sym e ∙ done.2) in
    there (contents old.world b) may.live ∙ ap (λ x. Some x) said
  where
    same_bytes : {x y : List ℕ} → reply.Bytes x ≡ reply.Bytes y → x ≡ y
    same_bytes e = cc

    there : (o : Option (List ℕ)) → is_some o ≡ true → o ≡ Some (unwrap_or o [])
    there None h = absurd (cc)
    there (Some x) h = refl

pub targets_listed : (c : Client) (old new : DiskView) (b start : ℕ) (targets : List ℕ) → IsValidNow old → MayWrite c old b → IsAskCarriedOut old new (list_by c b start) (reply.Targets targets) → targets ≡ targets_from old.world.pairs b start
targets_listed c old new b start targets now may done =
    let q = list_by c b start in
    let s = state_of old in
    let e : (answer old.kind s q done.0).reply ≡ reply.Targets (targets_from old.world.pairs b start) =
    ap (λ o. o.reply) (same_answer old.kind s q done.0 refl) ∙ ap (λ x. (judged old.kind s q x).reply) (list_granted c old b start now may) in
    same_targets (sym done.2 ∙ e)
  where
    same_targets : {x y : List ℕ} → reply.Targets x ≡ reply.Targets y → x ≡ y
    same_targets e = cc

-- ---- what it leaves

-- what is held stands at a live block
held_is_live : (w : World) (v : Sessions) (s a : ℕ) → Fits w v → HoldsWrite (record { world = w; sessions = v }) s a → is_live w a ≡ true
held_is_live w v s a fits held = elim (fits.live s held.0 a) [
  | inl bare ↦ absurd (clash (level_from v s held.0 a) bare held.2)
  | inr live ↦ live
]
  where
    clash : (l : Level) → l ≡ level.Bare → level_le level.Write l ≡ true → ⊥
    clash level.Bare e h = cc
    clash level.Read e h = cc
    clash level.Write e h = cc

-- a request of the client that only looks at a block
module _ (c : Client) (old new : DiskView) (q : Request) (b : ℕ) (r : Reply) (now : IsValidNow old) (may : MayWrite c old b) (done : IsAskCarriedOut old new q r)
    (same : (want : Bool) → (answer old.kind (state_of old) q want).state.world ≡ old.world) (steady : is_steady q ≡ true) where
  live_after : (a : ℕ) → is_live old.world a ≡ true → is_live (answer old.kind (state_of old) q done.0).state.world a ≡ true
  live_after a h = ap (λ w. is_live w a) (same done.0) ∙ h

  pub looked : Looked old new
  looked = record {
    world = ap (λ st. st.world) (sym done.1) ∙ same done.0;
    valid = record {
      valid = subst (λ st. IsValid st.world) done.1 (answer_valid old.kind (state_of old) q done.0 now.valid);
      fits = subst (λ st. Fits st.world st.sessions) done.1 (answer_fits old.kind (state_of old) q done.0 now.valid now.fits);
    };
    ways = λ s a held. subst (λ st. HoldsWrite st s a) done.1 (ways_stay old.kind (state_of old) q done.0 s a now.valid now.fits held steady (live_after a (held_is_live old.world old.sessions s a now.fits held)));
    led = led_by old new q r (is_steady_too q steady) done;
  }

  pub gained : verdict old.world old.sessions q ≡ None → is_of_session q c.session ≡ true → writes_through (state_of old) q c.session b ≡ true → HoldsWrite (state_of new) c.session b
  gained granted own through = subst (λ st. HoldsWrite st c.session b) done.1
      (ways_are_gained old.kind (state_of old) q done.0 c.session b now.valid now.fits (ap is_none granted) own through steady (live_after b may.live))

-- the block is the one that is looked at
pub through_here : (b : ℕ) (attains : Bool) → attains ≡ true → (((b == b) && attains) || false) ≡ true
through_here b attains h = or_left ((b == b) && attains) false (and_from (b == b) attains (eq-eqb b b refl) h)

-- ---- whatever came of it

still : (old new : DiskView) (q : Request) (same : (want : Bool) → (answer old.kind (state_of old) q want).state.world ≡ old.world) → LeavesWorldsOnly old new (IsEitherSide old q) → LeavesWorldsOnly old new (λ w. w ≡ old.world)
still old new q same run = leaves_more old new (IsEitherSide old q) (λ w. w ≡ old.world) (λ w either. elim either [ inl before ↦ before | inr after ↦ after ∙ same false ]) run

module _ {X : Type 0} (told : Type 0) (old new : DiskView) (q : Request) where
  pub looks_ok : (x : X) → ((want : Bool) → (answer old.kind (state_of old) q want).state.world ≡ old.world) → (told → Looked old new) → AsksOnce told old new q (Ok x) → OnlyLooks told old new (Ok x)
  looks_ok x same seen once = record {
    looked = λ t. (seen t, tt);
    crash = λ t. still old new q same (once.crash t);
    stays = once.stays;
    counts = once.counts;
    unspent = once.unspent;
    faultless = once.faultless;
    cause = once.cause;
    spent = once.spent;
  }

  never_refused : (e : FsRefusal) → (told → verdict old.world old.sessions q ≡ None) → told → AsksOnce {X = X} told old new q (Err e) → e ≢ no.Device → ⊥
  never_refused e granted t once ne = let refused = once.refused t ne in both (verdict old.world old.sessions q) refused.0.0 (granted t) refused.0.1
    where
      both : (o : Option Rule) (r : Rule) → o ≡ None → o ≡ Some r → ⊥
      both None r e f = cc
      both (Some s) r e f = cc

  pub looks_err : (e : FsRefusal) → ((want : Bool) → (answer old.kind (state_of old) q want).state.world ≡ old.world) → (told → verdict old.world old.sessions q ≡ None) → AsksOnce {X = X} told old new q (Err e) → OnlyLooks {X = X} told old new (Err e)
  looks_err e same granted once = record {
    looked = λ t. (tt, λ ne. absurd (never_refused e granted t once ne));
    crash = λ t. still old new q same (once.crash t);
    stays = once.stays;
    counts = once.counts;
    unspent = once.unspent;
    faultless = once.faultless;
    cause = once.cause;
    spent = once.spent;
  }

  pub is_a_fault : (e : FsRefusal) → (told → verdict old.world old.sessions q ≡ None) → told → AsksOnce {X = X} told old new q (Err e) → e ≡ no.Device
  is_a_fault e granted t once = only_a_fault e (never_refused e granted t once)

-- ---- one look after the other

-- nothing was asked
pub no_look : (told : Type 0) (v : DiskView) → v.spent ≡ false → (told → IsDiskSound v) → (told → IsValidNow v) → OnlyLooks {X = Unit {0}} told v v (Ok tt)
no_look told v unspent sound valid = record {
  looked = λ t. (record { world = refl; valid = valid t; ways = λ s a held. held; led = ([], refl) }, tt);
  crash = λ t. record {
    later = omega arith;
    sent = refl;
    each = λ x f h. let now = (sound t).only_now x f h in (v.world, now.0, refl, now.1);
    before = λ s x f le h. inl h;
    keeps = λ s x f le h. h;
  };
  stays = (record { records = refl; sessions = λ s. refl }, tt);
  counts = record { geometry = refl; version = refl; kind = refl; clock = omega arith; faults = omega arith; put_faults = refl; lenders = refl };
  unspent = (unspent, tt);
  faultless = (refl, tt);
  cause = tt;
  spent = tt;
}

also : (old mid new : DiskView) → mid.kind ≡ old.kind → Looked old mid → Looked mid new → Looked old new
also old mid new same first second = record {
  world = second.world ∙ first.world;
  valid = second.valid;
  ways = λ s a held. second.ways s a (first.ways s a held);
  led = led_both old mid new same first.led second.led;
}

pub then_looks : {X Y : Type 0} (told : Type 0) (old mid new : DiskView) (x : X) (result : Result Y FsRefusal) → OnlyLooks told old mid (Ok x) → OnlyLooks told mid new result → OnlyLooks told old new result
then_looks told old mid new x result first second = record {
  looked = λ t. on_answer (Looked mid new) (Looked old new) result (also old mid new first.counts.kind (first.looked t).0) (second.looked t);
  crash = λ t. both_leave old mid new (λ w. w ≡ old.world) (first.crash t)
      (leaves_more mid new (λ w. w ≡ mid.world) (λ w. w ≡ old.world) (λ w e. e ∙ (first.looked t).0.world) (second.crash t));
  stays = on_answer (Stays mid new) (Stays old new) result (both_stay old mid new first.stays.0) second.stays;
  counts = both_count old mid new first.counts second.counts;
  unspent = second.unspent;
  faultless = on_answer (new.faults ≡ mid.faults) (new.faults ≡ old.faults) result (λ e. e ∙ first.faultless.0) second.faultless;
  cause = if_fault (Rose mid.faults new.faults) (Rose old.faults new.faults) result (subst (λ n. Rose n new.faults) first.faultless.0) second.cause;
  spent = second.spent;
}

-- the same answered otherwise
pub looks_as : {X Y : Type 0} (told : Type 0) (old new : DiskView) (x : X) (y : Y) → OnlyLooks told old new (Ok x) → OnlyLooks told old new (Ok y)
looks_as told old new x y h = record { looked = h.looked; crash = h.crash; stays = h.stays; counts = h.counts; unspent = h.unspent; faultless = h.faultless; cause = tt; spent = tt }

pub looks_refused : {X Y : Type 0} (told : Type 0) (old new : DiskView) (e : FsRefusal) → OnlyLooks {X = X} told old new (Err e) → OnlyLooks {X = Y} told old new (Err e)
looks_refused told old new e h = record { looked = h.looked; crash = h.crash; stays = h.stays; counts = h.counts; unspent = h.unspent; faultless = h.faultless; cause = h.cause; spent = h.spent }

-- a refusal of its own, not the disk's
pub looks_but_refuses : {X Y : Type 0} (told : Type 0) (old new : DiskView) (x : X) (e : FsRefusal) → e ≢ no.Device → OnlyLooks told old new (Ok x) → OnlyLooks {X = Y} told old new (Err e)
looks_but_refuses told old new x e ne h = record {
  looked = λ t. (tt, λ _. (h.looked t).0);
  crash = h.crash;
  stays = (tt, λ _. h.stays.0);
  counts = h.counts;
  unspent = (tt, λ _. h.unspent.0);
  faultless = (tt, λ _. h.faultless.0);
  cause = λ g. absurd (ne g);
  spent = λ g. absurd (ne g);
}

-- what may be written still may: at a primary block by what is shown, elsewhere by what is held
pub may_again : (c : Client) (old new : DiskView) (b : ℕ) → Looked old new → Stays old new → IsValidNow old → MayWrite c old b → MayWrite c new b
may_again c old new b seen stays now may = record {
  number = may.number;
  begun = stays.sessions c.session ∙ may.begun;
  live = ap (λ w. is_live w b) seen.world ∙ may.live;
  attains = (attained_where new.world new.sessions c.session b (shown_at c b) level.Write refl).1
      (elim ((attained_where old.world old.sessions c.session b (shown_at c b) level.Write refl).0 may.attains) [
        | inl shown ↦ inl (subst (λ w. ShownAttains w b (shown_at c b) level.Write) (sym seen.world) shown)
        | inr held ↦ inr (lead held)
      ]);
}
  where
    lead : (old.world.geometry.primaries ≤ b) × ((a o : ℕ) × (holds old.world.pairs a b ≡ true) × (o < old.world.geometry.primaries) × (level_le level.Write (level_from old.sessions c.session o a) ≡ true))
        → (new.world.geometry.primaries ≤ b) × ((a o : ℕ) × (holds new.world.pairs a b ≡ true) × (o < new.world.geometry.primaries) × (level_le level.Write (level_from new.sessions c.session o a) ≡ true))
    lead held =
        let way = seen.ways c.session held.1.0 (held.1.1, held.1.3, held.1.4) in
        (subst (λ w. w.geometry.primaries ≤ b) (sym seen.world) held.0, (held.1.0, way.0, ap (λ w. holds w.pairs held.1.0 b) seen.world ∙ held.1.2, way.1, way.2))
