-- From a request that was judged and carried out to what is said of it.
use Rattle.std.proofs.Common.{◌≡◌, ◌⊎◌, ℕ, ◌+◌, ◌≤◌, ◌||◌, Bool, true, false, List, length, refl, sym, ◌∙◌, ap, subst, arith, inl, inr, Option, Some, None}
use Rattle.tsd_core.proofs.Common.{Ok, IsOk, IfSome, is_none, filter, World, has_number, Sessions, fitted, no_sessions, State, Outcome, raised_by, without_pointer, is_begin, verdict, Reply, Rule, PlaceKind, Request, View, IsSound, Failed, leaves_both, weakened, home, tables_of, AreLike, doomed_like, fitted_like, Geometry, doomed_pairs, Table, IsTable, IsMadeFor, with_sessions, world_after, reply_to, is_read, IsOver, IsStarved, state_over, IsAnswer, Volume, world_on, IsVolumeAt, behind, owed, LeavesEither, LeavesOwed, made, due, zeroed_cost, count_of, Core, IsCoreReady, IsCoreAt, told_world, sessions_of, state_on, made_by, made_in, cost_of, LeavesDebt, IsKnown, IsChanged, IsCarriedOut, is_refusal, IsToldAnswer, told_verdict, asks_nothing, next_world, IsApplied, bytes_given, most_homes, data_none, batch_none}
use Rattle.std.specs.Prelude.{Result, cond}
use Rattle.tsd_model.specs.declared.replies.Reply.TheVariants as reply
use Rattle.tsd_model.specs.declared.requests.Request.TheVariants as ask
use Rattle.image_device.proofs.Parts.{part_stays}
use Rattle.disk_laws.proofs.FitLaws.{geometry-change}
use Rattle.tsd_core.proofs.StepSeen.{step_over, verdict_over}
use Rattle.tsd_core.proofs.AnswerSeen.{refused_over, granted_over, starved_over, reply_like, without_like}
use Rattle.tsd_core.proofs.FormLaws.{refusal_fits}
use Rattle.tsd_core.proofs.AtLaws.{at_volume, at_core, like_at}
use Rattle.tsd_core.proofs.Likes.{like_itself}
use Rattle.tsd_core.proofs.Operations.{then_ok, if_map, if_kept, and_ok, and_ok3}
use Rattle.tsd_core.proofs.BehindLaws.{AreInside, leaves_behind, given_inside}
use Rattle.tsd_core.proofs.Quiet.{still_stands, still_owes, rests_none}

-- ---- the core over a world

over : (c : Core) (w : World) → IsCoreReady c → IsKnown c.volume → IsTable c.grants → AreLike (told_world c) w → IsOver c.grants (told_world c) w
over c w ready known table like = record {
  like = like;
  table = table;
  made = ready.made;
  each_block = known.sized.each_block;
  sources = λ a b held. (known.ends a b held).0;
}

-- ---- what a deletion makes is the same by what is told

doomed_pairs_like : (t w : World) → AreLike t w → doomed_pairs t ≡ doomed_pairs w
doomed_pairs_like t w like = λ i. filter (λ (e : ℕ × ℕ). has_number (doomed_like t w like i) e.0) (like.pairs i)

made_alike : (t w : World) (a b : ℕ) → AreLike t w → made t a b ≡ made w a b
made_alike t w a b like =
    let cut = without_like t w a b like in
    λ i. length (doomed_like (without_pointer t a b) (without_pointer w a b) cut i) + length (doomed_pairs_like (without_pointer t a b) (without_pointer w a b) cut i) + 1

pub made_like : (t w : World) (q : Request) → AreLike t w → made_by t q ≡ made_by w q
made_like t w (ask.Delete s a shown b) like = made_alike t w a b like
made_like t w ask.Bad like = refl
made_like t w (ask.Begin s) like = refl
made_like t w (ask.End s) like = refl
made_like t w (ask.Read s b shown) like = refl
made_like t w (ask.Write s b shown bytes) like = refl
made_like t w (ask.Alloc s a shown h count) like = refl
made_like t w (ask.Contig s a shown h count) like = refl
made_like t w ask.GetFree like = refl
made_like t w (ask.Create s a shown b) like = refl
made_like t w (ask.SetCap s b shown caps) like = refl
made_like t w (ask.Sweep s shown) like = refl
made_like t w (ask.List s a shown start) like = refl

-- the verdict by what is seen of the table is that by all of it
verdict_as_told : (c : Core) (q : Request) → IsCoreReady c → IsKnown c.volume → IsTable c.grants → told_verdict c q ≡ verdict (told_world c) c.grants.sessions q
verdict_as_told c q ready known table = verdict_over c.grants (told_world c) (told_world c) q (over c (told_world c) ready known table (like_itself (told_world c)))

-- what is granted makes what it makes in its world
made_granted : (c : Core) (q : Request) (w : World) → IsOver c.grants (told_world c) w → ◌≡◌ {A = Option Rule} (verdict (told_world c) c.grants.sessions q) None
    → made_by (told_world c) q ≡ made_in (record { world = w; sessions = sessions_of c }) q
made_granted c q w here granted =
    made_like (told_world c) w q here.like ∙ sym (ap (λ (x : Option Rule). cond (is_none x) (made_by w q) 0) (verdict_over c.grants (told_world c) w q here ∙ granted))

-- ---- debts

-- what is owed, and that nothing more is sent
owes : (vol : Volume) (v w : View) (x : World) (few more : ℕ) → IsVolumeAt vol v → few ≡ more → LeavesOwed v w (owed vol.tables + few) → LeavesEither v w x → LeavesDebt v w more
owes vol v w x few more at same owing either =
    weakened v w _ _ (leaves_both v w _ _ owing either) (λ y f left.
    (let here : owed (tables_of (home v.reads)) ≡ owed vol.tables = ap owed at.tables in omega (arith, left.0, here, same), left.1.1))

-- ---- refused

at_least : (a more : ℕ) → a ≤ a + more
at_least a more = omega arith

with_due : (a b more : ℕ) → a ≤ a + b + more
with_due a b more = omega arith

pub refused_applied : (told : Type 0) (kind : PlaceKind) (q : Request) (c : Core) (v : View) (r : Rule) → IsCoreReady c → IsKnown c.volume → IsTable c.grants
    → (told → IsSound v) → (told → IsCoreAt c v) → verdict (told_world c) c.grants.sessions q ≡ Some r → IsApplied told kind q c c v v (Ok (reply.Refused r))
refused_applied told kind q c v r ready known table sound at refusal = record {
  ready = ready;
  at = at;
  form = refusal_fits (told_world c) c.grants.sessions q r known.sized refusal;
  given = λ t. refused_over kind c.grants (told_world c) (world_on v) q r (over c (world_on v) ready known table (like_at c.volume v (at_volume c v (at t)))) refusal;
  told_given = let here = refused_over kind c.grants (told_world c) (told_world c) q r (over c (told_world c) ready known table (like_itself (told_world c))) refusal in
      record { want = here.want; reply = inl here.reply; world = subst (λ (s : State). AreLike (told_world c) s.world) here.state (like_itself (told_world c)); sessions = ap (λ s. s.sessions) here.state };
  refused = λ e. refl;
  refusal = subst (λ (x : Option Rule). IfSome x (λ rule. ◌≡◌ {A = Result Reply Failed} (Ok (reply.Refused r)) (Ok (reply.Refused rule)))) (sym (verdict_as_told c q ready known table ∙ refusal)) refl;
  answered = λ e. refl;
  size = record { geometry = refl; version = refl };
  spent = tt;
  sent = λ t. refl;
  data_kept = λ t. data_none c.volume.tables.geometry (bytes_given kind (told_world c) q) v (reply.Refused r) (sound t) (at t).0;
  behind = λ t. part_stays (behind c.volume.tables.geometry) v (sound t) (at t).0;
  once = λ b. record { ring = batch_none (most_homes c.volume.tables.geometry q) c.volume.ring; most = omega arith };
  owes = λ e. absurd (cc);
  grown = λ b e. absurd (cc);
  rests = λ t b. rests_none v;
  any_moment = λ t. still_stands c.volume v (next_world kind (state_on c v.reads) q) (sound t) (at_volume c v (at t));
  debt = λ t b. owes c.volume v v (world_on v) (made_in (state_on c v.reads) q) (made_in (state_on c v.reads) q) (at_volume c v (at t)) refl
      (still_owes c.volume v (made_in (state_on c v.reads) q) (sound t) (at_volume c v (at t))) (still_stands c.volume v (world_on v) (sound t) (at_volume c v (at t)));
  paid = λ t b. omega arith;
  most = λ t b. omega arith;
  limit = λ b. omega arith;
  new_paid = λ b. at_least (v.writes + due c.volume) (zeroed_cost c.volume.tables.geometry (count_of q));
  new_most = λ b. with_due v.writes (due c.volume) (zeroed_cost c.volume.tables.geometry (count_of q));
  sweep_paid = λ b. omega arith;
  swept = λ b. omega arith;
  works = record { clock = omega arith; faults = omega arith; put_faults = refl; writes = omega arith };
  faults = refl;
}

-- ---- granted

no_refusal : (kind : PlaceKind) (w : World) (q : Request) → is_refusal (reply_to kind w q) ≡ false
no_refusal kind w ask.Bad = refl
no_refusal kind w (ask.Begin s) = refl
no_refusal kind w (ask.End s) = refl
no_refusal kind w (ask.Read s b shown) = refl
no_refusal kind w (ask.Write s b shown bytes) = refl
no_refusal kind w (ask.Alloc s a shown h count) = refl
no_refusal kind w (ask.Contig s a shown h count) = refl
no_refusal kind w ask.GetFree = refl
no_refusal kind w (ask.Create s a shown b) = refl
no_refusal kind w (ask.Delete s a shown b) = refl
no_refusal kind w (ask.SetCap s b shown caps) = refl
no_refusal kind w (ask.Sweep s shown) = refl
no_refusal kind w (ask.List s a shown start) = refl

bytes_to : (kind : PlaceKind) (w : World) (q : Request) → is_read q ≡ true → (bytes : List ℕ) × (reply_to kind w q ≡ reply.Bytes bytes)
bytes_to kind w (ask.Read s b shown) e = (_, refl)
bytes_to kind w q e = absurd (cc)

true_or_false : (t : Bool) → (t ≡ true) ⊎ (t ≡ false)
true_or_false true = inl refl
true_or_false false = inr refl

never : false ≡ true → ⊥
never e = cc

-- a begin reads no bytes, makes no change to the world, and raises nothing
begin_keeps : (kind : PlaceKind) (w : World) (v : Sessions) (q : Request) → is_begin q ≡ true → (world_after kind w q ≡ w) × (raised_by w v q ≡ v)
begin_keeps kind w v (ask.Begin s) e = (refl, refl)
begin_keeps kind w v q e = absurd (cc)

begin_asks : (q : Request) → is_begin q ≡ true → asks_nothing q ≡ true
begin_asks (ask.Begin s) e = refl
begin_asks q e = absurd (cc)

begin_or_read : (q : Request) → is_begin q ≡ true → is_read q ≡ true → ⊥
begin_or_read (ask.Begin s) e f = cc
begin_or_read q e f = cc

-- the state doesn't depend on what was told of the world
same_state : (t w u x : World) (g : Table) → AreLike t w → AreLike u x → x ≡ w → state_over u x g ≡ state_over t w g
same_state t w u x g like now same =
    (λ i. record { world = x; sessions = fitted_like u x now g.sessions i })
    ∙ ((λ i. record { world = same i; sessions = fitted (same i) g.sessions })
    ∙ sym (λ i. record { world = w; sessions = fitted_like t w like g.sessions i }))

-- What a request that was carried out in memory gives, over a world that is like what is told.
given_over : (kind : PlaceKind) (q : Request) (old : Core) (new : Table) (w u x : World) (r : Reply) → IsOver old.grants (told_world old) w → ◌≡◌ {A = Option Rule} (verdict (told_world old) old.grants.sessions q) None
    → AreLike u x → x ≡ world_after kind w q
    → (IsChanged kind (told_world old) (with_sessions old.grants (raised_by (told_world old) old.grants.sessions q)) q r new ⊎ IsStarved old.grants q r new)
    → (is_read q ≡ true → r ≡ reply_to kind w q)
    → IsAnswer kind (state_over (told_world old) w old.grants) q r (state_over u x new)
given_over kind q old new w u x r here granted like world (inl changed) bytes =
    granted_over kind old.grants new (told_world old) w u x q r here granted like world changed.table
    (elim (true_or_false (is_read q)) [
      | inl reads ↦ bytes reads
      | inr other ↦ changed.reply other ∙ reply_like kind (told_world old) w q here.like other
    ])
given_over kind q old new w u x r here granted like world (inr starved) bytes =
    subst (IsAnswer kind (state_over (told_world old) w old.grants) q r) (sym (same_state (told_world old) w u x new here.like like (world ∙ (begin_keeps kind w old.grants.sessions q starved.begin).0)))
    (starved_over kind old.grants new (told_world old) w q r here granted starved)

-- the table once levels have risen
abbrev risen_in : Core → Request → Core
risen_in c q = record { volume = c.volume; grants = with_sessions c.grants (raised_by (told_world c) c.grants.sessions q) }

-- the kept table, where nothing was raised for a begin
kept_in : (kind : PlaceKind) (old : Core) (q : Request) (r : Reply) (new : Table) → (IsChanged kind (told_world old) (risen_in old q).grants q r new ⊎ IsStarved (risen_in old q).grants q r new)
    → (IsChanged kind (told_world old) (with_sessions old.grants (raised_by (told_world old) old.grants.sessions q)) q r new ⊎ IsStarved old.grants q r new)
kept_in kind old q r new (inl changed) = inl changed
kept_in kind old q r new (inr starved) = inr (record {
  begin = starved.begin;
  reply = starved.reply;
  table = starved.table ∙ ap (with_sessions old.grants) (begin_keeps kind (told_world old) old.grants.sessions q starved.begin).1;
})

same_blocks : (kind : PlaceKind) (old : Core) (q : Request) (r : Reply) (new : Table) → (IsChanged kind (told_world old) (risen_in old q).grants q r new ⊎ IsStarved (risen_in old q).grants q r new)
    → (new.blocks ≡ old.grants.blocks) × (new.primaries ≡ old.grants.primaries)
same_blocks kind old q r new (inl changed) = (ap (λ (g : Table). g.blocks) changed.table, ap (λ (g : Table). g.primaries) changed.table)
same_blocks kind old q r new (inr starved) = (ap (λ (g : Table). g.blocks) starved.table, ap (λ (g : Table). g.primaries) starved.table)

made_after : (kind : PlaceKind) (old : Core) (q : Request) (u : World) (new : Table) → IsMadeFor (told_world old) old.grants → AreLike u (world_after kind (told_world old) q)
    → (new.blocks ≡ old.grants.blocks) × (new.primaries ≡ old.grants.primaries) → IsMadeFor u new
made_after kind old q u new made like same =
    let size : (told_world old).geometry ≡ u.geometry = sym (geometry-change kind (told_world old) no_sessions q) ∙ sym like.geometry in
    record {
      blocks = same.0 ∙ (made.blocks ∙ ap (λ (g : Geometry). g.blocks) size);
      primaries = same.1 ∙ (made.primaries ∙ ap (λ (g : Geometry). g.primaries) size);
    }

-- what is told of the answer
told_answer : (kind : PlaceKind) (q : Request) (old new : Core) (r : Reply) → IsCoreReady old → IsKnown old.volume → IsTable old.grants
    → ◌≡◌ {A = Option Rule} (verdict (told_world old) old.grants.sessions q) None → AreLike (told_world new) (world_after kind (told_world old) q)
    → (IsChanged kind (told_world old) (risen_in old q).grants q r new.grants ⊎ IsStarved (risen_in old q).grants q r new.grants)
    → IsToldAnswer kind old q r new
told_answer kind q old new r ready known table granted like kept =
    let t = told_world old in
    let here = over old t ready known table (like_itself t) in
    elim (true_or_false (is_read q)) [
      | inr other ↦
          let got = given_over kind q old new.grants t (told_world new) (world_after kind t q) r here granted like refl (kept_in kind old q r new.grants kept) (λ e. absurd (never (sym other ∙ e))) in
          record { want = got.want; reply = inl got.reply; world = subst (λ (s : State). AreLike (told_world new) s.world) got.state like; sessions = ap (λ (s : State). s.sessions) got.state }
      | inl reads ↦ elim kept [
        | inr starved ↦ absurd (begin_or_read q starved.begin reads)
        | inl changed ↦
            let got = granted_over kind old.grants new.grants t t (told_world new) (world_after kind t q) q (reply_to kind t q) here granted like refl changed.table refl in
            let read = changed.read reads in
            let would = bytes_to kind t q reads in
            record {
              want = got.want;
              reply = inr (read.0, would.0, read.1, sym got.reply ∙ would.1);
              world = subst (λ (s : State). AreLike (told_world new) s.world) got.state like;
              sessions = ap (λ (s : State). s.sessions) got.state;
            }
      ]
    ]

-- a refusal after the verdict is want of memory alone
refused_keeps : (kind : PlaceKind) (q : Request) (old new : Core) (r : Reply) → (IsChanged kind (told_world old) (risen_in old q).grants q r new.grants ⊎ IsStarved (risen_in old q).grants q r new.grants)
    → (asks_nothing q ≡ true → new.volume ≡ old.volume) → is_refusal r ≡ true → new ≡ old
refused_keeps kind q old new r (inl changed) stays e = elim (true_or_false (is_read q)) [
  | inr other ↦ absurd (never (sym (ap is_refusal (changed.reply other) ∙ no_refusal kind (told_world old) q) ∙ e))
  | inl reads ↦ absurd (never (sym (ap is_refusal (changed.read reads).1) ∙ e))
]
refused_keeps kind q old new r (inr starved) stays e =
    let table : new.grants ≡ old.grants = starved.table ∙ ap (with_sessions old.grants) (begin_keeps kind (told_world old) old.grants.sessions q starved.begin).1 in
    let volume : new.volume ≡ old.volume = stays (begin_asks q starved.begin) in
    λ i. record { volume = volume i; grants = table i }

-- so what is refused then asks nothing, as a begin does
pub refused_asks : (kind : PlaceKind) (w : World) (old new : Table) (q : Request) (r : Reply) → (IsChanged kind w old q r new ⊎ IsStarved old q r new) → (is_refusal r || asks_nothing q) ≡ true → asks_nothing q ≡ true
refused_asks kind w old new q r (inl changed) e = subst (λ (t : Bool). (t || asks_nothing q) ≡ true) unrefused e
  where
    unrefused : is_refusal r ≡ false
    unrefused = elim (true_or_false (is_read q)) [
      | inr other ↦ ap is_refusal (changed.reply other) ∙ no_refusal kind w q
      | inl reads ↦ ap is_refusal (changed.read reads).1
    ]
refused_asks kind w old new q r (inr starved) e = begin_asks q starved.begin

granted_risen : (told : Type 0) (kind : PlaceKind) (q : Request) (old new : Core) (v w : View) (result : Result Reply Failed) → IsCoreReady old → IsKnown old.volume → IsTable old.grants
    → (told → IsCoreAt old v) → ◌≡◌ {A = Option Rule} (verdict (told_world old) old.grants.sessions q) None
    → IsCarriedOut told kind q (risen_in old q) new v w result → (asks_nothing q ≡ true → new.volume ≡ old.volume) → (asks_nothing q ≡ true → IsOk result)
    → IsApplied told kind q old new v w result
granted_risen told kind q old new v w result ready known table at granted carried stays answered =
    let does = carried.volume in
    let op = does.operation in
    let t = told_world old in
    let there : told → IsVolumeAt old.volume v = λ h. at_volume old v (at h) in
    let like : told → AreLike t (world_on v) = λ h. like_at old.volume v (there h) in
    let here : told → IsOver old.grants t (world_on v) = λ h. over old (world_on v) ready known table (like h) in
    let same : told → made_by t q ≡ made_in (state_on old v.reads) q = λ h. made_granted old q (world_on v) (here h) granted in
    let inside : AreInside old.volume.tables.geometry (bytes_given kind t q) =
    subst (λ (g : Geometry). AreInside g (bytes_given kind t q)) known.geometry (given_inside kind t old.grants.sessions q known.sized granted) in
    let next : told → world_after kind (world_on v) q ≡ next_world kind (state_on old v.reads) q = λ h. sym (ap (λ (o : Outcome). o.state.world) (step_over kind old.grants t (world_on v) q (here h) granted)) in
    record {
      ready = and_ok3 result (λ r kept a b like_new. record { volume = a; unspent = b; made = made_after kind old q (told_world new) new.grants ready.made like_new (same_blocks kind old q r new.grants kept) }) carried.kept does.ready op.unspent does.like;
      at = λ h. then_ok result (at_core new w) (op.at h);
      form = carried.form;
      given = λ h. and_ok result (λ r kept bytes a done. given_over kind q old new.grants (world_on v) (told_world new) (world_on w) r (here h) granted (like_at new.volume w a) done (kept_in kind old q r new.grants kept) bytes) carried.kept (carried.bytes h) (op.at h) (op.done h);
      told_given = if_kept result (λ r kept like_new. told_answer kind q old new r ready known table granted like_new kept) carried.kept does.like;
      refused = if_map result (λ r kept e. refused_keeps kind q old new r kept stays e) carried.kept;
      refusal = subst (λ (x : Option Rule). IfSome x (λ rule. result ≡ Ok (reply.Refused rule))) (sym (verdict_as_told old q ready known table ∙ granted)) tt;
      answered = answered;
      size = record { geometry = op.geometry; version = does.version };
      spent = op.spent;
      sent = op.sent;
      data_kept = op.data_kept;
      behind = λ h. leaves_behind result old.volume.tables.geometry (bytes_given kind t q) v w inside (op.data_kept h);
      once = does.once;
      owes = if_kept result (λ r form owes e. owes) carried.form does.owes;
      grown = λ b. if_kept result (λ r form grown e. grown) carried.form (does.grown b);
      rests = does.rests;
      any_moment = λ h. subst (LeavesEither v w) (next h) (op.any_moment h);
      debt = λ h b. owes old.volume v w (world_after kind (world_on v) q) (made_by t q) (made_in (state_on old v.reads) q) (there h) (same h) (does.any_owed h b) (op.any_moment h);
      paid = λ h b. then_ok result (λ (p : w.writes + due new.volume ≤ v.writes + due old.volume + cost_of t q). omega (arith, p, same h)) (does.paid b);
      most = λ h b. omega (arith, does.most b, same h);
      limit = does.limit;
      new_paid = does.new_paid;
      new_most = does.new_most;
      sweep_paid = does.sweep_paid;
      swept = does.swept;
      works = op.works;
      faults = op.faults;
    }

-- from the core once levels have risen
pub granted_applied : (told : Type 0) (kind : PlaceKind) (q : Request) (old mid new : Core) (v w : View) (result : Result Reply Failed) → IsCoreReady old → IsKnown old.volume → IsTable old.grants
    → (told → IsCoreAt old v) → ◌≡◌ {A = Option Rule} (verdict (told_world old) old.grants.sessions q) None
    → mid.volume ≡ old.volume → mid.grants ≡ with_sessions old.grants (raised_by (told_world old) old.grants.sessions q)
    → IsCarriedOut told kind q mid new v w result → (asks_nothing q ≡ true → new.volume ≡ mid.volume) → (asks_nothing q ≡ true → IsOk result)
    → IsApplied told kind q old new v w result
granted_applied told kind q old mid new v w result ready known table at granted volume grants carried stays answered =
    let risen : mid ≡ risen_in old q = λ i. record { volume = volume i; grants = grants i } in
    granted_risen told kind q old new v w result ready known table at granted (subst (λ (m : Core). IsCarriedOut told kind q m new v w result) risen carried) (λ e. stays e ∙ volume) answered
