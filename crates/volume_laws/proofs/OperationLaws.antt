-- Operations, one after another and of a batch that is committed.
use Rattle.std.proofs.Common.{◌≡◌, ℕ, ◌+◌, ◌*◌, ◌≤◌, inl, Bool, true, false, List, [], length, refl, sym, ◌∙◌, ap, subst, arith, Result, Ok, Err}
use Rattle.volume_laws.proofs.Common.{OnOk, OnErr, IsErrAnd, is_err, World, Geometry, Uses, LeavesOnly, IsFirm, View, IsSound, Failed, weakened, joined, Patch, IsBeforeOrAfter, home, overlaid, is_journal, AgreeBut, JournalRecord, IsRingAt, committed, commit_writes, checkpoint_writes, data_on, tables_of, LeavesEither, LeavesWorld, LeavesOwed, StandsForEither, owed, IsOperation, IsWithin, KeepsData, Volume, IsVolumeAt, world_on, Works, due, IsPaid, batch_cost, lost_cost}
use Rattle.image_device.specs.Counts.{CountsFault}
use Rattle.volume_laws.proofs.Allocated.{then_moments, change_first}
use Rattle.volume_laws.proofs.Committed.{ok_map}
use Rattle.volume_laws.proofs.Idle.{idle_either, idle_owed}
use Rattle.volume_laws.proofs.Costs.{commit_pays}
use Rattle.volume_laws.proofs.DataLaws.{data_answers, data_fails, data_same_failure, data_then, then_data, data_none, data_committed}
use Rattle.volume_laws.proofs.Ops.{IsOp, op_at, op_done, op_moments, op_paid}
use Rattle.volume_laws.proofs.StepOps.{either_same, owed_moments}

-- ---- what a crash leaves
pub as_either : (old new : View) (w : World) → LeavesWorld old new → LeavesEither old new w
as_either old new w leaves = weakened old new _ (λ x f. StandsForEither (world_on old) w x × (f ≡ old.sent)) leaves (λ x f left. (inl left.0, left.1))

-- ---- counts
pub works_of : (n : ℕ) (old new : View) → Uses n old new → Works old new
works_of n old new uses = record { clock = uses.clock; faults = uses.faults; put_faults = uses.put_faults; writes = uses.writes }

pub works_none : (v : View) → Works v v
works_none v = record { clock = omega arith; faults = omega arith; put_faults = refl; writes = omega arith }

pub works_joined : (old mid new : View) → Works old mid → Works mid new → Works old new
works_joined old mid new a b = record {
  clock = omega (arith, a.clock, b.clock);
  faults = omega (arith, a.faults, b.faults);
  put_faults = b.put_faults ∙ a.put_faults;
  writes = omega (arith, a.writes, b.writes);
}

-- a volume is spent where the call failed
pub spent_unless_ok : {T E : Type 0} (r : Result T E) (spent : Bool) → spent ≡ is_err r → OnOk r (spent ≡ false)
spent_unless_ok (Ok x) spent is = is
spent_unless_ok (Err e) spent is = tt

pub spent_on_err : {T E : Type 0} (r : Result T E) (spent : Bool) → spent ≡ is_err r → OnErr r (spent ≡ true)
spent_on_err (Ok x) spent is = tt
spent_on_err (Err e) spent is = is

module _ {T : Type 0} {bs : List ℕ} (told : Type 0) (change : World → World) (a b : Volume) (u v : View) where
  -- of a call that keeps the world a crash leaves the world before
  pub kept_moments : (r : Result T Failed) → IsOperation told bs (λ w. w) a b u v r → told → LeavesWorld u v
  kept_moments r op t = either_same u v (op.any_moment t)

  -- the volume is ready then, or not
  pub op_ready : (r : Result T Failed) (c : Volume) (is_ready : Bool) → c ≡ record b { is_ready = is_ready } → IsOperation told bs change a b u v r → IsOperation told bs change a c u v r
  op_ready r c is_ready same op = subst (λ (x : Volume). IsOperation told bs change a x u v r) (sym same) (record {
    at = λ t. ok_map r _ _ (λ (at : IsVolumeAt b v). record { firm = at.firm; ring = at.ring; good = at.good; tables = at.tables }) (op.at t);
    done = op.done;
    any_moment = op.any_moment;
    sent = op.sent;
    unspent = op.unspent;
    spent = op.spent;
    faults = op.faults;
    works = op.works;
    data_kept = op.data_kept;
    geometry = op.geometry;
  })

  -- it makes another change that is the same here
  pub op_as : (r : Result T Failed) (other : World → World) → (told → change (world_on u) ≡ other (world_on u)) → IsOperation told bs change a b u v r → IsOperation told bs other a b u v r
  op_as r other same op = record {
    at = op.at;
    done = λ t. ok_map r _ _ (λ (done : world_on v ≡ change (world_on u)). done ∙ same t) (op.done t);
    any_moment = λ t. subst (λ (w : World). LeavesEither u v w) (same t) (op.any_moment t);
    sent = op.sent;
    unspent = op.unspent;
    spent = op.spent;
    faults = op.faults;
    works = op.works;
    data_kept = op.data_kept;
    geometry = op.geometry;
  }

  -- whatever it answers, and whatever its failure is handed on as
  pub op_answers : {U : Type 0} (x : T) (y : U) → IsOperation {T = T} told bs change a b u v (Ok x) → IsOperation {T = U} told bs change a b u v (Ok y)
  op_answers x y op = record {
    at = op.at;
    done = op.done;
    any_moment = op.any_moment;
    sent = op.sent;
    data_kept = λ t. data_answers a.tables.geometry bs u v x y (op.data_kept t);
    unspent = op.unspent;
    spent = tt;
    faults = op.faults;
    works = op.works;
    geometry = op.geometry;
  }

  pub op_fails : {U : Type 0} (e : Failed) (Q : Failed → Type 0) (r : Result U Failed) → IsErrAnd r Q → IsOperation {T = T} told bs change a b u v (Err e) → IsOperation told bs change a b u v r
  op_fails e Q (Ok y) is op = absurd is
  op_fails e Q (Err f) is op = record {
    at = λ t. tt;
    done = λ t. tt;
    any_moment = op.any_moment;
    sent = op.sent;
    data_kept = λ t. data_same_failure a.tables.geometry bs u v e f (op.data_kept t);
    unspent = tt;
    spent = op.spent;
    faults = op.faults;
    works = op.works;
    geometry = op.geometry;
  }

-- A call that keeps the world failed, of one that changes it.
pub kept_fails : {T U : Type 0} {bs : List ℕ} (told : Type 0) (change : World → World) (a b : Volume) (u v : View) (e : Failed) (Q : Failed → Type 0) (r : Result U Failed) → IsErrAnd r Q → IsOperation {T = T} told [] (λ w. w) a b u v (Err e) → IsOperation told bs change a b u v r
kept_fails told change a b u v e Q (Ok y) is op = absurd is
kept_fails {bs = bs} told change a b u v e Q (Err f) is op = record {
  at = λ t. tt;
  done = λ t. tt;
  any_moment = λ t. as_either u v (change (world_on u)) (either_same u v (op.any_moment t));
  sent = op.sent;
  unspent = tt;
  spent = op.spent;
  faults = op.faults;
  works = op.works;
  data_kept = λ t. data_fails a.tables.geometry bs u v e f (op.data_kept t);
  geometry = op.geometry;
}

-- the same of one that gave bytes to the same blocks
pub kept_failed : {T U : Type 0} {bs : List ℕ} (told : Type 0) (change : World → World) (a b : Volume) (u v : View) (e : Failed) (Q : Failed → Type 0) (r : Result U Failed) → IsErrAnd r Q → IsOperation {T = T} told bs (λ w. w) a b u v (Err e) → IsOperation told bs change a b u v r
kept_failed told change a b u v e Q (Ok y) is op = absurd is
kept_failed {bs = bs} told change a b u v e Q (Err f) is op = record {
  at = λ t. tt;
  done = λ t. tt;
  any_moment = λ t. as_either u v (change (world_on u)) (either_same u v (op.any_moment t));
  sent = op.sent;
  unspent = tt;
  spent = op.spent;
  faults = op.faults;
  works = op.works;
  data_kept = λ t. data_same_failure a.tables.geometry bs u v e f (op.data_kept t);
  geometry = op.geometry;
}

-- no call is made
pub no_op : {T : Type 0} (told : Type 0) (vol : Volume) (v : View) (x : T) → (told → IsSound v) → (told → IsVolumeAt vol v) → vol.is_spent ≡ false → IsOperation {T = T} told [] (λ w. w) vol vol v v (Ok x)
no_op told vol v x sound at unspent = record {
  at = at;
  done = λ t. refl;
  any_moment = λ t. idle_either vol v (sound t) (at t);
  sent = λ t. refl;
  data_kept = λ t. data_none vol.tables.geometry [] v x (sound t) (at t).firm;
  unspent = unspent;
  spent = tt;
  faults = refl;
  works = works_none v;
  geometry = refl;
}

pub faults_after : {T : Type 0} (r : Result T Failed) (a b c : ℕ) → b ≡ a → CountsFault r b c → CountsFault r a c
faults_after r a b c same counts = subst (λ (n : ℕ). CountsFault r n c) same counts

module _ {T U : Type 0} {bs : List ℕ} (told : Type 0) (change : World → World) (a b c : Volume) (u v w : View) (x : T) (r : Result U Failed) where
  -- a call that keeps the world, and then another
  pub kept_then : IsOperation {T = T} told [] (λ z. z) a b u v (Ok x) → IsOperation told bs change b c v w r → IsOperation told bs change a c u w r
  kept_then one two = record {
    at = two.at;
    done = λ t. ok_map r _ _ (λ (done : world_on w ≡ change (world_on v)). done ∙ ap change (one.done t)) (two.done t);
    any_moment = λ t. then_moments u v w change (either_same u v (one.any_moment t)) (one.done t) (one.sent t) (two.any_moment t);
    sent = λ t. two.sent t ∙ one.sent t;
    data_kept = λ t. data_then a.tables.geometry b.tables.geometry bs u v w x r one.geometry (one.data_kept t) (two.data_kept t);
    unspent = two.unspent;
    spent = two.spent;
    faults = faults_after r u.faults v.faults w.faults one.faults two.faults;
    works = works_joined u v w one.works two.works;
    geometry = two.geometry ∙ one.geometry;
  }

  -- a call that changes the world, and then one that keeps it
  pub then_kept : IsOperation {T = T} told bs change a b u v (Ok x) → IsOperation told [] (λ z. z) b c v w r → IsOperation told bs change a c u w r
  then_kept one two = record {
    at = two.at;
    done = λ t. ok_map r _ _ (λ (done : world_on w ≡ world_on v). done ∙ one.done t) (two.done t);
    any_moment = λ t. change_first u v w change (one.any_moment t) (one.done t) (one.sent t) (either_same v w (two.any_moment t));
    sent = λ t. two.sent t ∙ one.sent t;
    data_kept = λ t. then_data a.tables.geometry b.tables.geometry bs u v w x r one.geometry (one.data_kept t) (two.data_kept t);
    unspent = two.unspent;
    spent = two.spent;
    faults = faults_after r u.faults v.faults w.faults one.faults two.faults;
    works = works_joined u v w one.works two.works;
    geometry = two.geometry ∙ one.geometry;
  }

-- A batch is committed that changes the volume's tables.
pub committed_op : {T : Type 0} (told : Type 0) (r : Result T Failed) (fit : (ℕ → List ℕ) → Type 0) (vol now : Volume) (old new : View) (batch : List Patch) (homes more most : ℕ) (change : World → World)
    → IsOp fit vol now.tables batch homes more change → (told → IsVolumeAt vol old) → (told → fit (data_on (home old.reads)))
    → (told → OnOk r (AgreeBut is_journal (overlaid batch (home old.reads)) (home new.reads))) → (told → OnOk r (IsRingAt now.ring new)) → (told → OnOk r (IsFirm new))
    → (told → LeavesOnly old new (λ x f. IsBeforeOrAfter batch old x × (f ≡ old.sent))) → (told → new.sent ≡ old.sent) → Uses most old new → CountsFault r old.faults new.faults
    → now.is_spent ≡ is_err r → now.tables.geometry ≡ vol.tables.geometry
    → IsOperation told [] change vol now old new r
committed_op told r fit vol now old new batch homes more most change op at fits done ring firm leaves sent uses faults spent size = record {
  at = λ t. op_at r fit vol now old new batch homes more change op (at t) (fits t) (done t) (ring t) (firm t);
  done = λ t. op_done r fit vol now old new batch homes more change op (at t) (fits t) (done t) (ring t) (firm t);
  any_moment = λ t. op_moments fit vol now old new batch homes more change op (at t) (fits t) (leaves t);
  sent = sent;
  data_kept = λ t. data_committed r vol.tables.geometry [] old new batch (λ n from out. (at t).firm n) (λ z n from out. op.turns.contents z n from) (done t) (leaves t);
  unspent = spent_unless_ok r now.is_spent spent;
  spent = spent_on_err r now.is_spent spent;
  faults = faults;
  works = works_of most old new uses;
  geometry = size;
}

-- ---- costs

-- what a crash leaves of two runs, one after the other
owed_after : (u v w : View) (few more most : ℕ) → LeavesOwed u v few → LeavesOwed v w more → few ≤ most → more ≤ most → LeavesOwed u w most
owed_after u v w few more most one two less also = joined u v w _ _ (weakened u v (λ x f. owed (tables_of (home x)) ≤ few) (λ x f. owed (tables_of (home x)) ≤ most) one (λ x f left. omega (arith, left, less))) two (λ x f left. omega (arith, left, also))

module _ {T U : Type 0} (told : Type 0) (a b c : Volume) (u v w : View) (x : T) (r : Result U Failed) where
  -- A call that costs at most `ca`, and then one at most `cb`. What it writes itself is paid for by what was due.
  pub within_then : (oa ca ma ob cb mb owes cost most : ℕ) → IsWithin {T = T} told oa ca ma a b u v (Ok x) → IsWithin told ob cb mb b c v w r
      → oa ≤ owes → ob ≤ owes → ca + cb ≤ cost → due a + (ca + mb) ≤ due b + most → IsWithin told owes cost most a c u w r
  within_then oa ca ma ob cb mb owes cost most one two o1 o2 costs writes = record {
    any_owed = λ t. owed_after u v w oa ob owes (one.any_owed t) (two.any_owed t) o1 o2;
    paid = ok_map r _ _ (λ (paid : IsPaid cb b v c w). let first = one.paid in omega (arith, paid, first, costs)) two.paid;
    uses = let first = one.paid in record {
      clock = omega (arith, one.uses.clock, two.uses.clock);
      faults = omega (arith, one.uses.faults, two.uses.faults);
      put_faults = two.uses.put_faults ∙ one.uses.put_faults;
      writes = omega (arith, one.uses.writes, two.uses.writes);
      most = omega (arith, first, two.uses.most, writes);
    };
  }

module _ {T : Type 0} (told : Type 0) (owes cost most : ℕ) (a b : Volume) (u v : View) where
  pub within_answers : {U : Type 0} (x : T) (y : U) → IsWithin {T = T} told owes cost most a b u v (Ok x) → IsWithin {T = U} told owes cost most a b u v (Ok y)
  within_answers x y within = record { any_owed = within.any_owed; paid = within.paid; uses = within.uses }

  pub within_ready : (r : Result T Failed) (c : Volume) (is_ready : Bool) → c ≡ record b { is_ready = is_ready } → IsWithin told owes cost most a b u v r → IsWithin told owes cost most a c u v r
  within_ready r c is_ready same within = subst (λ (x : Volume). IsWithin told owes cost most a x u v r) (sym same) (record { any_owed = within.any_owed; paid = within.paid; uses = within.uses })

  pub within_more : (more : ℕ) (r : Result T Failed) → IsWithin told owes cost most a b u v r → most ≤ more → IsWithin told owes cost more a b u v r
  within_more more r within writes = record {
    any_owed = within.any_owed;
    paid = within.paid;
    uses = record {
      clock = within.uses.clock;
      faults = within.uses.faults;
      put_faults = within.uses.put_faults;
      writes = within.uses.writes;
      most = omega (arith, within.uses.most, writes);
    };
  }

  -- its failure is handed on by a call that may cost more
  pub within_fails : {U : Type 0} (owes_then cost_then most_then : ℕ) (e : Failed) (Q : Failed → Type 0) (r : Result U Failed) → IsErrAnd r Q → IsWithin {T = T} told owes cost most a b u v (Err e)
      → owes ≤ owes_then → most ≤ most_then → IsWithin told owes_then cost_then most_then a b u v r
  within_fails owes_then cost_then most_then e Q (Ok y) is within left writes = absurd is
  within_fails owes_then cost_then most_then e Q (Err f) is within left writes = record {
    any_owed = λ t. weakened u v (λ x f. owed (tables_of (home x)) ≤ owes) (λ x f. owed (tables_of (home x)) ≤ owes_then) (within.any_owed t) (λ x f now. omega (arith, now, left));
    paid = tt;
    uses = record {
      clock = within.uses.clock;
      faults = within.uses.faults;
      put_faults = within.uses.put_faults;
      writes = within.uses.writes;
      most = omega (arith, within.uses.most, writes);
    };
  }

-- no call is made
pub none_within : {T : Type 0} (told : Type 0) (vol : Volume) (v : View) (x : T) (most : ℕ) → (told → IsSound v) → (told → IsVolumeAt vol v) → IsWithin {T = T} told (owed vol.tables) 0 most vol vol v v (Ok x)
none_within told vol v x most sound at = record {
  any_owed = λ t. idle_owed vol v (sound t) (at t);
  paid = omega arith;
  uses = record { clock = omega arith; faults = omega arith; put_faults = refl; writes = omega arith; most = omega arith };
}

-- how often a commit writes
pub committed_uses : (vol : Volume) (rs : List JournalRecord) (old new : View) (batch : List Patch) (homes : ℕ) → length batch ≤ homes → rs ≡ vol.ring → Uses (commit_writes rs batch) old new → Uses (checkpoint_writes vol.ring + batch_cost homes) old new
committed_uses vol rs old new batch homes few is uses =
    let same : checkpoint_writes rs ≡ checkpoint_writes vol.ring = ap checkpoint_writes is in
    record { clock = uses.clock; faults = uses.faults; put_faults = uses.put_faults; writes = uses.writes; most = omega (arith, same, commit_pays rs batch, uses.most, few) }

-- A batch is committed.
pub committed_within : {T : Type 0} (told : Type 0) (r : Result T Failed) (fit : (ℕ → List ℕ) → Type 0) (vol now : Volume) (rs : List JournalRecord) (old new : View) (batch : List Patch) (homes more owes cost : ℕ) (change : World → World)
    → IsOp fit vol now.tables batch homes more change → (told → IsVolumeAt vol old) → rs ≡ vol.ring
    → (told → LeavesOnly old new (λ x f. IsBeforeOrAfter batch old x × (f ≡ old.sent))) → Uses (commit_writes rs batch) old new → OnOk r (now.ring ≡ committed rs batch)
    → owed vol.tables + more ≤ owes → batch_cost homes + lost_cost * more ≤ cost
    → IsWithin told owes cost (checkpoint_writes vol.ring + batch_cost homes) vol now old new r
committed_within told r fit vol now rs old new batch homes more owes cost change op at is leaves uses records left pays = record {
  any_owed = λ t. owed_moments vol old new batch now.tables owes (at t) op.turns (omega (arith, left)) (omega (arith, left, op.owes)) (leaves t);
  paid = ok_map r _ _ (λ (paid : IsPaid (batch_cost homes + lost_cost * more) vol old now new). omega (arith, paid, pays))
      (op_paid r fit vol now rs old new batch homes more change op is uses records);
  uses = committed_uses vol rs old new batch homes op.few is uses;
}
