-- A step of reclamation as an operation: the world stays, and less is owed.
use Rattle.std.proofs.Common.{◌≡◌, ℕ, ◌+◌, ◌*◌, ◌<◌, ◌≤◌, Bool, true, false, cond, inl, inr, ⊎_elim, List, length, refl, sym, ◌∙◌, ap, subst, arith, Result, Ok, Err}
use Rattle.volume_laws.proofs.Common.{OnOk, doomed, settle, World, Uses, View, LeavesOnly, weakened, Image, Patch, IsBefore, IsAfter, IsBeforeOrAfter, home, JournalRecord, committed, commit_writes, checkpoint_writes, stepped, graph_of_same, lost_by_graph, step_by_graph, settle-stepped, doomed_size, step_lowers, OutStep, Tables, tables_of, world_with, left_of, Stands, alike_tables, has_one, IsStepNext, graph_in, owed, LeavesEither, LeavesWorld, LeavesOwed, IsStepPut, IsStepped, Turns, Volume, IsVolumeAt, world_on, batch_cost, due, IsPaid, alike_outside, world_graph}
use Rattle.volume_laws.proofs.Changed.{turned_had}
use Rattle.volume_laws.proofs.Costs.{commit_pays}
use Rattle.volume_laws.proofs.Ops.{any_bytes, IsOp}
use Rattle.volume_laws.proofs.StepWorlds.{world_stepped, graph_stepped}
use Rattle.volume_laws.proofs.TableWorlds.{laid_out, graph_laid_out}

-- ---- what is owed
pub step_owed : (t now : Tables) (s : OutStep) → IsStepNext t s → IsStepped t now s.block s.targets s.freed → owed t ≡ owed now + (cond s.freed 1 0 + length s.targets)
step_owed t now s next is =
    let then : owed now ≡ doomed_size (stepped (graph_in t) s.block s.targets s.freed) = ap doomed_size (graph_stepped t now s.block s.targets s.freed is) in
    let less = step_lowers (graph_in t) s.block s.targets (graph_laid_out t) next.may.lost s.freed next.may.step in
    omega (arith, then, less.0, less.1)

-- so many blocks fewer are doomed
pub step_blocks : (t now : Tables) (s : OutStep) → IsStepNext t s → IsStepped t now s.block s.targets s.freed → length (doomed (graph_in t)) ≡ cond s.freed 1 0 + length (doomed (graph_in now))
step_blocks t now s next is =
    let then = ap (λ (w : World). length (doomed w)) (graph_stepped t now s.block s.targets s.freed is) in
    let less = step_lowers (graph_in t) s.block s.targets (graph_laid_out t) next.may.lost s.freed next.may.step in
    omega (arith, then, less.0)

-- ---- the world
pub still_left : (t : Tables) (w : World) → t.is_sweeping ≡ false → left_of t w ≡ settle w
unfolding left_of
still_left t w still = rw still refl

pub step_left : (t now : Tables) (s : OutStep) (c : ℕ → List ℕ) → t.is_sweeping ≡ false → IsStepNext t s → IsStepped t now s.block s.targets s.freed → left_of now (world_with now c) ≡ left_of t (world_with t c)
step_left t now s c still next is =
    let same = graph_of_same (world_with t c) (graph_in t) (world_graph t c) in
    still_left now (world_with now c) (ap (λ (u : Tables). u.is_sweeping) is.same ∙ still)
    ∙ (ap settle (world_stepped t now s.block s.targets s.freed c is)
    ∙ (settle-stepped (world_with t c) s.block s.targets s.freed (laid_out t c) (lost_by_graph (graph_in t) (world_with t c) same s.block next.may.lost)
    (step_by_graph (graph_in t) (world_with t c) same s.block s.targets s.freed next.may.step)
    ∙ sym (still_left t (world_with t c) still)))

-- all of it
pub record IsStepOf (vol : Volume) (s : OutStep) (now : Tables) (batch : List Patch) : Type 0 where
  pub op : IsOp any_bytes vol now batch 33 0 (λ w. w)
  pub blocks : length (doomed (graph_in vol.tables)) ≤ length (doomed (graph_in now)) + 1
  pub most : owed vol.tables ≤ owed now + 17
  pub takes : owed vol.tables ≡ owed now + (cond s.freed 1 0 + length s.targets)
  pub cheap : batch_cost (length batch) ≤ 5 * (cond s.freed 1 0 + length s.targets)
  pub some : 0 < cond s.freed 1 0 + length s.targets

pub step_of : (vol : Volume) (s : OutStep) (now : Tables) (batch : List Patch) → vol.tables.is_sweeping ≡ false → IsStepNext vol.tables s → IsStepPut vol.tables s now batch → IsStepOf vol s now batch
step_of vol s now batch still next put =
    let takes = step_owed vol.tables now s next put.stepped in
    let few = put.few in
    record {
      op = record {
        turns = put.turns;
        zeros = tt;
        world = λ c fits. step_left vol.tables now s c still next put.stepped;
        few = let most = next.may.few in let one = one_most s.freed in omega (arith, few, most, one);
        owes = omega (arith, takes);
      };
      blocks = let one = one_most s.freed in omega (arith, one, step_blocks vol.tables now s next put.stepped);
      most = let most = next.may.few in let one = one_most s.freed in omega (arith, takes, most, one);
      takes = takes;
      cheap = elim next.wide [
        | inl f ↦ let one : ◌≡◌ {A = ℕ} (cond s.freed 1 0) 1 = ap (λ t. cond t 1 0) f in omega (arith, one, few)
        | inr all ↦ let one = one_most s.freed in omega (arith, one, all, few)
      ];
      some = elim next.wide [
        | inl f ↦ let one : ◌≡◌ {A = ℕ} (cond s.freed 1 0) 1 = ap (λ t. cond t 1 0) f in omega (arith, one)
        | inr all ↦ omega (arith, all)
      ];
    }
  where
    one_most : (f : Bool) → cond f 1 0 ≤ 1
    one_most true = omega arith
    one_most false = omega arith

-- ---- costs
pub step_paid : {T E : Type 0} (r : Result T E) (vol now : Volume) (s : OutStep) (rs : List JournalRecord) (old new : View) (batch : List Patch) → IsStepOf vol s now.tables batch
    → rs ≡ vol.ring → Uses (commit_writes rs batch) old new → OnOk r (now.ring ≡ committed rs batch) → OnOk r (IsPaid 0 vol old now new)
step_paid (Ok u) vol now s rs old new batch this is uses records =
    let e : checkpoint_writes now.ring ≡ checkpoint_writes (committed rs batch) = ap checkpoint_writes records in
    let same : checkpoint_writes rs ≡ checkpoint_writes vol.ring = ap checkpoint_writes is in
    omega (arith, e, same, commit_pays rs batch, uses.most, this.takes, this.cheap)
step_paid (Err f) vol now s rs old new batch this is uses records = tt

pub step_used : {T E : Type 0} (r : Result T E) (vol now : Volume) (s : OutStep) (rs : List JournalRecord) (old new : View) (batch : List Patch) → IsStepOf vol s now.tables batch
    → rs ≡ vol.ring → Uses (commit_writes rs batch) old new → OnOk r (now.ring ≡ committed rs batch) → OnOk r (new.writes + checkpoint_writes now.ring ≤ old.writes + checkpoint_writes vol.ring + batch_cost 33)
step_used (Ok u) vol now s rs old new batch this is uses records =
    let e : checkpoint_writes now.ring ≡ checkpoint_writes (committed rs batch) = ap checkpoint_writes records in
    let same : checkpoint_writes rs ≡ checkpoint_writes vol.ring = ap checkpoint_writes is in
    omega (arith, e, same, commit_pays rs batch, uses.most, this.op.few)
step_used (Err f) vol now s rs old new batch this is uses records = tt

pub step_uses : (vol : Volume) (now : Tables) (s : OutStep) (rs : List JournalRecord) (old new : View) (batch : List Patch) → IsStepOf vol s now batch → rs ≡ vol.ring → Uses (commit_writes rs batch) old new → Uses (due vol) old new
step_uses vol now s rs old new batch this is uses = record {
  clock = uses.clock;
  faults = uses.faults;
  put_faults = uses.put_faults;
  writes = uses.writes;
  most = let same : checkpoint_writes rs ≡ checkpoint_writes vol.ring = ap checkpoint_writes is in omega (arith, uses.most, same, commit_pays rs batch, this.takes, this.cheap);
}

pub step_most : (vol : Volume) (now : Tables) (s : OutStep) (rs : List JournalRecord) (old new : View) (batch : List Patch) → IsStepOf vol s now batch → rs ≡ vol.ring → Uses (commit_writes rs batch) old new → Uses (checkpoint_writes vol.ring + batch_cost 33) old new
step_most vol now s rs old new batch this is uses = record {
  clock = uses.clock;
  faults = uses.faults;
  put_faults = uses.put_faults;
  writes = uses.writes;
  most = let same : checkpoint_writes rs ≡ checkpoint_writes vol.ring = ap checkpoint_writes is in omega (arith, uses.most, same, commit_pays rs batch, this.op.few);
}

-- ---- images
pub either_same : (old new : View) → LeavesEither old new (world_on old) → LeavesWorld old new
either_same old new leaves = weakened old new _ (λ x f. Stands x (world_on old) × (f ≡ old.sent)) leaves (λ x f left. (⊎_elim (λ s. s) (λ s. s) left.0, left.1))

pub before_tables : (vol : Volume) (old : View) (x : Image) → IsVolumeAt vol old → IsBefore old x → tables_of (home x) ≡ vol.tables
before_tables vol old x at before = alike_tables (home old.reads) (home x) at.good.header (alike_outside (home old.reads) (home x) (λ n out. before.stands n (rw (out, at.firm n) refl))) ∙ at.tables

pub after_tables : (vol : Volume) (old : View) (x : Image) (batch : List Patch) (now : Tables) → IsVolumeAt vol old → Turns vol.tables now batch → IsAfter batch old x → tables_of (home x) ≡ now
after_tables vol old x batch now at turns after = has_one now (home x) turns.sound (turned_had vol old x batch now at turns after.stands)

-- what is owed in the images that a commit leaves
pub owed_moments : (vol : Volume) (old new : View) (batch : List Patch) (now : Tables) (most : ℕ) → IsVolumeAt vol old → Turns vol.tables now batch → owed vol.tables ≤ most → owed now ≤ most
    → LeavesOnly old new (λ x f. IsBeforeOrAfter batch old x × (f ≡ old.sent)) → LeavesOwed old new most
owed_moments vol old new batch now most at turns here then leaves =
    weakened old new _ (λ x f. owed (tables_of (home x)) ≤ most) leaves (λ x f left. ⊎_elim
    (λ before. subst (λ (t : Tables). owed t ≤ most) (sym (before_tables vol old x at before)) here)
    (λ after. subst (λ (t : Tables). owed t ≤ most) (sym (after_tables vol old x batch now at turns after)) then) left.0)

-- by an operation that owes no more
pub op_owed : (fit : (ℕ → List ℕ) → Type 0) (vol : Volume) (old new : View) (now : Tables) (batch : List Patch) (homes : ℕ) (change : World → World) → IsOp fit vol now batch homes 0 change → IsVolumeAt vol old
    → LeavesOnly old new (λ x f. IsBeforeOrAfter batch old x × (f ≡ old.sent)) → LeavesOwed old new (owed vol.tables)
op_owed fit vol old new now batch homes change op at leaves = owed_moments vol old new batch now (owed vol.tables) at op.turns (omega arith) (let e = op.owes in omega (arith, e)) leaves
