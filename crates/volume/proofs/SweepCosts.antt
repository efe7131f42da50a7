-- What a sweep costs.
use Rattle.std.proofs.Common.{◌≡◌, ℕ, ◌+◌, ◌*◌, ◌≤◌, Bool, true, false, not, cond, List, length, refl, sym, ◌∙◌, ap, arith, Result, Ok, Err}
use Rattle.volume.proofs.Common.{OnOk, reach, restricted, swept, World, free_count, has_number, Geometry, HasGraphOf, free_count_by_graph, Uses, View, Patch, JournalRecord, committed, commit_writes, checkpoint_writes, graph_in, owed, world_with, zeros_of, blank_of, Tables, world_graph, OutStep, MaySweep, AreSweptBy, IsStepPut, Volume, told_by, batch_cost, due, lost_cost, IsPaid, Works, commit_pays, graph_size, swept_size, sweep_left, unswept, taken_cost, sweep_cost, left_cost, left_due}
use Rattle.tsd_model.proofs.SizeLaws.{length-filter_le}
use Rattle.volume.proofs.FinishLaws.{free_restricted, raw_is_left}
use Rattle.volume.proofs.SweepOps.{sweeping_left, sweep_takes, some_taken}

-- ---- how much there is

pub size_by_graph : (v w : World) → HasGraphOf v w → graph_size v ≡ graph_size w
size_by_graph v w same =
    let pairs : length v.pairs ≡ length w.pairs = ap (λ (es : List (ℕ × ℕ)). length es) same.pairs in
    let blocks : v.geometry.blocks ≡ w.geometry.blocks = ap (λ (g : Geometry). g.blocks) same.geometry in
    omega (arith, pairs, blocks, free_count_by_graph v w same)

size_restricted : (w : World) (keep : ℕ → Bool) → graph_size (restricted w keep) ≤ graph_size w
size_restricted w keep = omega (arith, length-filter_le (λ (e : ℕ × ℕ). keep e.0) w.pairs, free_restricted w keep)

-- an open sweep leaves no more than there is
least : (t : Tables) → t.is_sweeping ≡ true → graph_size (blank_of t) ≤ sweep_left t
least t sweeping =
    let w = world_with t (zeros_of t) in
    let left : graph_size (blank_of t) ≡ graph_size (swept w) = ap (λ (v : World). graph_size v) (sweeping_left t w sweeping) in
    omega (arith, left, size_restricted w (has_number (reach w)), size_by_graph w (graph_in t) (world_graph t (zeros_of t)))

-- once the flag is open, that is left which a sweep takes from the world before
pub opened_left : (old now : Volume) → old.tables.is_sweeping ≡ false → owed old.tables ≡ 0 → sweep_left now.tables ≡ sweep_left old.tables → told_by now ≡ swept (told_by old) → unswept now.tables ≡ swept_size (told_by old)
opened_left old now still none same told =
    let t = old.tables in
    let w = world_with t (zeros_of t) in
    let whole : graph_size (told_by old) ≡ graph_size w = ap (λ (v : World). graph_size v) (raw_is_left t still none) in
    let then : graph_size (told_by now) ≡ graph_size (swept (told_by old)) = ap (λ (v : World). graph_size v) told in
    omega (arith, same, whole, then, size_by_graph w (graph_in t) (world_graph t (zeros_of t)))

-- ---- a step

-- the batch of a step costs at most 7 for each pair and block that the step takes away
pub step_cheap : (t now : Tables) (s : OutStep) (batch : List Patch) → MaySweep (graph_in t) s → AreSweptBy (graph_in t) s → IsStepPut t s now batch → batch_cost (length batch) + taken_cost * sweep_left now ≤ taken_cost * sweep_left t
step_cheap t now s batch may kept put =
    let takes = sweep_takes t now s kept put.stepped in
    let some = some_taken (graph_in t) s may in
    omega (arith, takes, some, put.few)

-- what was written, and what is left, is at most what was left at the start
abbrev pub IsPaidSoFar : Volume → View → Volume → View → Type 0
IsPaidSoFar first start vol v = v.writes + checkpoint_writes vol.ring + taken_cost * sweep_left vol.tables ≤ start.writes + checkpoint_writes first.ring + taken_cost * sweep_left first.tables

module _ (first : Volume) (start : View) (vol : Volume) (v : View) (so_far : IsPaidSoFar first start vol v) where
  -- a step that was committed
  pub paid_more : (now : Volume) (new : View) (batch : List Patch) → Uses (commit_writes vol.ring batch) v new → now.ring ≡ committed vol.ring batch → batch_cost (length batch) + taken_cost * sweep_left now.tables ≤ taken_cost * sweep_left vol.tables → IsPaidSoFar first start now new
  paid_more now new batch uses ring cheap =
      let same : checkpoint_writes now.ring ≡ checkpoint_writes (committed vol.ring batch) = ap checkpoint_writes ring in
      omega (arith, so_far, same, commit_pays vol.ring batch, uses.most, cheap)

  -- one that failed
  pub paid_failed : (now : Volume) (new : View) (batch : List Patch) → Works start new → Uses (commit_writes vol.ring batch) v new → batch_cost (length batch) + taken_cost * sweep_left now.tables ≤ taken_cost * sweep_left vol.tables
      → now.tables.is_sweeping ≡ true → told_by now ≡ told_by first → Uses (checkpoint_writes first.ring + taken_cost * unswept first.tables) start new
  paid_failed now new batch works uses cheap sweeping told =
      let same : graph_size (told_by now) ≡ graph_size (told_by first) = ap (λ (w : World). graph_size w) told in
      record {
        clock = works.clock;
        faults = works.faults;
        put_faults = works.put_faults;
        writes = works.writes;
        most = omega (arith, so_far, commit_pays vol.ring batch, uses.most, cheap, least now.tables sweeping, same);
      }

  -- no step is left
  pub paid_all : vol.tables.is_sweeping ≡ true → told_by vol ≡ told_by first → v.writes + checkpoint_writes vol.ring ≤ start.writes + (checkpoint_writes first.ring + taken_cost * unswept first.tables)
  paid_all sweeping told =
      let same : graph_size (told_by vol) ≡ graph_size (told_by first) = ap (λ (w : World). graph_size w) told in
      omega (arith, so_far, least vol.tables sweeping, same)

  pub used_all : Works start v → vol.tables.is_sweeping ≡ true → told_by vol ≡ told_by first → Uses (checkpoint_writes first.ring + taken_cost * unswept first.tables) start v
  used_all works sweeping told = record {
    clock = works.clock;
    faults = works.faults;
    put_faults = works.put_faults;
    writes = works.writes;
    most = let all = paid_all sweeping told in omega (arith, all);
  }

-- ---- calls, one after another

-- a call that writes less
pub uses_most : (few most : ℕ) (u v : View) → few ≤ most → Uses few u v → Uses most u v
uses_most few most u v less one = record { clock = one.clock; faults = one.faults; put_faults = one.put_faults; writes = one.writes; most = omega (arith, one.most, less) }

-- no call
pub uses_none : (most : ℕ) (v : View) → Uses most v v
uses_none most v = record { clock = omega arith; faults = omega arith; put_faults = refl; writes = omega arith; most = omega arith }

-- a call that is paid for, and what is written then
pub uses_paid : (most left next : ℕ) (u v w : View) → Works u v → v.writes + left ≤ u.writes + most → Uses next v w → (rest : ℕ) → next ≤ left + rest → Uses (most + rest) u w
uses_paid most left next u v w works paid two rest within = record {
  clock = omega (arith, works.clock, two.clock);
  faults = omega (arith, works.faults, two.faults);
  put_faults = two.put_faults ∙ works.put_faults;
  writes = omega (arith, works.writes, two.writes);
  most = omega (arith, paid, two.most, within);
}

pub uses_then : (most left : ℕ) (u v w : View) → Works u v → v.writes + left ≤ u.writes + most → Uses left v w → Uses most u w
uses_then most left u v w works paid two = uses_most (most + 0) most u w (omega arith) (uses_paid most left left u v w works paid two 0 (omega arith))

-- ---- the flag

-- it is written
pub flag_paid : {T E : Type 0} (r : Result T E) (vol now : Volume) (rs : List JournalRecord) (batch : List Patch) (old new : View) → rs ≡ vol.ring → length batch ≤ 1 → Uses (commit_writes rs batch) old new → OnOk r (now.ring ≡ committed rs batch)
    → OnOk r (new.writes + checkpoint_writes now.ring ≤ old.writes + checkpoint_writes vol.ring + batch_cost 1)
flag_paid (Ok x) vol now rs batch old new is few uses ring =
    let then : checkpoint_writes now.ring ≡ checkpoint_writes (committed rs batch) = ap checkpoint_writes ring in
    let same : checkpoint_writes rs ≡ checkpoint_writes vol.ring = ap checkpoint_writes is in
    omega (arith, then, same, commit_pays rs batch, uses.most, few)
flag_paid (Err e) vol now rs batch old new is few uses ring = tt

-- and nothing is owed then
pub flag_due : {T E : Type 0} (r : Result T E) (vol now : Volume) (old new : View) → OnOk r (owed now.tables ≡ 0) → OnOk r (new.writes + checkpoint_writes now.ring ≤ old.writes + checkpoint_writes vol.ring + batch_cost 1)
    → OnOk r (new.writes + due now ≤ old.writes + checkpoint_writes vol.ring + batch_cost 1)
flag_due (Ok x) vol now old new none paid = omega (arith, none, paid)
flag_due (Err e) vol now old new none paid = tt

-- ---- a whole sweep: what is doomed, the flag that is opened, and the end

module _ (old mid : Volume) (v0 v1 v2 : View) (settled : IsPaid 0 old v0 mid v1) (first : Works v0 v1) (told : told_by mid ≡ told_by old) where
  pub sweep_begins : Uses (checkpoint_writes mid.ring + batch_cost 1) v1 v2 → Uses (due old + sweep_cost (told_by old)) v0 v2
  sweep_begins uses = uses_paid (due old) (checkpoint_writes mid.ring) (checkpoint_writes mid.ring + batch_cost 1) v0 v1 v2 first (omega (arith, settled)) uses (sweep_cost (told_by old)) (omega arith)

  module _ (opened : Volume) (begun : v2.writes + checkpoint_writes opened.ring ≤ v1.writes + checkpoint_writes mid.ring + batch_cost 1) (next : Works v1 v2) (left : unswept opened.tables ≡ swept_size (told_by mid)) where
    same : unswept opened.tables ≡ swept_size (told_by old)
    same = left ∙ ap (λ (w : World). swept_size w) told

    pub sweep_ends : (v3 : View) → Uses (checkpoint_writes opened.ring + taken_cost * unswept opened.tables + batch_cost 1) v2 v3 → Uses (due old + sweep_cost (told_by old)) v0 v3
    sweep_ends v3 uses =
        let both : Works v0 v2 = record {
          clock = omega (arith, first.clock, next.clock);
          faults = omega (arith, first.faults, next.faults);
          put_faults = next.put_faults ∙ first.put_faults;
          writes = omega (arith, first.writes, next.writes);
        } in
        uses_then (due old + sweep_cost (told_by old)) (checkpoint_writes opened.ring + taken_cost * unswept opened.tables + batch_cost 1) v0 v2 v3 both (omega (arith, settled, begun, same)) uses

    pub sweep_paid : (now : Volume) (v3 : View) → v3.writes + due now ≤ v2.writes + (checkpoint_writes opened.ring + taken_cost * unswept opened.tables + batch_cost 1) → IsPaid (sweep_cost (told_by old)) old v0 now v3
    sweep_paid now v3 ended = omega (arith, settled, begun, same, ended)

-- ---- what tables leave

open_cost : (t : Tables) → t.is_sweeping ≡ true → left_cost t ≡ taken_cost * unswept t + batch_cost 1
open_cost t sweeping = ap (λ b. cond b (taken_cost * unswept t + batch_cost 1) (lost_cost * owed t)) sweeping

still_cost : (t : Tables) → t.is_sweeping ≡ false → left_cost t ≡ lost_cost * owed t
still_cost t still = ap (λ b. cond b (taken_cost * unswept t + batch_cost 1) (lost_cost * owed t)) still

pub open_paid : {T E : Type 0} (r : Result T E) (old now : Volume) (v w : View) → old.tables.is_sweeping ≡ true
    → OnOk r (w.writes + due now ≤ v.writes + (checkpoint_writes old.ring + taken_cost * unswept old.tables + batch_cost 1)) → OnOk r (w.writes + due now ≤ v.writes + left_due old)
open_paid (Ok x) old now v w sweeping paid = let cost = open_cost old.tables sweeping in omega (arith, paid, cost)
open_paid (Err e) old now v w sweeping paid = tt

pub open_uses : (old : Volume) (v w : View) → old.tables.is_sweeping ≡ true → Uses (checkpoint_writes old.ring + taken_cost * unswept old.tables + batch_cost 1) v w → Uses (left_due old) v w
open_uses old v w sweeping uses = let cost = open_cost old.tables sweeping in
    uses_most (checkpoint_writes old.ring + taken_cost * unswept old.tables + batch_cost 1) (left_due old) v w (omega (arith, cost)) uses

pub still_paid : (old : Volume) (v : View) → old.tables.is_sweeping ≡ false → v.writes + due old ≤ v.writes + left_due old
still_paid old v still = let cost = still_cost old.tables still in omega (arith, cost)

-- once a sweep is ended, what is doomed
pub ended_paid : (old mid now : Volume) (v0 v1 v2 : View) → v1.writes + due mid ≤ v0.writes + left_due old → IsPaid 0 mid v1 now v2 → v2.writes + due now ≤ v0.writes + left_due old
ended_paid old mid now v0 v1 v2 ended settled = omega (arith, ended, settled)
