use Rattle.volume.proofs.Common.{committed_op, committed_uses, both_ways, slice_index, Geometry, holds, without_pointer, settle, Patch, pairs_in, Pointers, Counts, KeepsCounts, AreSound, Tables, left_of, world_with, Volume, tables_in, told_by, owed, graph_in, commits_once, any_bytes, IsOp, op_told, on_ok, made, doomed, free_count, ok_map, owed_moments, World, LiveMap, graph, pairs, IsAheadOf, graph_of, deleting, graph_dropped, same_bits, graph_raw, ok_here, if_here, ok_if, two_patches}
use Rattle.std.proofs.Common.{◌≡◌, ◌+◌, ◌<◌, ℕ, List, true, false, length, sym, ◌∙◌, ap, subst, arith}
use Rattle.volume_laws.proofs.Dropped.{HoldsPair, IsDropped, less_slots, held_within, count_some, raw_held, left_dropped, dropped}
use Rattle.volume_laws.proofs.DropOwed.{owed_dropped, drop_paid, drop_counted}
use Rattle.graph_laws.specs.RawGraph.{IsRawGraph}
use Rattle.volume.proofs.volume.Volume.drop_pair.Given
use Rattle.volume.proofs.volume.Volume.drop_pair.Goals as goal

drops : (vol : Volume) (a b : ℕ) → vol.tables.is_sweeping ≡ false → holds (told_by vol).pairs a b ≡ true → HoldsPair vol.tables a b
drops vol a b still held = record { still = still; held = held }

-- the pair is held, so it was taken away
pub unwrap-slot-requires : goal.unwrap-slot-requires
unwrap-slot-requires g c =
    let o = drops c.args.self.now c.args.source c.args.target c.requires.ready.1 c.requires.held in
    ok_if c.remove.result (λ err.
    let here = raw_held c.args.self.now.tables c.args.source c.args.target o in
    let missing = c.remove.ensures.absent.0 err in
    both_ways (holds (pairs_in c.args.self.now.tables.slots) c.args.source c.args.target) (sym (ap (λ (w : Volume). holds (pairs_in w.tables.slots) c.args.source c.args.target) c.self.view_is) ∙ missing) here)

pub lower-requires-clause-block : goal.lower-requires-clause-block
lower-requires-clause-block g c =
    let o = raw_held c.args.self.now.tables c.args.source c.args.target (drops c.args.self.now c.args.source c.args.target c.requires.ready.1 c.requires.held) in
    let size = c.self.invariant.counts ∙ ap (λ (w : Volume). w.tables.geometry) c.self.view_is in
    let is = ap (λ (w : Volume). w.tables) c.self.view_is in
    subst (λ (k : Geometry). c.args.target < k.blocks) (sym size) (held_within c.args.self.now.tables c.args.source c.args.target (subst (λ (t : Tables). AreSound t) is c.self.invariant.sound) o).2

pub lower-requires-clause-some : goal.lower-requires-clause-some
lower-requires-clause-some g c =
    let o = raw_held c.args.self.now.tables c.args.source c.args.target (drops c.args.self.now c.args.source c.args.target c.requires.ready.1 c.requires.held) in
    let is = ap (λ (w : Volume). w.tables) c.self.view_is in
    let some = count_some c.args.self.now.tables c.args.source c.args.target (subst (λ (t : Tables). AreSound t) is c.self.invariant.sound) o in
    let count : slice_index c.self.inside.counts.counts c.args.target ≡ slice_index c.args.self.now.tables.counts c.args.target = ap (λ (t : Tables). slice_index t.counts c.args.target) is in
    omega (arith, some, count)

pub patch-count-requires : goal.patch-count-requires
patch-count-requires g c =
    let o = raw_held c.args.self.now.tables c.args.source c.args.target (drops c.args.self.now c.args.source c.args.target c.requires.ready.1 c.requires.held) in
    let is = ap (λ (w : Volume). w.tables) c.self.view_is in
    let size = ap (λ (k : Counts). k.geometry) c.lower.ensures.lowered ∙ (c.self.invariant.counts ∙ ap (λ (w : Volume). w.tables.geometry) c.self.view_is) in
    subst (λ (k : Geometry). c.args.target < k.blocks) (sym size) (held_within c.args.self.now.tables c.args.source c.args.target (subst (λ (t : Tables). AreSound t) is c.self.invariant.sound) o).2

-- what the tables are before what is doomed is hidden
these_raw : (g : Given.Over) (c : goal.After-self-1 g) → IsDropped c.args.self.now.tables c.args.source c.args.target (tables_in c.self.inside.header c.remove.new.self c.lower.new.self c.self.inside.live c.self.inside.caps c.self.inside.is_sweeping) c.put-2.new.self
these_raw g c =
    let i = c.self.inside in
    let p = c.unwrap-slot.result in
    let q = c.patch-count.result in
    let r = c.remove.result in
    let ok = c.unwrap-slot.ensures in
    let is = ap (λ (w : Volume). w.tables) c.self.view_is in
    let sound = subst (λ (t : Tables). AreSound t) is c.self.invariant.sound in
    let o = raw_held c.args.self.now.tables c.args.source c.args.target (drops c.args.self.now c.args.source c.args.target c.requires.ready.1 c.requires.held) in
    let change = if_here r _ p ok c.remove.ensures.change in
    let laid = two_patches c.put.result c.put-2.result _ _ c.clear.new.self c.put.new.self c.put-2.new.self p q c.clear.ensures c.put.ensures.ok c.put.ensures.full c.put-2.ensures.ok c.put-2.ensures.full in
    dropped c.args.self.now.tables i.header i.pointers c.remove.new.self i.counts c.lower.new.self i.live i.caps i.is_sweeping c.args.source c.args.target p q c.put-2.new.self sound o is c.self.invariant.pointers c.self.invariant.counts
    (ok_here r _ p ok c.remove.ensures.pairs) c.remove.ensures.table (ap (λ (t : Pointers). t.geometry) change.now) (if_here r _ p ok c.remove.ensures.sector) (if_here r _ p ok c.remove.ensures.stored)
    c.lower.ensures.lowered c.patch-count.ensures.inside (subst (λ (w : Patch). KeepsCounts i.counts c.lower.new.self w) (sym c.patch-count.ensures.value) c.lower.ensures.stored) laid

-- and after
these : (g : Given.Over) (c : goal.After-self-1 g) → IsDropped c.args.self.now.tables c.args.source c.args.target (tables_in c.self.inside.header c.remove.new.self c.lower.new.self c.lower-2.new.live c.self.inside.caps c.self.inside.is_sweeping) c.put-2.new.self
these g c =
    let i = c.self.inside in
    subst (λ (u : Tables). IsDropped c.args.self.now.tables c.args.source c.args.target u c.put-2.new.self)
    (same_bits i.header c.remove.new.self c.lower.new.self i.live c.lower-2.new.live i.caps i.is_sweeping c.lower-2.ensures.raw) (these_raw g c)

pub lower-requires-2 : goal.lower-requires-2
lower-requires-2 g c =
    let i = c.self.inside in
    let v = c.self.invariant in
    let t = c.args.self.now.tables in
    let a = c.args.source in
    let b = c.args.target in
    let p = c.unwrap-slot.result in
    let q = c.patch-count.result in
    let r = c.remove.result in
    let ok = c.unwrap-slot.ensures in
    let is = ap (λ (w : Volume). w.tables) c.self.view_is in
    let sound = subst (λ (t : Tables). AreSound t) is c.self.invariant.sound in
    let o = raw_held c.args.self.now.tables c.args.source c.args.target (drops c.args.self.now c.args.source c.args.target c.requires.ready.1 c.requires.held) in
    let change = if_here r _ p ok c.remove.ensures.change in
    let laid = two_patches c.put.result c.put-2.result _ _ c.clear.new.self c.put.new.self c.put-2.new.self p q c.clear.ensures c.put.ensures.ok c.put.ensures.full c.put-2.ensures.ok c.put-2.ensures.full in
    let all = dropped c.args.self.now.tables i.header i.pointers c.remove.new.self i.counts c.lower.new.self i.live i.caps i.is_sweeping c.args.source c.args.target p q c.put-2.new.self sound o is c.self.invariant.pointers c.self.invariant.counts
    (ok_here r _ p ok c.remove.ensures.pairs) c.remove.ensures.table (ap (λ (t : Pointers). t.geometry) change.now) (if_here r _ p ok c.remove.ensures.sector) (if_here r _ p ok c.remove.ensures.stored)
    c.lower.ensures.lowered c.patch-count.ensures.inside (subst (λ (w : Patch). KeepsCounts i.counts c.lower.new.self w) (sym c.patch-count.ensures.value) c.lower.ensures.stored) laid in
    let size = ap (λ (u : Pointers). u.geometry) change.now ∙ v.pointers in
    let both = drops c.args.self.now a b c.requires.ready.1 c.requires.held in
    let ahead : IsAheadOf (graph_in t) i.ahead = subst (λ (w : Volume). IsAheadOf (graph_in w.tables) i.ahead) c.self.view_is (v.ahead (ap (λ (w : Volume). w.is_ready) c.self.view_is ∙ c.requires.ready.0)) in
    let now = tables_in i.header c.remove.new.self c.lower.new.self i.live i.caps i.is_sweeping in
    let same : graph_in now ≡ graph_of c.remove.new.self i.live = λ k. graph (sym size k) i.live.live (pairs c.remove.new.self) in
    record {
      tables = record { geometry = v.live ∙ sym size; raw = subst (λ (w : World). IsRawGraph w) same (graph_raw now all.sound) };
      hidden = v.hidden;
      deleted = (graph_in t, a, deleting t a b i.ahead sound both ahead, sym same ∙ (ap graph_in all.tables ∙ graph_dropped t all.slots a b all.pairs));
    }

pub invariant_of-self : goal.invariant_of-self
invariant_of-self g c =
    let i = c.self.inside in
    let v = c.self.invariant in
    let m = c.lower-2.new.live in
    let change = if_here c.remove.result _ c.unwrap-slot.result c.unwrap-slot.ensures c.remove.ensures.change in
    let size = ap (λ (t : Pointers). t.geometry) change.now ∙ v.pointers in
    let same : graph_in (tables_in i.header c.remove.new.self c.lower.new.self m i.caps i.is_sweeping) ≡ graph_of c.remove.new.self m = λ k. graph (sym size k) m.live (pairs c.remove.new.self) in
    let ahead = subst (λ (w : World). IsAheadOf w c.lower-2.new.self) (sym same) c.lower-2.ensures.ahead in
    record {
      pointers = size;
      counts = ap (λ (t : Counts). t.geometry) c.lower.ensures.lowered ∙ v.counts;
      live = ap (λ (n : LiveMap). n.geometry) c.lower-2.ensures.raw ∙ v.live;
      kept_version = v.kept_version;
      kept = v.kept;
      marks_each = v.marks_each;
      sound = (these g c).sound;
      counted = ahead.counts_each;
      hidden = c.lower-2.ensures.hidden;
      ahead = λ e. ahead;
      begun = λ e n. absurd (both_ways i.is_ready e (ap (λ (w : Volume). w.is_ready) c.self.view_is ∙ c.requires.ready.0));
      still = v.still;
    }

-- the volume then
abbrev now : (g : Given.Over) → goal.After-self-1 g → Volume
now g c = let i = c.self.inside in record { tables = tables_in i.header c.remove.new.self c.lower.new.self c.lower-2.new.live i.caps i.is_sweeping; ring = c.commit-outcome.new.self; is_ready = i.is_ready; is_spent = c.is_err-self-inside.result }

op : (vol : Volume) (now : Tables) (batch : List Patch) (a b : ℕ) → HoldsPair vol.tables a b → IsDropped vol.tables a b now batch → IsOp any_bytes vol now batch 2 (owed now) (λ w. settle (without_pointer w a b))
op vol now batch a b o all = record {
  turns = all.turns;
  zeros = tt;
  world = λ c fits. ap (λ (t : Tables). left_of t (world_with t c)) all.tables ∙ left_dropped vol.tables all.slots a b c o all.pairs;
  few = all.few;
  owes = omega arith;
}

this : (g : Given.Over) (c : goal.After-self-1 g) → IsOp any_bytes c.args.self.now (now g c).tables c.put-2.new.self 2 (owed (now g c).tables) (λ w. settle (without_pointer w c.args.source c.args.target))
this g c =
    op c.args.self.now (now g c).tables c.put-2.new.self c.args.source c.args.target
    (drops c.args.self.now c.args.source c.args.target c.requires.ready.1 c.requires.held) (these g c)

pub returns-clause-told : goal.returns-clause-told
returns-clause-told g c = op_told c.commit-outcome.result any_bytes c.args.self.now (now g c) c.put-2.new.self 2 (owed (now g c).tables) _ (this g c)

-- what is owed then
owes : (g : Given.Over) (c : goal.After-self-1 g) → owed (now g c).tables + 1 ≡ owed c.args.self.now.tables + made (told_by c.args.self.now) c.args.source c.args.target
owes g c =
    let all = these g c in
    let t = c.args.self.now.tables in
    let e : owed (now g c).tables ≡ owed (less_slots t all.slots c.args.target) = ap owed all.tables in
    let o = drops c.args.self.now c.args.source c.args.target c.requires.ready.1 c.requires.held in
    omega (arith, e, owed_dropped t all.slots c.args.source c.args.target o all.pairs)

pub returns-clause-owed : goal.returns-clause-owed
returns-clause-owed g c = on_ok c.commit-outcome.result (owes g c)

pub returns-clause-counted : goal.returns-clause-counted
returns-clause-counted g c =
    let all = these g c in
    let t = c.args.self.now.tables in
    let a = c.args.source in
    let b = c.args.target in
    let here = drop_counted t all.slots a b (drops c.args.self.now a b c.requires.ready.1 c.requires.held) all.pairs in
    let graph : length (doomed (graph_in (now g c).tables)) ≡ length (doomed (graph_in (less_slots t all.slots b))) = ap (λ (u : Tables). length (doomed (graph_in u))) all.tables in
    ok_map c.commit-outcome.result _ _ (λ told.
    let free : free_count (told_by (now g c)) ≡ free_count (settle (without_pointer (told_by c.args.self.now) a b)) = ap free_count told in
    (omega (arith, here.0, graph, free), omega (arith, here.1, graph)))
    (op_told c.commit-outcome.result any_bytes c.args.self.now (now g c) c.put-2.new.self 2 (owed (now g c).tables) _ (this g c))

pub returns-clause-operation : goal.returns-clause-operation
returns-clause-operation g c =
    let e = c.commit-outcome.ensures in
    committed_op g.D.Device.told c.commit-outcome.result any_bytes c.args.self.now (now g c) (g.D.Device.view c.args.dev.now) (g.D.Device.view c.commit-outcome.new.dev) c.put-2.new.self 2 (owed (now g c).tables) _ (λ w. settle (without_pointer w c.args.source c.args.target)) (this g c) c.requires.at (λ told. tt)
    e.done e.at e.firm e.any_moment e.sent e.uses e.faults c.is_err-self-inside.ensures.value (ap (λ (w : Volume). w.tables.geometry) c.self.view_is)

pub returns-clause-cost : goal.returns-clause-cost
returns-clause-cost g c = record {
  any_owed = λ told.
      let e = owes g c in
      owed_moments c.args.self.now (g.D.Device.view c.args.dev.now) (g.D.Device.view c.commit-outcome.new.dev) c.put-2.new.self (now g c).tables (owed c.args.self.now.tables + made (told_by c.args.self.now) c.args.source c.args.target) (c.requires.at told) (these g c).turns
      (omega arith) (omega (arith, e)) (c.commit-outcome.ensures.any_moment told);
  paid =
      drop_paid c.commit-outcome.result c.args.self.now (now g c) c.self.inside.ring (g.D.Device.view c.args.dev.now) (g.D.Device.view c.commit-outcome.new.dev) c.put-2.new.self (made (told_by c.args.self.now) c.args.source c.args.target) (these g c).few (owes g c)
      (ap (λ (w : Volume). w.ring) c.self.view_is) c.commit-outcome.ensures.uses c.commit-outcome.ensures.records;
  uses = committed_uses c.args.self.now c.self.inside.ring (g.D.Device.view c.args.dev.now) (g.D.Device.view c.commit-outcome.new.dev) c.put-2.new.self 2 (these g c).few (ap (λ (w : Volume). w.ring) c.self.view_is) c.commit-outcome.ensures.uses;
}

pub returns-clause-once : goal.returns-clause-once
returns-clause-once g c =
    commits_once c.commit-outcome.result c.args.self.now (now g c) c.self.inside.ring (g.D.Device.view c.args.dev.now) (g.D.Device.view c.commit-outcome.new.dev) c.put-2.new.self 2 (this g c).few (ap (λ (w : Volume). w.ring) c.self.view_is)
    c.commit-outcome.ensures.uses c.commit-outcome.ensures.records
