use Rattle.volume.proofs.Common.{batch_cost, committed_op, committed_within, slice_index, Geometry, holds, is_live, with_pointer, Patch, pairs_in, MayBeHeld, Pointers, Counts, KeepsCounts, AreSound, Tables, left_of, world_with, Volume, tables_in, told_by, owed, graph_in, commits_once, any_bytes, IsOp, op_told, IsOpenTo, IsAdded, raw_absent, ends_within, count_room, left_pointer, owed_pointer, added, both_ways, World, IsAheadOf, is_gone, adding, graph_added, gone_added, hides_same, ok_here, if_here, two_patches}
use Rattle.std.proofs.Common.{◌≡◌, ◌≤◌, ◌<◌, ℕ, List, true, false, sym, ◌∙◌, ap, subst, arith}
use Rattle.volume.proofs.volume.Volume.add_pair.Given
use Rattle.volume.proofs.volume.Volume.add_pair.Goals as goal

open_to : (vol : Volume) (a b : ℕ) → vol.tables.is_sweeping ≡ false → is_live (told_by vol) a ≡ true → is_live (told_by vol) b ≡ true → vol.tables.geometry.primaries ≤ b → holds (told_by vol).pairs a b ≡ false → IsOpenTo vol.tables a b
open_to vol a b still source target apart absent = record { still = still; source = source; target = target; apart = apart; absent = absent }

pub add-requires-clause-absent : goal.add-requires-clause-absent
add-requires-clause-absent g c =
    let o = open_to c.args.self.now c.args.source c.args.target c.requires.ready.1 c.requires.source c.requires.target c.requires.apart c.requires.absent in
    ap (λ (w : Volume). holds (pairs_in w.tables.slots) c.args.source c.args.target) c.self.view_is ∙ raw_absent c.args.self.now.tables c.args.source c.args.target o

pub add-requires-clause-within : goal.add-requires-clause-within
add-requires-clause-within g c =
    let o = open_to c.args.self.now c.args.source c.args.target c.requires.ready.1 c.requires.source c.requires.target c.requires.apart c.requires.absent in
    let size = c.self.invariant.pointers ∙ ap (λ (w : Volume). w.tables.geometry) c.self.view_is in
    subst (λ (k : Geometry). MayBeHeld k (c.args.source, c.args.target)) (sym size) (ends_within c.args.self.now.tables c.args.source c.args.target o)

pub raise-requires-clause-block : goal.raise-requires-clause-block
raise-requires-clause-block g c =
    let o = open_to c.args.self.now c.args.source c.args.target c.requires.ready.1 c.requires.source c.requires.target c.requires.apart c.requires.absent in
    let size = c.self.invariant.counts ∙ ap (λ (w : Volume). w.tables.geometry) c.self.view_is in
    subst (λ (k : Geometry). c.args.target < k.blocks) (sym size) (ends_within c.args.self.now.tables c.args.source c.args.target o).2

pub raise-requires-clause-room : goal.raise-requires-clause-room
raise-requires-clause-room g c =
    let o = open_to c.args.self.now c.args.source c.args.target c.requires.ready.1 c.requires.source c.requires.target c.requires.apart c.requires.absent in
    let size = c.self.invariant.counts ∙ ap (λ (w : Volume). w.tables.geometry) c.self.view_is in
    let is = ap (λ (w : Volume). w.tables) c.self.view_is in
    let room = count_room c.args.self.now.tables c.args.source c.args.target (subst (λ (t : Tables). AreSound t) is c.self.invariant.sound) o in
    let count : slice_index c.self.inside.counts.counts c.args.target ≡ slice_index c.args.self.now.tables.counts c.args.target = ap (λ (t : Tables). slice_index t.counts c.args.target) is in
    let blocks = ap (λ (k : Geometry). k.blocks) size in
    omega (arith, room, count, blocks)

pub patch-count-requires : goal.patch-count-requires
patch-count-requires g c =
    let o = open_to c.args.self.now c.args.source c.args.target c.requires.ready.1 c.requires.source c.requires.target c.requires.apart c.requires.absent in
    let size = ap (λ (k : Counts). k.geometry) c.raise.ensures.raised ∙ (c.self.invariant.counts ∙ ap (λ (w : Volume). w.tables.geometry) c.self.view_is) in
    subst (λ (k : Geometry). c.args.target < k.blocks) (sym size) (ends_within c.args.self.now.tables c.args.source c.args.target o).2

-- what the tables are then
these : (g : Given.Over) (c : goal.After-self-1 g) → IsAdded c.args.self.now.tables c.args.source c.args.target (tables_in c.self.inside.header c.add.new.self c.raise.new.self c.self.inside.live c.self.inside.caps c.self.inside.is_sweeping) c.put-2.new.self
these g c =
    let i = c.self.inside in
    let p = c.unwrap-slot.result in
    let q = c.patch-count.result in
    let r = c.add.result in
    let ok = c.unwrap-slot.ensures in
    let is = ap (λ (w : Volume). w.tables) c.self.view_is in
    let sound = subst (λ (t : Tables). AreSound t) is c.self.invariant.sound in
    let o = open_to c.args.self.now c.args.source c.args.target c.requires.ready.1 c.requires.source c.requires.target c.requires.apart c.requires.absent in
    let change = if_here r _ p ok c.add.ensures.change in
    let laid = two_patches c.put.result c.put-2.result _ _ c.clear.new.self c.put.new.self c.put-2.new.self p q c.clear.ensures c.put.ensures.ok c.put.ensures.full c.put-2.ensures.ok c.put-2.ensures.full in
    added c.args.self.now.tables i.header i.pointers c.add.new.self i.counts c.raise.new.self i.live i.caps i.is_sweeping c.args.source c.args.target p q c.put-2.new.self sound o is c.self.invariant.pointers c.self.invariant.counts
    (ok_here r _ p ok c.add.ensures.pairs) c.add.ensures.table (ap (λ (t : Pointers). t.geometry) change.now) (if_here r _ p ok c.add.ensures.sector) (if_here r _ p ok c.add.ensures.stored)
    c.raise.ensures.raised c.patch-count.ensures.inside (subst (λ (w : Patch). KeepsCounts i.counts c.raise.new.self w) (sym c.patch-count.ensures.value) c.raise.ensures.stored) laid

pub raise-requires-2 : goal.raise-requires-2
raise-requires-2 g c = record {
  told = (
    graph_in c.args.self.now.tables,
    c.args.source,
    adding c.args.self.now.tables c.args.source c.args.target c.self.inside.ahead
        (subst (λ (t : Tables). AreSound t) (ap (λ (w : Volume). w.tables) c.self.view_is) c.self.invariant.sound)
        (open_to c.args.self.now c.args.source c.args.target c.requires.ready.1 c.requires.source c.requires.target c.requires.apart c.requires.absent)
        (subst (λ (w : Volume). IsAheadOf (graph_in w.tables) c.self.inside.ahead) c.self.view_is (c.self.invariant.ahead (ap (λ (w : Volume). w.is_ready) c.self.view_is ∙ c.requires.ready.0))),
  );
}

pub invariant_of-self : goal.invariant_of-self
invariant_of-self g c =
    let i = c.self.inside in
    let v = c.self.invariant in
    let t = c.args.self.now.tables in
    let a = c.args.source in
    let b = c.args.target in
    let ok = c.unwrap-slot.ensures in
    let change = if_here c.add.result _ c.unwrap-slot.result ok c.add.ensures.change in
    let all = these g c in
    let ready : i.is_ready ≡ true = ap (λ (w : Volume). w.is_ready) c.self.view_is ∙ c.requires.ready.0 in
    let o = open_to c.args.self.now a b c.requires.ready.1 c.requires.source c.requires.target c.requires.apart c.requires.absent in
    let sound = subst (λ (u : Tables). AreSound u) (ap (λ (w : Volume). w.tables) c.self.view_is) v.sound in
    let old : IsAheadOf (graph_in t) i.ahead = subst (λ (w : Volume). IsAheadOf (graph_in w.tables) i.ahead) c.self.view_is (v.ahead ready) in
    let then : IsAheadOf (with_pointer (graph_in t) a b) c.raise-2.new.self = c.raise-2.ensures.ahead (graph_in t) a (adding t a b i.ahead sound o old) in
    let ahead : IsAheadOf (graph_in (tables_in i.header c.add.new.self c.raise.new.self i.live i.caps i.is_sweeping)) c.raise-2.new.self =
    subst (λ (w : World). IsAheadOf w c.raise-2.new.self) (sym (ap graph_in all.tables ∙ graph_added t all.slots a b all.pairs)) then in
    record {
      pointers = ap (λ (u : Pointers). u.geometry) change.now ∙ v.pointers;
      counts = ap (λ (u : Counts). u.geometry) c.raise.ensures.raised ∙ v.counts;
      live = v.live;
      kept_version = v.kept_version;
      kept = v.kept;
      marks_each = v.marks_each;
      sound = all.sound;
      counted = ahead.counts_each;
      hidden = hides_same i.live (is_gone i.ahead.gone) (is_gone c.raise-2.new.self.gone) v.hidden (gone_added t a b i.ahead c.raise-2.new.self o old then);
      ahead = λ e. ahead;
      begun = λ e n. absurd (both_ways i.is_ready e ready);
      still = v.still;
    }

-- the volume then
abbrev now : (g : Given.Over) → goal.After-self-1 g → Volume
now g c = let i = c.self.inside in record { tables = tables_in i.header c.add.new.self c.raise.new.self i.live i.caps i.is_sweeping; ring = c.commit-outcome.new.self; is_ready = i.is_ready; is_spent = c.is_err-self-inside.result }

op : (vol : Volume) (now : Tables) (batch : List Patch) (a b : ℕ) → IsOpenTo vol.tables a b → IsAdded vol.tables a b now batch → IsOp any_bytes vol now batch 2 0 (λ w. with_pointer w a b)
op vol now batch a b o all = record {
  turns = all.turns;
  zeros = tt;
  world = λ c fits. ap (λ (t : Tables). left_of t (world_with t c)) all.tables ∙ left_pointer vol.tables all.slots a b c o all.pairs;
  few = all.few;
  owes = omega (arith, ap owed all.tables, owed_pointer vol.tables all.slots a b o all.pairs);
}

this : (g : Given.Over) (c : goal.After-self-1 g) → IsOp any_bytes c.args.self.now (now g c).tables c.put-2.new.self 2 0 (λ w. with_pointer w c.args.source c.args.target)
this g c =
    op c.args.self.now (now g c).tables c.put-2.new.self c.args.source c.args.target
    (open_to c.args.self.now c.args.source c.args.target c.requires.ready.1 c.requires.source c.requires.target c.requires.apart c.requires.absent) (these g c)

pub returns-clause-told : goal.returns-clause-told
returns-clause-told g c = op_told c.commit-outcome.result any_bytes c.args.self.now (now g c) c.put-2.new.self 2 0 _ (this g c)

pub returns-clause-owes : goal.returns-clause-owes
returns-clause-owes g c =
    let t = c.args.self.now.tables in
    let all = these g c in
    ap owed all.tables
    ∙ owed_pointer t all.slots c.args.source c.args.target (open_to c.args.self.now c.args.source c.args.target c.requires.ready.1 c.requires.source c.requires.target c.requires.apart c.requires.absent) all.pairs

pub returns-clause-operation : goal.returns-clause-operation
returns-clause-operation g c =
    let e = c.commit-outcome.ensures in
    committed_op g.D.Device.told c.commit-outcome.result any_bytes c.args.self.now (now g c) (g.D.Device.view c.args.dev.now) (g.D.Device.view c.commit-outcome.new.dev) c.put-2.new.self 2 0 _ (λ w. with_pointer w c.args.source c.args.target) (this g c) c.requires.at (λ told. tt)
    e.done e.at e.firm e.any_moment e.sent e.uses e.faults c.is_err-self-inside.ensures.value (ap (λ (w : Volume). w.tables.geometry) c.self.view_is)

pub returns-clause-cost : goal.returns-clause-cost
returns-clause-cost g c =
    let e = c.commit-outcome.ensures in
    committed_within g.D.Device.told c.commit-outcome.result any_bytes c.args.self.now (now g c) c.self.inside.ring (g.D.Device.view c.args.dev.now) (g.D.Device.view c.commit-outcome.new.dev) c.put-2.new.self 2 0 (owed c.args.self.now.tables) (batch_cost 2) (λ w. with_pointer w c.args.source c.args.target) (this g c) c.requires.at (ap (λ (w : Volume). w.ring) c.self.view_is)
    e.any_moment e.uses e.records (omega arith) (omega arith)

pub returns-clause-once : goal.returns-clause-once
returns-clause-once g c =
    commits_once c.commit-outcome.result c.args.self.now (now g c) c.self.inside.ring (g.D.Device.view c.args.dev.now) (g.D.Device.view c.commit-outcome.new.dev) c.put-2.new.self 2 (this g c).few (ap (λ (w : Volume). w.ring) c.self.view_is)
    c.commit-outcome.ensures.uses c.commit-outcome.ensures.records
