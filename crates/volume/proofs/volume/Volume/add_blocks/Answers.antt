use Rattle.volume.proofs.Common.{spent_unless_ok, spent_on_err, works_of, committed_uses, OnOk, Geometry, World, with_new_blocks, Patch, is_marked_in, AreSound, Tables, pairs_of, Parts, parts_of, with_parts, PartsFit, AreFree, IsGrown, Volume, tables_in, batch_cost, lost_cost, IsPaid, firmed, IsOp, op_at, op_done, op_told, op_paid, op_world, marked, zeroed_ring, zeroed_bytes, zeroed_moments, Kept, is_gone, IsAheadOf, graph_in, growing, none_gone, hides_none, none_hides, data_committed, batch_ok, zeroed_owed, on_ok}
use Rattle.std.proofs.Common.{◌≡◌, ◌+◌, ◌*◌, ℕ, List, [], length, refl, sym, ◌∙◌, ap, subst, arith}
use Rattle.volume_laws.proofs.Made.{IsMade, has_zeros, made, fits}
use Rattle.std.proofs.Common.{Bool, true}
use Rattle.volume.proofs.volume.Volume.add_blocks.Given
use Rattle.volume.proofs.volume.Volume.add_blocks.Goals as goal

pub put_new-requires-clause-room : goal.put_new-requires-clause-room
put_new-requires-clause-room g c =
    let i = c.self.inside in
    let is = ap (λ (w : Volume). w.tables) c.self.view_is in
    let live = ap (λ (t : Tables). t.live) is in
    let size : i.live.geometry ≡ c.args.self.now.tables.geometry = c.self.invariant.live ∙ ap (λ (t : Tables). t.geometry) is in
    let free : AreFree i.live.live c.args.self.now.tables.geometry.blocks c.args.blocks.now = subst (λ l. AreFree l c.args.self.now.tables.geometry.blocks c.args.blocks.now) (sym live) c.requires.free in
    let long = ap (λ (t : Tables). length (pairs_of t)) is in
    record {
      source = ap (λ l. is_marked_in l c.args.source) live ∙ (marked c.args.self.now.tables c.args.source c.requires.ready.1 c.requires.source).1;
      free = subst (λ (k : Geometry). AreFree i.live.live k.blocks c.args.blocks.now) (sym size) free;
      room = let slots = ap (λ (k : Geometry). k.slots) size in let room = c.requires.room in omega (arith, long, slots, room);
    }

pub commit-outcome-requires : goal.commit-outcome-requires
commit-outcome-requires g c = λ told. zeroed_ring c.args.self.now (g.D.Device.view c.args.dev.now) c.args.blocks.now c.self.inside.ring (ap (λ (w : Volume). w.ring) c.self.view_is) (c.requires.at told)

-- the tables are the changed ones
parts_are : (t : Tables) (i : Tables) → i ≡ t → (p q : Parts) → i ≡ with_parts i p → (with_parts t p ≡ t) × (with_parts i q ≡ with_parts t q)
parts_are t i is p q same = (ap (λ (u : Tables). with_parts u p) (sym is) ∙ (sym same ∙ is), ap (λ (u : Tables). with_parts u q) is)

-- what the tables are then
these : (g : Given.Over) (c : goal.After-self-1 g) → IsMade c.args.self.now.tables c.args.source c.args.blocks.now (tables_in c.self.inside.header c.put_new.new.pointers c.put_new.new.counts c.put_new.new.live c.self.inside.caps c.self.inside.is_sweeping) c.put_new.new.batch
these g c =
    let i = c.self.inside in
    let t = c.args.self.now.tables in
    let p = parts_of i.pointers i.counts i.live in
    let q = parts_of c.put_new.new.pointers c.put_new.new.counts c.put_new.new.live in
    let is = ap (λ (w : Volume). w.tables) c.self.view_is in
    let sound = subst (λ (u : Tables). AreSound u) is c.self.invariant.sound in
    let size : i.live.geometry ≡ t.geometry = c.self.invariant.live ∙ ap (λ (u : Tables). u.geometry) is in
    let both = parts_are t (tables_in i.header i.pointers i.counts i.live i.caps i.is_sweeping) is p q refl in
    let fit : PartsFit t.geometry p = fits i.header.geometry t.geometry (ap (λ (u : Tables). u.geometry) is) (tables_in i.header i.pointers i.counts i.live i.caps i.is_sweeping) p refl refl c.self.invariant.sound c.self.invariant.pointers c.self.invariant.counts c.self.invariant.live in
    let grown = subst (λ (k : Geometry). IsGrown k c.args.source c.args.blocks.now p q [] c.put_new.new.batch) size c.put_new.ensures.grown in
    subst (λ (u : Tables). IsMade t c.args.source c.args.blocks.now u c.put_new.new.batch) (sym both.1)
    (made t p q c.args.source c.args.blocks.now c.put_new.new.batch sound c.requires.ready.1 c.requires.settled both.0 fit grown)

-- the volume then
abbrev now : (g : Given.Over) → goal.After-self-1 g → Volume
now g c = let i = c.self.inside in record { tables = tables_in i.header c.put_new.new.pointers c.put_new.new.counts c.put_new.new.live i.caps i.is_sweeping; ring = c.commit-outcome.new.self; is_ready = i.is_ready; is_spent = c.is_err-self-inside.result }

op : (vol : Volume) (now : Tables) (batch : List Patch) (a : ℕ) (bs : List ℕ) → IsMade vol.tables a bs now batch → IsOp (has_zeros vol.tables bs) vol now batch (3 * length bs) 0 (λ w. with_new_blocks w a bs)
op vol now batch a bs all = record {
  turns = all.turns;
  zeros = λ b in_. refl;
  world = all.world;
  few = all.few;
  owes = omega (arith, all.settled);
}

this : (g : Given.Over) (c : goal.After-self-1 g) → IsOp (has_zeros c.args.self.now.tables c.args.blocks.now) c.args.self.now (now g c).tables c.put_new.new.batch (3 * length c.args.blocks.now) 0 (λ w. with_new_blocks w c.args.source c.args.blocks.now)
this g c = op c.args.self.now (now g c).tables c.put_new.new.batch c.args.source c.args.blocks.now (these g c)

-- what is kept ahead as it was
ahead_was : (vol : Volume) (t : Tables) (r : Bool) (k : Kept) → t ≡ vol.tables → r ≡ vol.is_ready → vol.is_ready ≡ true → (r ≡ true → IsAheadOf (graph_in t) k) → IsAheadOf (graph_in vol.tables) k
ahead_was vol t r k is same ready ahead = subst (λ (u : Tables). IsAheadOf (graph_in u) k) is (ahead (same ∙ ready))

pub raise_all-requires : goal.raise_all-requires
raise_all-requires g c =
    let i = c.self.inside in
    let is = ap (λ (w : Volume). w.tables) c.self.view_is in
    let t = c.args.self.now.tables in
    record {
      told = (
        graph_in t,
        growing t c.args.blocks.now i.ahead (subst (λ (u : Tables). AreSound u) is c.self.invariant.sound) c.requires.settled c.requires.free
            (ahead_was c.args.self.now (tables_in i.header i.pointers i.counts i.live i.caps i.is_sweeping) i.is_ready i.ahead is (ap (λ (w : Volume). w.is_ready) c.self.view_is) c.requires.ready.0 c.self.invariant.ahead),
      );
    }

pub invariant_of-self : goal.invariant_of-self
invariant_of-self g c =
    let i = c.self.inside in
    let v = c.self.invariant in
    let t = c.args.self.now.tables in
    let bs = c.args.blocks.now in
    let fit = c.put_new.ensures.grown.fit in
    let is = ap (λ (w : Volume). w.tables) c.self.view_is in
    let all = these g c in
    let old = ahead_was c.args.self.now (tables_in i.header i.pointers i.counts i.live i.caps i.is_sweeping) i.is_ready i.ahead is (ap (λ (w : Volume). w.is_ready) c.self.view_is) c.requires.ready.0 v.ahead in
    let then = c.raise_all.ensures.ahead (graph_in t) c.args.source (growing t bs i.ahead (subst (λ (u : Tables). AreSound u) is v.sound) c.requires.settled c.requires.free old) in
    let ahead = subst (λ (w : World). IsAheadOf w c.raise_all.new.self) (sym all.graph) then in
    let none = none_gone t i.ahead c.requires.settled old in
    let gone = none_gone (now g c).tables c.raise_all.new.self all.settled ahead in
    record {
      pointers = fit.pointers ∙ v.live;
      counts = fit.counts ∙ v.live;
      live = fit.live ∙ v.live;
      kept_version = v.kept_version;
      kept = v.kept;
      marks_each = v.marks_each;
      sound = all.turns.sound;
      counted = ahead.counts_each;
      hidden = none_hides c.put_new.new.live (is_gone c.raise_all.new.self.gone) (c.put_new.ensures.shown (hides_none i.live (is_gone i.ahead.gone) v.hidden none)) gone;
      ahead = λ e. ahead;
      begun = λ e b. gone b;
      still = v.still;
    }

pub returns-clause-told : goal.returns-clause-told
returns-clause-told g c = op_told c.commit-outcome.result (has_zeros c.args.self.now.tables c.args.blocks.now) c.args.self.now (now g c) c.put_new.new.batch (3 * length c.args.blocks.now) 0 _ (this g c)

pub returns-clause-settled : goal.returns-clause-settled
returns-clause-settled g c = on_ok c.commit-outcome.result (these g c).settled

pub returns-clause-operation : goal.returns-clause-operation
returns-clause-operation g c = record {
  at = λ told.
      let z = c.requires.at told in
      op_at c.commit-outcome.result (has_zeros c.args.self.now.tables c.args.blocks.now) c.args.self.now (now g c) (firmed (g.D.Device.view c.args.dev.now)) (g.D.Device.view c.commit-outcome.new.dev) c.put_new.new.batch (3 * length c.args.blocks.now) 0 _ (this g c) z.at
      (zeroed_bytes c.args.self.now (g.D.Device.view c.args.dev.now) c.args.blocks.now z)
      (c.commit-outcome.ensures.done told) (c.commit-outcome.ensures.at told) (c.commit-outcome.ensures.firm told);
  done = λ told.
      let z = c.requires.at told in
      op_done c.commit-outcome.result (has_zeros c.args.self.now.tables c.args.blocks.now) c.args.self.now (now g c) (firmed (g.D.Device.view c.args.dev.now)) (g.D.Device.view c.commit-outcome.new.dev) c.put_new.new.batch (3 * length c.args.blocks.now) 0 _ (this g c) z.at
      (zeroed_bytes c.args.self.now (g.D.Device.view c.args.dev.now) c.args.blocks.now z)
      (c.commit-outcome.ensures.done told) (c.commit-outcome.ensures.at told) (c.commit-outcome.ensures.firm told);
  any_moment = λ told.
      let z = c.requires.at told in
      zeroed_moments c.args.self.now (g.D.Device.view c.args.dev.now) (g.D.Device.view c.commit-outcome.new.dev) c.args.blocks.now c.put_new.new.batch (now g c).tables _ z c.requires.free (these g c).turns
      (op_world (has_zeros c.args.self.now.tables c.args.blocks.now) c.args.self.now (now g c).tables c.put_new.new.batch (3 * length c.args.blocks.now) 0 (λ w. with_new_blocks w c.args.source c.args.blocks.now) (firmed (g.D.Device.view c.args.dev.now)) (this g c) z.at (zeroed_bytes c.args.self.now (g.D.Device.view c.args.dev.now) c.args.blocks.now z))
      (c.commit-outcome.ensures.any_moment told);
  sent = c.commit-outcome.ensures.sent;
  data_kept = λ told.
      let z = c.requires.at told in
      data_committed c.commit-outcome.result c.args.self.now.tables.geometry c.args.blocks.now (g.D.Device.view c.args.dev.now) (g.D.Device.view c.commit-outcome.new.dev) c.put_new.new.batch (λ n from out. z.loose n out)
      (λ y n from out. (these g c).turns.contents y n from) (c.commit-outcome.ensures.done told) (c.commit-outcome.ensures.any_moment told);
  unspent = spent_unless_ok c.commit-outcome.result c.is_err-self-inside.result c.is_err-self-inside.ensures.value;
  spent = spent_on_err c.commit-outcome.result c.is_err-self-inside.result c.is_err-self-inside.ensures.value;
  faults = c.commit-outcome.ensures.faults;
  works = works_of _ (g.D.Device.view c.args.dev.now) (g.D.Device.view c.commit-outcome.new.dev) c.commit-outcome.ensures.uses;
  geometry = ap (λ (w : Volume). w.tables.geometry) c.self.view_is;
}

pub returns-clause-cost : goal.returns-clause-cost
returns-clause-cost g c = record {
  any_owed = λ told.
      zeroed_owed c.args.self.now (g.D.Device.view c.args.dev.now) (g.D.Device.view c.commit-outcome.new.dev) c.args.blocks.now c.put_new.new.batch (now g c).tables (c.requires.at told) c.requires.free (these g c).turns
      (let none = (these g c).settled in omega (arith, none)) (c.commit-outcome.ensures.any_moment told);
  paid =
      let cost = batch_cost (3 * length c.args.blocks.now) in
      let none : cost + lost_cost * 0 ≡ cost = omega arith in
      subst (λ (k : ℕ). OnOk c.commit-outcome.result (IsPaid k c.args.self.now (g.D.Device.view c.args.dev.now) (now g c) (g.D.Device.view c.commit-outcome.new.dev))) none
      (op_paid c.commit-outcome.result (has_zeros c.args.self.now.tables c.args.blocks.now) c.args.self.now (now g c) c.self.inside.ring (g.D.Device.view c.args.dev.now) (g.D.Device.view c.commit-outcome.new.dev) c.put_new.new.batch (3 * length c.args.blocks.now) 0 _ (this g c)
      (ap (λ (w : Volume). w.ring) c.self.view_is) c.commit-outcome.ensures.uses c.commit-outcome.ensures.records);
  uses = committed_uses c.args.self.now c.self.inside.ring (g.D.Device.view c.args.dev.now) (g.D.Device.view c.commit-outcome.new.dev) c.put_new.new.batch (3 * length c.args.blocks.now) (this g c).few (ap (λ (w : Volume). w.ring) c.self.view_is) c.commit-outcome.ensures.uses;
}

pub returns-clause-ring : goal.returns-clause-ring
returns-clause-ring g c =
    batch_ok c.commit-outcome.result (3 * length c.args.blocks.now) c.self.inside.ring c.args.self.now.ring c.commit-outcome.new.self c.put_new.new.batch (this g c).few (ap (λ (w : Volume). w.ring) c.self.view_is) c.commit-outcome.ensures.records
