use Rattle.std.proofs.Common.{◌≡◌, ℕ, List, ◌+◌, ◌*◌, ◌≤◌, length, sym, subst, ◌∙◌, ap, arith, Ok, Err}
use Rattle.volume.proofs.Common.{with_new_blocks, World, Geometry, LeavesOwed, owed, checkpoint_writes, IsOperation, IsWithin, Volume, due, zeroed_cost, ok_map, KeepsData, HasBatch, HasNewBlocks, data_then, data_both, JournalRecord, as_either, kept_moments, kept_fails, kept_failed, within_fails, works_of, works_joined, faults_after, grow_moments}
use Rattle.volume_laws.proofs.Idle.{world_joined, owed_joined}
use Rattle.volume.proofs.volume.Volume.grow.Goals as goal

pub returns-clause-operation : goal.returns-clause-operation
returns-clause-operation g c =
    let told = g.D.Device.told in
    let view = g.D.Device.view in
    let way = c.in_ok-make_way.ensures.operation in
    let zero = c.in_ok-zero_new.ensures in
    let add = c.add_blocks.ensures.operation in
    let change = λ (w : World). with_new_blocks w c.args.source c.args.blocks.now in
    record {
      at = add.at;
      done = λ t. ok_map c.add_blocks.result _ _ (λ done. done ∙ ap change (zero.done t ∙ way.done t)) (add.done t);
      any_moment = λ t. grow_moments (view c.args.dev.now) (view c.make_way.new.dev) (view c.zero_new.new.dev) (view c.add_blocks.new.dev) change
          (kept_moments told (λ w. w) c.args.self.now c.make_way.new.self (view c.args.dev.now) (view c.make_way.new.dev) _ way t) (way.done t) (way.sent t) (zero.any_moment t) (zero.done t) (zero.sent t) (add.any_moment t);
      sent = λ t. add.sent t ∙ (zero.sent t ∙ way.sent t);
      data_kept = λ t.
          let k = c.args.self.now.tables.geometry in
          let bs = c.args.blocks.now in
          data_both {T = Unit {0}} k c.zero_new.new.self.tables.geometry bs (view c.args.dev.now) (view c.zero_new.new.dev) (view c.add_blocks.new.dev) tt c.add_blocks.result (zero.size.0 ∙ way.geometry)
          (data_then {T = Unit {0}} {U = Unit {0}} k c.make_way.new.self.tables.geometry bs (view c.args.dev.now) (view c.make_way.new.dev) (view c.zero_new.new.dev) tt (Ok tt) way.geometry (way.data_kept t) (zero.data_kept t))
          (add.data_kept t);
      unspent = add.unspent;
      spent = add.spent;
      faults = faults_after c.add_blocks.result _ _ _ (zero.faults ∙ way.faults) add.faults;
      works = works_joined _ _ _ way.works (works_joined _ _ _ (works_of _ _ _ zero.uses) add.works);
      geometry = add.geometry ∙ (zero.size.0 ∙ way.geometry);
    }

pub returns-in_err-make_way-clause-operation : goal.returns-in_err-make_way-clause-operation
returns-in_err-make_way-clause-operation g c =
    let told = g.D.Device.told in
    let view = g.D.Device.view in
    kept_fails told (λ w. with_new_blocks w c.args.source c.args.blocks.now) c.args.self.now c.make_way.new.self (view c.args.dev.now) (view c.make_way.new.dev) _ _ c.from_residual.result c.from_residual.ensures.1 c.in_err-make_way.ensures.operation

pub returns-in_err-make_way-clause-cost : goal.returns-in_err-make_way-clause-cost
returns-in_err-make_way-clause-cost g c =
    let told = g.D.Device.told in
    let view = g.D.Device.view in
    within_fails told _ _ _ c.args.self.now c.make_way.new.self (view c.args.dev.now) (view c.make_way.new.dev) _ _ _ _ _ c.from_residual.result c.from_residual.ensures.1 c.in_err-make_way.ensures.cost (omega arith) (omega arith)

pub returns-in_err-zero_new-clause-operation : goal.returns-in_err-zero_new-clause-operation
returns-in_err-zero_new-clause-operation g c =
    let told = g.D.Device.told in
    let view = g.D.Device.view in
    let way = c.in_ok-make_way.ensures.operation in
    let zero = c.in_err-zero_new.ensures in
    let this : IsOperation {T = Unit {0}} told c.args.blocks.now (λ w. w) c.args.self.now c.zero_new.new.self (view c.args.dev.now) (view c.zero_new.new.dev) (Err c.in_err-zero_new.field-0.0) = record {
      at = λ t. tt;
      done = λ t. tt;
      any_moment = λ t. as_either (view c.args.dev.now) (view c.zero_new.new.dev) _ (world_joined (view c.args.dev.now) (view c.make_way.new.dev) (view c.zero_new.new.dev) (kept_moments told (λ w. w) c.args.self.now c.make_way.new.self (view c.args.dev.now) (view c.make_way.new.dev) _ way t) (zero.any_moment t) (way.done t) (way.sent t));
      sent = λ t. zero.sent t ∙ way.sent t;
      data_kept = λ t. data_then {T = Unit {0}} {U = Unit {0}} c.args.self.now.tables.geometry c.make_way.new.self.tables.geometry c.args.blocks.now (view c.args.dev.now) (view c.make_way.new.dev) (view c.zero_new.new.dev) tt (Err c.in_err-zero_new.field-0.0) way.geometry
          (way.data_kept t) (zero.data_kept t);
      unspent = tt;
      spent = zero.spent;
      faults = faults_after {T = Unit {0}} (Err c.in_err-zero_new.field-0.0) _ _ _ way.faults zero.faults;
      works = works_joined _ _ _ way.works (works_of _ _ _ zero.uses);
      geometry = zero.size.0 ∙ way.geometry;
    } in
    kept_failed told (λ w. with_new_blocks w c.args.source c.args.blocks.now) c.args.self.now c.zero_new.new.self (view c.args.dev.now) (view c.zero_new.new.dev) _ _ c.from_residual-in_err-zero_new.result c.from_residual-in_err-zero_new.ensures.1 this

pub returns-in_err-zero_new-clause-cost : goal.returns-in_err-zero_new-clause-cost
returns-in_err-zero_new-clause-cost g c =
    let told = g.D.Device.told in
    let view = g.D.Device.view in
    let way = c.in_ok-make_way.ensures in
    let zero = c.in_err-zero_new.ensures in
    let one : owed c.make_way.new.self.tables ≡ owed c.args.self.now.tables = ap (λ (v : Volume). owed v.tables) way.same in
    let size : c.make_way.new.self.tables.geometry.sectors * length c.args.blocks.now ≡ c.args.self.now.tables.geometry.sectors * length c.args.blocks.now = ap (λ (k : Geometry). k.sectors * length c.args.blocks.now) way.operation.geometry in
    let left : told → LeavesOwed (view c.args.dev.now) (view c.zero_new.new.dev) (owed c.args.self.now.tables) = λ t. owed_joined (view c.args.dev.now) (view c.make_way.new.dev) (view c.zero_new.new.dev) (owed c.make_way.new.self.tables) (owed c.args.self.now.tables) (way.cost.any_owed t) (zero.any_owed t) (omega (arith, one)) in
    let this : IsWithin {T = Unit {0}} told (owed c.args.self.now.tables) 0 (checkpoint_writes c.args.self.now.ring + zeroed_cost c.args.self.now.tables.geometry (length c.args.blocks.now)) c.args.self.now c.zero_new.new.self (view c.args.dev.now) (view c.zero_new.new.dev) (Err c.in_err-zero_new.field-0.0) = record {
      any_owed = left;
      paid = tt;
      uses = record {
        clock = omega (arith, way.cost.uses.clock, zero.uses.clock);
        faults = omega (arith, way.cost.uses.faults, zero.uses.faults);
        put_faults = zero.uses.put_faults ∙ way.cost.uses.put_faults;
        writes = omega (arith, way.cost.uses.writes, zero.uses.writes);
        most = omega (arith, way.cost.uses.most, zero.uses.most, size);
      };
    } in
    within_fails told _ _ _ c.args.self.now c.zero_new.new.self (view c.args.dev.now) (view c.zero_new.new.dev) _ _ _ _ _ c.from_residual-in_err-zero_new.result c.from_residual-in_err-zero_new.ensures.1 this (omega arith) (omega arith)

pub returns-clause-cost : goal.returns-clause-cost
returns-clause-cost g c =
    let view = g.D.Device.view in
    let way = c.in_ok-make_way.ensures in
    let zero = c.in_ok-zero_new.ensures in
    let add = c.add_blocks.ensures.cost in
    let one : owed c.make_way.new.self.tables ≡ owed c.args.self.now.tables = ap (λ (v : Volume). owed v.tables) way.same in
    let two : owed c.zero_new.new.self.tables ≡ owed c.make_way.new.self.tables = ap (λ (v : Volume). owed v.tables) zero.same in
    let ring : checkpoint_writes c.zero_new.new.self.ring ≡ checkpoint_writes c.make_way.new.self.ring = ap (λ (v : Volume). checkpoint_writes v.ring) zero.same in
    let size : c.make_way.new.self.tables.geometry.sectors * length c.args.blocks.now ≡ c.args.self.now.tables.geometry.sectors * length c.args.blocks.now = ap (λ (k : Geometry). k.sectors * length c.args.blocks.now) way.operation.geometry in
    let before : (view c.make_way.new.dev).writes + due c.make_way.new.self ≤ (view c.args.dev.now).writes + due c.args.self.now + 0 = way.cost.paid in
    record {
      any_owed = λ t.
          owed_joined (view c.args.dev.now) (view c.zero_new.new.dev) (view c.add_blocks.new.dev) (owed c.zero_new.new.self.tables) (owed c.args.self.now.tables)
          (owed_joined (view c.args.dev.now) (view c.make_way.new.dev) (view c.zero_new.new.dev) (owed c.make_way.new.self.tables) (owed c.args.self.now.tables)
          (way.cost.any_owed t) (zero.any_owed t) (omega (arith, one)))
          (add.any_owed t) (omega (arith, one, two));
      paid = ok_map c.add_blocks.result _ _ (λ paid. omega (arith, before, two, ring, zero.uses.most, size, paid)) add.paid;
      uses = record {
        clock = omega (arith, way.cost.uses.clock, zero.uses.clock, add.uses.clock);
        faults = omega (arith, way.cost.uses.faults, zero.uses.faults, add.uses.faults);
        put_faults = add.uses.put_faults ∙ (zero.uses.put_faults ∙ way.cost.uses.put_faults);
        writes = omega (arith, way.cost.uses.writes, zero.uses.writes, add.uses.writes);
        most = omega (arith, before, one, ring, zero.uses.most, size, add.uses.most);
      };
    }

pub returns-clause-ring : goal.returns-clause-ring
returns-clause-ring g c =
    let k = c.args.self.now.tables.geometry in
    let bs = c.args.blocks.now in
    let same : c.zero_new.new.self.ring ≡ c.make_way.new.self.ring = ap (λ (v : Volume). v.ring) c.in_ok-zero_new.ensures.same in
    ok_map c.add_blocks.result _ _ (λ (new : HasBatch (3 * length bs) c.zero_new.new.self.ring c.add_blocks.new.self.ring).
    (c.make_way.new.self.ring, c.in_ok-make_way.ensures.way, subst (λ (rs : List JournalRecord). HasBatch (3 * length bs) rs c.add_blocks.new.self.ring) same new))
    c.add_blocks.ensures.ring
