use Rattle.volume.proofs.Common.{kept_then, kept_fails, within_then, within_fails, Geometry, pairs_of, with_new_blocks, AreFree, owed, IsOperation, due, zeroed_cost, HasNewBlocks, HasBatches, JournalRecord, ok_map}
use Rattle.std.proofs.Common.{◌≡◌, ◌≤◌, ◌+◌, ℕ, List, length, sym, ◌∙◌, ap, subst, arith}
use Rattle.volume_laws.proofs.Allocated.{told_free, told_room}
use Rattle.volume.proofs.volume.Volume.allocate.Goals as goal

pub grow-requires-clause-free : goal.grow-requires-clause-free
grow-requires-clause-free g c =
    let now = c.settle_all.new.self in
    let ok = c.in_ok-settle_all.ensures in
    subst (λ (bs : List ℕ). AreFree now.tables.live now.tables.geometry.blocks bs) (sym c.as_slice.ensures.value)
    (told_free c.args.self.now now c.args.blocks.now ok.ready ok.settled ok.told c.requires.free c.requires.apart)

pub grow-requires-clause-room : goal.grow-requires-clause-room
grow-requires-clause-room g c =
    let now = c.settle_all.new.self in
    let ok = c.in_ok-settle_all.ensures in
    subst (λ (bs : List ℕ). length (pairs_of now.tables) + length bs ≤ now.tables.geometry.slots) (sym c.as_slice.ensures.value)
    (told_room c.args.self.now now c.args.blocks.now ok.ready ok.settled ok.told c.in_ok-settle_all.ensures.operation.geometry c.requires.room)

pub returns-in_err-settle_all-clause-operation : goal.returns-in_err-settle_all-clause-operation
returns-in_err-settle_all-clause-operation g c =
    let told = g.D.Device.told in
    let view = g.D.Device.view in
    kept_fails told (λ w. with_new_blocks w c.args.source c.args.blocks.now) c.args.self.now c.settle_all.new.self (view c.args.dev.now) (view c.settle_all.new.dev) _ _ c.from_residual.result c.from_residual.ensures.1 c.in_err-settle_all.ensures.operation

pub returns-in_err-settle_all-clause-cost : goal.returns-in_err-settle_all-clause-cost
returns-in_err-settle_all-clause-cost g c =
    let told = g.D.Device.told in
    let view = g.D.Device.view in
    within_fails told _ _ _ c.args.self.now c.settle_all.new.self (view c.args.dev.now) (view c.settle_all.new.dev) _ _ _ _ _ c.from_residual.result c.from_residual.ensures.1 c.in_err-settle_all.ensures.cost (omega arith) (omega arith)

pub returns-clause-operation : goal.returns-clause-operation
returns-clause-operation g c =
    let told = g.D.Device.told in
    let view = g.D.Device.view in
    kept_then told (λ w. with_new_blocks w c.args.source c.args.blocks.now) c.args.self.now c.settle_all.new.self c.grow.new.self (view c.args.dev.now) (view c.settle_all.new.dev) (view c.grow.new.dev) _ c.grow.result c.in_ok-settle_all.ensures.operation
    (subst (λ (bs : List ℕ). IsOperation told bs (λ w. with_new_blocks w c.args.source bs) c.settle_all.new.self c.grow.new.self (view c.settle_all.new.dev) (view c.grow.new.dev) c.grow.result) c.as_slice.ensures.value c.grow.ensures.operation)

pub returns-clause-cost : goal.returns-clause-cost
returns-clause-cost g c =
    let told = g.D.Device.told in
    let view = g.D.Device.view in
    let ok = c.in_ok-settle_all.ensures in
    let none = ok.settled in
    let then = c.grow.ensures.cost in
    let cost : zeroed_cost c.settle_all.new.self.tables.geometry (length c.as_slice.result.now) ≡ zeroed_cost c.args.self.now.tables.geometry (length c.args.blocks.now) =
    ap (λ (k : Geometry). zeroed_cost k (length c.as_slice.result.now)) ok.operation.geometry ∙ ap (λ (bs : List ℕ). zeroed_cost c.args.self.now.tables.geometry (length bs)) c.as_slice.ensures.value in
    within_then told c.args.self.now c.settle_all.new.self c.grow.new.self (view c.args.dev.now) (view c.settle_all.new.dev) (view c.grow.new.dev) _ c.grow.result _ _ _ _ _ _ (owed c.args.self.now.tables) (zeroed_cost c.args.self.now.tables.geometry (length c.args.blocks.now)) (due c.args.self.now + zeroed_cost c.args.self.now.tables.geometry (length c.args.blocks.now)) ok.cost then
    (omega arith) (omega (arith, none)) (omega (arith, cost)) (omega (arith, cost))

pub returns-clause-ring : goal.returns-clause-ring
returns-clause-ring g c =
    let mid = c.settle_all.new.self in
    let now = c.grow.new.self in
    let here = λ (k : Geometry) (bs : List ℕ). HasNewBlocks k bs mid.ring now.ring in
    ok_map c.grow.result _ _ (λ (new : here mid.tables.geometry c.as_slice.result.now). (
      mid.ring,
      c.in_ok-settle_all.ensures.ring,
      subst (λ (k : Geometry). here k c.args.blocks.now) c.in_ok-settle_all.ensures.operation.geometry (subst (here mid.tables.geometry) c.as_slice.ensures.value new),
    ))
    c.grow.ensures.ring
