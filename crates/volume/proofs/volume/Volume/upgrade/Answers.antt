use Rattle.std.proofs.Common.{◌≡◌, ◌+◌, [], ap, arith}
use Rattle.volume.proofs.Common.{upgraded, checkpoint_writes, owed, Volume, batch_cost, then_kept, op_fails, within_then, within_fails, batch_of_none, home}
use Rattle.volume_laws.proofs.DigestLaws.{digests_erased, all_stays}
use Rattle.volume.proofs.volume.Volume.upgrade.Goals as goal

pub returns-in_err-change_version-clause-cost : goal.returns-in_err-change_version-clause-cost
returns-in_err-change_version-clause-cost g c =
    let told = g.D.Device.told in
    let view = g.D.Device.view in
    within_fails told _ _ _ c.args.self.now c.change_version.new.self (view c.args.dev.now) (view c.change_version.new.dev) _ _ _ _ _ c.from_residual.result c.from_residual.ensures.1 c.in_err-change_version.ensures.cost (omega arith) (omega arith)

pub returns-in_err-empty_ring-clause-operation : goal.returns-in_err-empty_ring-clause-operation
returns-in_err-empty_ring-clause-operation g c =
    let told = g.D.Device.told in
    let view = g.D.Device.view in
    op_fails told upgraded c.args.self.now c.empty_ring.new.self (view c.args.dev.now) (view c.empty_ring.new.dev) _ _ c.from_residual-in_err-empty_ring.result c.from_residual-in_err-empty_ring.ensures.1 (then_kept told upgraded c.args.self.now c.change_version.new.self c.empty_ring.new.self (view c.args.dev.now) (view c.change_version.new.dev) (view c.empty_ring.new.dev) _ _ c.in_ok-change_version.ensures.operation c.in_err-empty_ring.ensures.operation)

pub returns-clause-operation : goal.returns-clause-operation
returns-clause-operation g c =
    let told = g.D.Device.told in
    let view = g.D.Device.view in
    then_kept told upgraded c.args.self.now c.empty_ring.new.self c.erase.new.self (view c.args.dev.now) (view c.empty_ring.new.dev) (view c.erase.new.dev) _ c.erase.result (then_kept told upgraded c.args.self.now c.change_version.new.self c.empty_ring.new.self (view c.args.dev.now) (view c.change_version.new.dev) (view c.empty_ring.new.dev) _ _ c.in_ok-change_version.ensures.operation c.in_ok-empty_ring.ensures.operation) c.erase.ensures.operation

pub returns-in_err-empty_ring-clause-cost : goal.returns-in_err-empty_ring-clause-cost
returns-in_err-empty_ring-clause-cost g c =
    let told = g.D.Device.told in
    let view = g.D.Device.view in
    let one = c.change_version.ensures.owes in
    within_fails told _ _ _ c.args.self.now c.empty_ring.new.self (view c.args.dev.now) (view c.empty_ring.new.dev) _ _ _ _ _ c.from_residual-in_err-empty_ring.result c.from_residual-in_err-empty_ring.ensures.1
    (within_then told c.args.self.now c.change_version.new.self c.empty_ring.new.self (view c.args.dev.now) (view c.change_version.new.dev) (view c.empty_ring.new.dev) _ _ _ _ _ _ _ _ (owed c.args.self.now.tables) (batch_cost 3) (checkpoint_writes c.args.self.now.ring + batch_cost 3) c.in_ok-change_version.ensures.cost c.in_err-empty_ring.ensures.cost (omega arith) (omega (arith, one)) (omega arith) (omega (arith, one)))
    (omega arith) (omega arith)

pub returns-clause-cost : goal.returns-clause-cost
returns-clause-cost g c =
    let told = g.D.Device.told in
    let view = g.D.Device.view in
    let one = c.change_version.ensures.owes in
    let two : owed c.empty_ring.new.self.tables ≡ owed c.change_version.new.self.tables = ap (λ (v : Volume). owed v.tables) c.in_ok-empty_ring.ensures.same in
    let ring : checkpoint_writes c.empty_ring.new.self.ring ≡ checkpoint_writes [] = ap (λ (v : Volume). checkpoint_writes v.ring) c.in_ok-empty_ring.ensures.same in
    within_then told c.args.self.now c.empty_ring.new.self c.erase.new.self (view c.args.dev.now) (view c.empty_ring.new.dev) (view c.erase.new.dev) _ c.erase.result _ _ _ _ _ _ (owed c.args.self.now.tables) (batch_cost 3 + 113) (checkpoint_writes c.args.self.now.ring + batch_cost 3 + 113)
    (within_then told c.args.self.now c.change_version.new.self c.empty_ring.new.self (view c.args.dev.now) (view c.change_version.new.dev) (view c.empty_ring.new.dev) _ _ _ _ _ _ _ _ (owed c.args.self.now.tables) (batch_cost 3) (checkpoint_writes c.args.self.now.ring + batch_cost 3) c.in_ok-change_version.ensures.cost c.in_ok-empty_ring.ensures.cost (omega arith) (omega (arith, one)) (omega arith) (omega (arith, one)))
    c.erase.ensures.cost (omega arith) (omega (arith, one, two)) (omega arith) (omega (arith, one, two, ring))

pub returns-in_err-change_version-clause-none : goal.returns-in_err-change_version-clause-none
returns-in_err-change_version-clause-none g c two = let few = (c.in_err-change_version.ensures.none two).most in omega (arith, few)

pub returns-in_err-empty_ring-clause-none : goal.returns-in_err-empty_ring-clause-none
returns-in_err-empty_ring-clause-none g c two =
    let once = c.in_ok-change_version.ensures.none two in
    let few = once.most in
    let ring = ap checkpoint_writes (batch_of_none c.args.self.now.ring c.change_version.new.self.ring once.ring) in
    let then = c.in_err-empty_ring.ensures.cost.uses.most in
    omega (arith, few, ring, then)

pub returns-clause-none : goal.returns-clause-none
returns-clause-none g c two =
    let once = c.in_ok-change_version.ensures.none two in
    let few = once.most in
    let ring = ap checkpoint_writes (batch_of_none c.args.self.now.ring c.change_version.new.self.ring once.ring) in
    let then = c.in_ok-empty_ring.ensures.cost.uses.most in
    let last = c.erase.ensures.cost.uses.most in
    omega (arith, few, ring, then, last)

pub returns-clause-digests : goal.returns-clause-digests
returns-clause-digests g c told one =
    let view = g.D.Device.view in
    digests_erased c.erase.result (home (view c.change_version.new.dev).reads) (view c.empty_ring.new.dev) (view c.erase.new.dev) (c.in_ok-empty_ring.ensures.placed told) (c.erase.ensures.confined told)
    c.empty_ring.new.self c.erase.new.self c.change_version.new.self.tables.records (c.in_ok-change_version.ensures.digests told one)
    (ap (λ (v : Volume). v.tables.records) c.in_ok-empty_ring.ensures.same) c.erase.ensures.same

pub returns-clause-stays : goal.returns-clause-stays
returns-clause-stays g c told two =
    let view = g.D.Device.view in
    all_stays c.erase.result (home (view c.args.dev.now).reads) (home (view c.change_version.new.dev).reads) (view c.empty_ring.new.dev) (view c.erase.new.dev)
    (c.in_ok-change_version.ensures.stays told two) (c.in_ok-empty_ring.ensures.placed told) (c.erase.ensures.confined told)
