use Rattle.std.proofs.Common.{arith, sym, subst}
use Rattle.shell_server.proofs.Common.{IsGathered, IsTrue, IsValid, There, is_there, tree_under}
use Rattle.gathered_tasks.proofs.CarryLaws.{begun_in_memory}
use Rattle.gathered_tasks.proofs.HoldLaws.{fault_of, same_of}
use Rattle.shell_server.proofs.GatheredLaws.{Begins, committed, err_of, fault_in_ask, fault_in_commit, fits_begun, ok_of, once, world_begun}
use Rattle.shell_server.proofs.SendLaws.{on_answer}
use Rattle.shell_server.proofs.changes.change_on.Goals.{After-outcome-1, After-outcome-2-1}
use Rattle.shell_server.proofs.changes.change_on.Goals as goal

-- what there is as it begins
begins : (g : _) (c : After-outcome-1 g) → Begins g.D.Device.told g.D.Device.view g.K.Started.start (g.F.Files.view c.args.files.now) c.args.request.now c.args.core.now (record { core = c.begin.new.core; room = c.begin.new.room; dev = c.args.dev.now })
begins g c = record {
  sound = λ d told. g.met.D.Device.sound d told;
  changes = c.requires.changes;
  hears = c.requires.heard;
  core = c.begin.ensures.core;
  ring = c.begin.ensures.ring;
  none = c.begin.ensures.none;
  unspent = c.begin.ensures.ready.ready.unspent;
  at = c.requires.at;
}

-- and once all was gathered, in what was lent
module _ (g : _) (c : After-outcome-2-1 g) where
  now : There g.row.D.Denot
  now = record { core = c.core-1.given.0; room = c.room-1.given.0; dev = c.dev-1.given.0 }

  did : IsGathered g.D.Device.told g.D.Device.view (g.D.Device.view c.args.dev.now) (g.F.Files.view c.args.files.now) (g.F.Files.view c.gather-left.new.files) (record { core = c.begin.new.core; room = c.begin.new.room; dev = c.args.dev.now }) (record { core = c.core-1.given.0; room = c.room-1.given.0; dev = c.dev-1.given.0 }) c.args.request.now c.gather-left.new.outcome
  did =
      let e = c.gather-left.ensures in
      rw (c.core-1.given.1 (sym e.lent_core), c.room-1.given.1 (sym e.lent_room), c.dev-1.given.1 (sym e.lent_dev)) e.gathered

pub gather-left-requires-clause-at : goal.gather-left-requires-clause-at
gather-left-requires-clause-at g c told =
    begun_in_memory c.args.core.now (g.D.Device.view c.args.dev.now) ((c.requires.at told).0, (c.requires.at told).1.core) c.begin.new.core c.begin.new.room.ring _ c.begin.ensures.core c.begin.ensures.ring c.begin.ensures.none

pub gather-left-requires-clause-valid : goal.gather-left-requires-clause-valid
gather-left-requires-clause-valid g c told = subst IsValid (sym (world_begun (begins g (goal.at.gather-left-requires-clause-valid g c).After-outcome-1) told)) (c.requires.at told).1.kept.valid

pub gather-left-requires-clause-fits : goal.gather-left-requires-clause-fits
gather-left-requires-clause-fits g c told = fits_begun (begins g (goal.at.gather-left-requires-clause-fits g c).After-outcome-1) told

pub gather-left-requires-clause-tree : goal.gather-left-requires-clause-tree
gather-left-requires-clause-tree g c told on =
    subst (λ w. IsTrue (is_there (tree_under (g.F.Files.view c.args.files.now) w))) (sym (world_begun (begins g (goal.at.gather-left-requires-clause-tree g c).After-outcome-1) told)) ((c.requires.at told).1.there on)

pub finish-requires-clause-at : goal.finish-requires-clause-at
finish-requires-clause-at g c told =
    let i = (goal.at.finish-requires-clause-at g c).After-outcome-2-1 in
    on_answer _ c.gather-left.new.outcome (c.is_fault.ensures.is_not c.if-is_fault.false) ((did g i).at told)

pub returns-then-is_fault-clause-carried : goal.returns-then-is_fault-clause-carried
returns-then-is_fault-clause-carried g c =
    let i = (goal.at.returns-then-is_fault-clause-carried g c).After-outcome-2-1 in
    fault_in_ask (begins g (goal.at.returns-then-is_fault-clause-carried g c).After-outcome-1) (did g i) (c.is_fault.ensures.is c.if-is_fault.true)

pub returns-then-is_err-clause-carried : goal.returns-then-is_err-clause-carried
returns-then-is_err-clause-carried g c =
    let i = (goal.at.returns-then-is_err-clause-carried g c).After-outcome-2-1 in
    let r = c.finish.result in
    let e = c.finish.ensures in
    fault_in_commit (begins g (goal.at.returns-then-is_err-clause-carried g c).After-outcome-1) (did g i) (c.is_fault.ensures.is_not c.if-is_fault.false) c.finish.new.core c.finish.new.dev e.any_moment e.behind e.sent e.size e.works
    (err_of r c.is_err.result c.if-is_err.true c.is_err.ensures.value e.spent) (fault_of r c.is_err.result _ _ c.if-is_err.true c.is_err.ensures.value e.faults)

pub returns-clause-carried : goal.returns-clause-carried
returns-clause-carried g c =
    let i = (goal.at.returns-clause-carried g c).After-outcome-2-1 in
    let r = c.finish.result in
    let e = c.finish.ensures in
    let was = c.is_err.ensures.value in
    let well = c.if-is_err.false in
    committed (begins g (goal.at.returns-clause-carried g c).After-outcome-1) (did g i) (c.is_fault.ensures.is_not c.if-is_fault.false) c.finish.new.core c.finish.new.dev e.any_moment e.behind e.sent e.size e.works c.requires.ready.client
    (ok_of r c.is_err.result well was e.ready) (λ told. ok_of r c.is_err.result well was (e.at told)) (λ told. ok_of r c.is_err.result well was (e.world told)) (ok_of r c.is_err.result well was e.told) (same_of r c.is_err.result _ _ well was e.faults)

pub returns-then-is_fault-clause-once : goal.returns-then-is_fault-clause-once
returns-then-is_fault-clause-once g c told =
    let i = (goal.at.returns-then-is_fault-clause-once g c).After-outcome-2-1 in
    once (begins g (goal.at.returns-then-is_fault-clause-once g c).After-outcome-1) (did g i) told (g.D.Device.view c.dev-1.given.0) (omega arith)

pub returns-then-is_err-clause-once : goal.returns-then-is_err-clause-once
returns-then-is_err-clause-once g c told =
    let i = (goal.at.returns-then-is_err-clause-once g c).After-outcome-2-1 in
    once (begins g (goal.at.returns-then-is_err-clause-once g c).After-outcome-1) (did g i) told (g.D.Device.view c.finish.new.dev) c.finish.ensures.most

pub returns-clause-once : goal.returns-clause-once
returns-clause-once g c told =
    let i = (goal.at.returns-clause-once g c).After-outcome-2-1 in
    once (begins g (goal.at.returns-clause-once g c).After-outcome-1) (did g i) told (g.D.Device.view c.finish.new.dev) c.finish.ensures.most
