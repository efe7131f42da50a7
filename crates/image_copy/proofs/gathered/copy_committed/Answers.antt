use Rattle.std.proofs.Common.{sym}
use Rattle.image_copy.proofs.GatheredLaws.{at_then, committed, given_back, here_then, no_end, not_committed, ready_begun, ready_then}
use Rattle.image_copy.proofs.gathered.copy_committed.Goals as goal

pub gather_copy-left-requires-clause-start : goal.gather_copy-left-requires-clause-start
gather_copy-left-requires-clause-start g c =
    ready_begun g.D.Device.told g.D.Device.view (λ d told. g.met.D.Device.sound d told) (g.A.Files.view c.args.from.now) (g.B.Files.view c.args.into.now) c.args.core.now c.begin.new.core c.begin.new.room c.args.dev.now c.begin.ensures.core c.begin.ensures.ring c.begin.ensures.none c.begin.ensures.ready.ready.unspent c.requires.start c.requires.open c.requires.apart

pub finish-requires-clause-here : goal.finish-requires-clause-here
finish-requires-clause-here g c =
    let left = c.gather_copy-left in
    here_then g.D.Device.told g.D.Device.view (λ d told. g.met.D.Device.sound d told) (g.A.Files.view c.args.from.now) (g.B.Files.view c.args.into.now) c.args.core.now c.begin.new.core c.begin.new.room c.args.dev.now c.begin.ensures.core c.begin.ensures.ring c.begin.ensures.none c.begin.ensures.ready.ready.unspent c.requires.start _ left.new.outcome
    (given_back (c.core-1.given.1 (sym left.ensures.lent_core)) (c.room-1.given.1 (sym left.ensures.lent_room)) (c.dev-1.given.1 (sym left.ensures.lent_dev)) left.ensures.gathered) c.in-Ok.end c.in-Ok.is

pub finish-requires-clause-ready : goal.finish-requires-clause-ready
finish-requires-clause-ready g c =
    let left = c.gather_copy-left in
    ready_then g.D.Device.told g.D.Device.view (λ d told. g.met.D.Device.sound d told) (g.A.Files.view c.args.from.now) (g.B.Files.view c.args.into.now) c.args.core.now c.begin.new.core c.begin.new.room c.args.dev.now c.begin.ensures.core c.begin.ensures.ring c.begin.ensures.none c.begin.ensures.ready.ready.unspent c.requires.start _ left.new.outcome
    (given_back (c.core-1.given.1 (sym left.ensures.lent_core)) (c.room-1.given.1 (sym left.ensures.lent_room)) (c.dev-1.given.1 (sym left.ensures.lent_dev)) left.ensures.gathered) c.in-Ok.end c.in-Ok.is

pub finish-requires-clause-at : goal.finish-requires-clause-at
finish-requires-clause-at g c =
    let left = c.gather_copy-left in
    at_then g.D.Device.told g.D.Device.view (λ d told. g.met.D.Device.sound d told) (g.A.Files.view c.args.from.now) (g.B.Files.view c.args.into.now) c.args.core.now c.begin.new.core c.begin.new.room c.args.dev.now c.begin.ensures.core c.begin.ensures.ring c.begin.ensures.none c.begin.ensures.ready.ready.unspent c.requires.start _ left.new.outcome
    (given_back (c.core-1.given.1 (sym left.ensures.lent_core)) (c.room-1.given.1 (sym left.ensures.lent_room)) (c.dev-1.given.1 (sym left.ensures.lent_dev)) left.ensures.gathered) c.in-Ok.end c.in-Ok.is

pub returns-in-Ok-finish : goal.returns-in-Ok-finish
returns-in-Ok-finish g c =
    let left = c.gather_copy-left in
    let e = c.in-Ok-finish.ensures in
    committed g.D.Device.told g.D.Device.view (λ d told. g.met.D.Device.sound d told) (g.A.Files.view c.args.from.now) (g.B.Files.view c.args.into.now) c.args.core.now c.begin.new.core c.begin.new.room c.args.dev.now c.begin.ensures.core c.begin.ensures.ring c.begin.ensures.none c.begin.ensures.ready.ready.unspent c.requires.start _ left.new.outcome
    (given_back (c.core-1.given.1 (sym left.ensures.lent_core)) (c.room-1.given.1 (sym left.ensures.lent_room)) (c.dev-1.given.1 (sym left.ensures.lent_dev)) left.ensures.gathered) c.in-Ok.end c.in-Ok.is c.finish.new.core c.finish.new.dev e.any_moment e.behind e.sent e.size e.works e.ready e.at e.world e.faults

pub returns-in-Err-finish : goal.returns-in-Err-finish
returns-in-Err-finish g c =
    let left = c.gather_copy-left in
    let e = c.in-Err-finish.ensures in
    not_committed g.D.Device.told g.D.Device.view (λ d told. g.met.D.Device.sound d told) (g.A.Files.view c.args.from.now) (g.B.Files.view c.args.into.now) c.args.core.now c.begin.new.core c.begin.new.room c.args.dev.now c.begin.ensures.core c.begin.ensures.ring c.begin.ensures.none c.begin.ensures.ready.ready.unspent c.requires.start _ left.new.outcome
    (given_back (c.core-1.given.1 (sym left.ensures.lent_core)) (c.room-1.given.1 (sym left.ensures.lent_room)) (c.dev-1.given.1 (sym left.ensures.lent_dev)) left.ensures.gathered) c.in-Ok.end c.in-Ok.is c.finish.new.core c.finish.new.dev e.any_moment e.behind e.sent e.size e.works e.faults

pub returns-in-Err : goal.returns-in-Err
returns-in-Err g c =
    let left = c.gather_copy-left in
    no_end g.D.Device.told g.D.Device.view (λ d told. g.met.D.Device.sound d told) (g.A.Files.view c.args.from.now) (g.B.Files.view c.args.into.now) c.args.core.now c.begin.new.core c.begin.new.room c.args.dev.now c.begin.ensures.core c.begin.ensures.ring c.begin.ensures.none c.begin.ensures.ready.ready.unspent c.requires.start _ left.new.outcome
    (given_back (c.core-1.given.1 (sym left.ensures.lent_core)) (c.room-1.given.1 (sym left.ensures.lent_room)) (c.dev-1.given.1 (sym left.ensures.lent_dev)) left.ensures.gathered) c.in-Err.why c.in-Err.is
