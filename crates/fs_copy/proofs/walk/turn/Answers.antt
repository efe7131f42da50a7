use Rattle.std.proofs.Common.{◌∙◌}
use Rattle.fs_copy.proofs.Common.{tree_under}
use Rattle.fs_copy.proofs.GoingLaws.{source_of}
use Rattle.fs_copy.proofs.TurnLaws.{Leaves, after_name, ahead_again, ahead_here, hold_here, name_lost, next_here, none_ahead, turn_again, turn_left}
use Rattle.fs_copy.proofs.walk.turn.Goals as goal

pub next_name-requires : goal.next_name-requires
next_name-requires g c =
    record { set = source_of c.requires.set; dir = c.requires.dir; ahead = c.requires.ahead }

pub returns-in-Err-clause-turns : goal.returns-in-Err-clause-turns
returns-in-Err-clause-turns g c = name_lost c.requires.set c.requires.dir c.in-Err.ensures.only c.in-Err.ensures.looks

pub enter-requires : goal.enter-requires
enter-requires g c =
    let name = after_name c.requires.set c.requires.dir (g.met.K.Blocks.sound c.args.disk.now) c.in-Ok.ensures.same c.in-Ok.ensures.told c.in-Ok.ensures.looks in
    record { set = name.look.set; next = next_here name c.in-Some.is; ahead = ahead_here name c.next_name.new.ahead.items c.in-Some.is c.in-Ok.ensures.ahead; hold = hold_here name c.requires.hold }

pub returns-in-Some : goal.returns-in-Some
returns-in-Some g c =
    let name = after_name c.requires.set c.requires.dir (g.met.K.Blocks.sound c.args.disk.now) c.in-Ok.ensures.same c.in-Ok.ensures.told c.in-Ok.ensures.looks in
    let entered = c.enter.ensures in
    record { turns = turn_again name entered.turns; ahead = ahead_again name c.enter.new.path c.enter.new.after c.enter.new.ahead.items c.enter.result entered.ahead; from_same = entered.from_same ∙ c.in-Ok.ensures.same; into_same = entered.into_same }

pub returns-in-None-clause-turns : goal.returns-in-None-clause-turns
returns-in-None-clause-turns g c =
    let name = after_name c.requires.set c.requires.dir (g.met.K.Blocks.sound c.args.disk.now) c.in-Ok.ensures.same c.in-Ok.ensures.told c.in-Ok.ensures.looks in
    let left : Leaves c.args.path.now c.leave.new.path c.leave.new.after c.leave.result = record { on = c.leave.ensures.on; over = c.leave.ensures.over; there = c.leave.ensures.there } in
    turn_left name left c.in-None.is

pub returns-in-None-clause-ahead : goal.returns-in-None-clause-ahead
returns-in-None-clause-ahead g c = λ t _. none_ahead (tree_under (g.A.Files.view c.args.from.now) (g.K.Blocks.view c.args.disk.now)) c.leave.new.path c.leave.new.after c.clear.ensures
