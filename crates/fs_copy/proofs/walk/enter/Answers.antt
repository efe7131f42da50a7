use Rattle.fs_copy.proofs.Common.{tree_under}
use Rattle.fs_copy.proofs.TurnLaws.{Leaves, ahead_passed, at_entry, dir_entered, entry_fits, entry_hold, entry_never, entry_refused, entry_there, file_passed, none_ahead}
use Rattle.fs_copy.proofs.walk.enter.Goals as goal

pub returns-in-Err-clause-turns : goal.returns-in-Err-clause-turns
returns-in-Err-clause-turns g c =
    let here = at_entry c.requires.set (g.met.K.Blocks.sound c.args.disk.now) c.requires.next in
    entry_never here {q = c.push.new.self} {b = c.args.after.now} (λ t. (let ok = c.in-Err.ensures.variant.1 (entry_fits here t) in absurd (cc)))

pub copy_entry-requires-clause-there : goal.copy_entry-requires-clause-there
copy_entry-requires-clause-there g c =
    let here = at_entry c.requires.set (g.met.K.Blocks.sound c.args.disk.now) c.requires.next in
    entry_there here c.in-Ok.ensures.ok

pub copy_entry-requires-clause-hold : goal.copy_entry-requires-clause-hold
copy_entry-requires-clause-hold g c =
    let here = at_entry c.requires.set (g.met.K.Blocks.sound c.args.disk.now) c.requires.next in
    entry_hold here c.in-Ok.ensures.ok c.requires.hold

pub returns-in-Err-copy_entry-clause-turns : goal.returns-in-Err-copy_entry-clause-turns
returns-in-Err-copy_entry-clause-turns g c =
    let here = at_entry c.requires.set (g.met.K.Blocks.sound c.args.disk.now) c.requires.next in
    entry_refused here c.in-Ok.ensures.ok {b = c.args.after.now} c.in-Err-copy_entry.ensures.goes

pub returns-in-Some-clause-turns : goal.returns-in-Some-clause-turns
returns-in-Some-clause-turns g c =
    let here = at_entry c.requires.set (g.met.K.Blocks.sound c.args.disk.now) c.requires.next in
    let copied = c.in-Ok-copy_entry.ensures in
    let left : Leaves c.push.new.self c.leave.new.path c.leave.new.after c.leave.result = record { on = c.leave.ensures.on; over = c.leave.ensures.over; there = c.leave.ensures.there } in
    file_passed here c.in-Ok.ensures.ok copied.told copied.goes c.counted.ensures left c.in-Some.is

pub returns-in-None-clause-turns : goal.returns-in-None-clause-turns
returns-in-None-clause-turns g c =
    let here = at_entry c.requires.set (g.met.K.Blocks.sound c.args.disk.now) c.requires.next in
    let copied = c.in-Ok-copy_entry.ensures in
    dir_entered here c.in-Ok.ensures.ok copied.told copied.goes c.counted.ensures c.new.ensures c.in-None.is

pub returns-in-Some-clause-ahead : goal.returns-in-Some-clause-ahead
returns-in-Some-clause-ahead g c =
    let left : Leaves c.push.new.self c.leave.new.path c.leave.new.after c.leave.result = record { on = c.leave.ensures.on; over = c.leave.ensures.over; there = c.leave.ensures.there } in
    λ t. ahead_passed (tree_under (g.A.Files.view c.args.from.now) (g.K.Blocks.view c.args.disk.now)) c.args.path.now c.args.name c.args.ahead.now.items c.in-Ok.ensures.ok left (c.requires.ahead t)

pub returns-in-None-clause-ahead : goal.returns-in-None-clause-ahead
returns-in-None-clause-ahead g c = λ t _. none_ahead (tree_under (g.A.Files.view c.args.from.now) (g.K.Blocks.view c.args.disk.now)) c.push.new.self c.new.result c.clear.ensures
