use Rattle.std.proofs.Common.{◌≡◌, ◌+◌, ◌*◌, true, false, ◌∙◌, ap, arith}
use Rattle.fs_copy.proofs.Common.{nat_tests, tree_under}
use Rattle.fs_copy.proofs.TurnLaws.{none_ahead}
use Rattle.fs_copy.proofs.WalkLaws.{first_turn, still_ahead, turn_ahead, turn_count, turn_dir, turn_end, turn_hold, turn_lost, turn_never, turn_next, turn_set}
use Rattle.fs_copy.proofs.walk.copy_entries.Goals as goal

pub loop-left-init : goal.loop-left-init
loop-left-init g c =
    let many = c.turns_max-left.ensures ∙ ap (λ x. 2 * (x.blocks + 4096) + 1) c.geometry.ensures in
    (first_turn c.requires.set (g.met.K.Blocks.sound c.args.disk.now) c.new-path.ensures c.new-after.ensures many, λ t. none_ahead (tree_under (g.A.Files.view c.args.from.now) (g.K.Blocks.view c.args.disk.now)) c.new-path.result c.new-after.result c.new-ahead.ensures)

pub turn-requires : goal.turn-requires
turn-requires g c =
    let here = c.loop-left.invariant.0 in
    record { set = turn_set here; dir = turn_dir here; ahead = turn_ahead here c.loop-left.ahead.items c.loop-left.invariant.1; hold = turn_hold here c.requires.hold }

pub returns-in-Err : goal.returns-in-Err
returns-in-Err g c =
    let here = c.loop-left.invariant.0 in
    record {
      goes = turn_lost here c.in-Err.ensures.turns;
      count = λ t. tt;
      from_same = c.in-Err.ensures.from_same ∙ here.from_same;
      into_same = c.in-Err.ensures.into_same ∙ here.into_same;
    }

pub returns-then-not-more : goal.returns-then-not-more
returns-then-not-more g c =
    let here = c.loop-left.invariant.0 in
    let over : c.in-Ok.more ≡ false = (let no_more = c.if-not-more.true in grind (arith, nat_tests)) in
    record {
      goes = turn_end here c.in-Ok.ensures.turns over;
      count = turn_count here c.in-Ok.ensures.turns over;
      from_same = c.in-Ok.ensures.from_same ∙ here.from_same;
      into_same = c.in-Ok.ensures.into_same ∙ here.into_same;
    }

pub loop-left-preserved : goal.loop-left-preserved
loop-left-preserved g c =
    let on : c.in-Ok.more ≡ true = (let more = c.if-not-more.false in grind (arith, nat_tests)) in
    let here = c.loop-left.invariant.0 in
    (turn_next here c.in-Ok.ensures.turns on c.loop-left-test.true c.in-Ok.ensures.from_same c.in-Ok.ensures.into_same, still_ahead here c.turn.new.path c.turn.new.after c.turn.new.ahead.items on c.in-Ok.ensures.ahead)

pub returns : goal.returns
returns g c =
    let here = c.loop-left.invariant.0 in
    record {
      goes = turn_never here (omega (arith, c.loop-left-test.false));
      count = λ t. tt;
      from_same = here.from_same;
      into_same = here.into_same;
    }
