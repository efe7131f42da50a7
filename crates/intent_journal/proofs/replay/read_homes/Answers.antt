use Rattle.std.proofs.Common.{◌≡◌, length, ◌∙◌, ap, arith}
use Rattle.intent_journal.proofs.Common.{length-map-range_with_len, count_in, home_in}
use Rattle.intent_journal.proofs.Gates.{valid_room}
use Rattle.intent_journal.proofs.replay.read_homes.Goals as goal

pub returns-in-Some-clause-room : goal.returns-in-Some-clause-room
returns-in-Some-clause-room g c =
    let long : length c.in-Some.homes.items ≡ count_in c.read.new.into = ap length c.in-Some.ensures.1 ∙ length-map-range_with_len (home_in c.read.new.into) 0 (count_in c.read.new.into) in
    omega (arith, long, valid_room c.args.start c.read.new.into c.in-Some.ensures.0)
