use Rattle.std.proofs.Common.{◌∙◌, length, ap, arith}
use Rattle.intent_journal.proofs.Common.{uses_and, uses_within, rests_joined}
use Rattle.intent_journal.proofs.Replaying.{looking, replaying, closing_most, gates_then, needed_then}
use Rattle.intent_journal.proofs.replay.replay_into.Goals as goal

pub returns-in_err-read_records-clause-any_moment : goal.returns-in_err-read_records-clause-any_moment
returns-in_err-read_records-clause-any_moment g c told =
    let view = g.D.Device.view in
    looking (view c.args.dev.now) (c.requires.firm told) (g.met.D.Device.sound c.args.dev.now told) (view c.read_records.new.dev) (c.read_records.ensures.rests told)

pub returns-in_err-homes-clause-any_moment : goal.returns-in_err-homes-clause-any_moment
returns-in_err-homes-clause-any_moment g c told =
    let view = g.D.Device.view in
    let both = rests_joined (view c.args.dev.now) (view c.read_records.new.dev) (view c.read_gates.new.dev) (c.read_records.ensures.rests told) (c.read_gates.ensures.rests told) in
    replaying (view c.args.dev.now) (c.requires.firm told) (g.met.D.Device.sound c.args.dev.now told) (view c.read_gates.new.dev) (view c.put_open_in_place.new.dev) both (c.in_ok-read_records.ensures.valid told) (c.put_open_in_place.ensures.any_moment told)

pub returns-in_err-homes-clause-uses : goal.returns-in_err-homes-clause-uses
returns-in_err-homes-clause-uses g c =
    let less = closing_most c.as_slice.result.now c.in_ok-gates.gates (omega (arith, ap length c.as_slice.ensures.value, c.as_slice.ensures.patches.most)) in
    let reads = uses_and 0 0 0 _ _ _ (omega arith) c.read_records.ensures.uses c.read_gates.ensures.uses in
    uses_and 0 _ 121 _ _ _ (omega (arith, less)) reads c.put_open_in_place.ensures.uses

pub returns-clause-any_moment : goal.returns-clause-any_moment
returns-clause-any_moment g c told =
    let view = g.D.Device.view in
    let both = rests_joined (view c.args.dev.now) (view c.read_records.new.dev) (view c.read_gates.new.dev) (c.read_records.ensures.rests told) (c.read_gates.ensures.rests told) in
    replaying (view c.args.dev.now) (c.requires.firm told) (g.met.D.Device.sound c.args.dev.now told) (view c.read_gates.new.dev) (view c.put_open_in_place.new.dev) both (c.in_ok-read_records.ensures.valid told) (c.put_open_in_place.ensures.any_moment told)

pub returns-clause-uses : goal.returns-clause-uses
returns-clause-uses g c =
    let less = closing_most c.as_slice.result.now c.in_ok-gates.gates (omega (arith, ap length c.as_slice.ensures.value, c.as_slice.ensures.patches.most)) in
    let reads = uses_and 0 0 0 _ _ _ (omega arith) c.read_records.ensures.uses c.read_gates.ensures.uses in
    uses_and 0 _ 121 _ _ _ (omega (arith, less)) reads c.put_open_in_place.ensures.uses

pub returns-in_err-homes-clause-needed : goal.returns-in_err-homes-clause-needed
returns-in_err-homes-clause-needed g c told =
    let view = g.D.Device.view in
    let less = needed_then c.as_slice.result.now c.in_ok-gates.gates (view c.args.dev.now) (view c.read_records.new.dev) (c.read_records.ensures.rests told) (c.as_slice.ensures.value ∙ c.in_ok-read_records.ensures.found told) (c.in_ok-gates.ensures.gates told) in
    let reads = uses_and 0 0 0 _ _ _ (omega arith) c.read_records.ensures.uses c.read_gates.ensures.uses in
    uses_and 0 _ _ _ _ _ (omega (arith, less)) reads c.put_open_in_place.ensures.uses

pub returns-clause-needed : goal.returns-clause-needed
returns-clause-needed g c told =
    let view = g.D.Device.view in
    let less = needed_then c.as_slice.result.now c.in_ok-gates.gates (view c.args.dev.now) (view c.read_records.new.dev) (c.read_records.ensures.rests told) (c.as_slice.ensures.value ∙ c.in_ok-read_records.ensures.found told) (c.in_ok-gates.ensures.gates told) in
    let reads = uses_and 0 0 0 _ _ _ (omega arith) c.read_records.ensures.uses c.read_gates.ensures.uses in
    uses_and 0 _ _ _ _ _ (omega (arith, less)) reads c.put_open_in_place.ensures.uses

pub returns-clause-gates : goal.returns-clause-gates
returns-clause-gates g c told =
    let view = g.D.Device.view in
    let both = rests_joined (view c.args.dev.now) (view c.read_records.new.dev) (view c.read_gates.new.dev) (c.read_records.ensures.rests told) (c.read_gates.ensures.rests told) in
    gates_then (view c.args.dev.now) (view c.read_gates.new.dev) (view c.put_open_in_place.new.dev) both (c.in_ok-homes.ensures.gates told)

pub returns-in_err-read_records-clause-needed : goal.returns-in_err-read_records-clause-needed
returns-in_err-read_records-clause-needed g c told = uses_within 0 _ _ _ (omega arith) c.read_records.ensures.uses

pub returns-in_err-gates-clause-needed : goal.returns-in_err-gates-clause-needed
returns-in_err-gates-clause-needed g c told = uses_and 0 0 _ _ _ _ (omega arith) c.read_records.ensures.uses c.read_gates.ensures.uses
