use Rattle.std.proofs.Common.{arith}
use Rattle.intent_journal.proofs.Checkpointing.{placing, closing_first, closing_later, gate_kept, later_kept, put_done, put_at_end, put_gates}
use Rattle.intent_journal.proofs.checkpoint.put_in_place.Goals as goal

pub returns-in_err-homes-clause-any_moment : goal.returns-in_err-homes-clause-any_moment
returns-in_err-homes-clause-any_moment g c told =
    let view = g.D.Device.view in
    placing c.args.patches.now c.args.gates.now (view c.args.dev.now) (c.requires.listed told) (view c.write_homes.new.dev) (c.write_homes.ensures.confined told)

pub close_first_gate-requires : goal.close_first_gate-requires
close_first_gate-requires g c told =
    let view = g.D.Device.view in
    gate_kept c.args.patches.now c.args.gates.now (view c.args.dev.now) (c.requires.listed told) (view c.write_homes.new.dev) (c.write_homes.ensures.confined told) (c.in_ok-homes.ensures.placed told) (c.in_ok-homes.ensures.firm told) 0 (omega arith)

pub returns-in_err-close_first_gate-clause-any_moment : goal.returns-in_err-close_first_gate-clause-any_moment
returns-in_err-close_first_gate-clause-any_moment g c told =
    let view = g.D.Device.view in
    closing_first c.args.patches.now c.args.gates.now (view c.args.dev.now) (c.requires.listed told) (view c.write_homes.new.dev) (c.write_homes.ensures.confined told) (c.in_ok-homes.ensures.placed told) (c.in_ok-homes.ensures.firm told)
    (view c.close_first_gate.new.dev) (c.close_first_gate.ensures.confined told)

pub close_later_gates-requires : goal.close_later_gates-requires
close_later_gates-requires g c told =
    let view = g.D.Device.view in
    later_kept c.args.patches.now c.args.gates.now (view c.args.dev.now) (c.requires.listed told) (view c.write_homes.new.dev) (c.write_homes.ensures.confined told) (c.in_ok-homes.ensures.placed told) (c.in_ok-homes.ensures.firm told)
    (view c.close_first_gate.new.dev) (c.close_first_gate.ensures.confined told)

pub returns-in_err-close_later_gates-clause-any_moment : goal.returns-in_err-close_later_gates-clause-any_moment
returns-in_err-close_later_gates-clause-any_moment g c told =
    let view = g.D.Device.view in
    closing_later c.args.patches.now c.args.gates.now (view c.args.dev.now) (c.requires.listed told) (view c.write_homes.new.dev) (c.write_homes.ensures.confined told) (c.in_ok-homes.ensures.placed told) (c.in_ok-homes.ensures.firm told)
    (view c.close_first_gate.new.dev) (c.close_first_gate.ensures.confined told) (c.in_ok-close_first_gate.ensures.closed told) (c.in_ok-close_first_gate.ensures.firm told)
    (view c.close_later_gates.new.dev) (c.close_later_gates.ensures.confined told)

pub returns-clause-any_moment : goal.returns-clause-any_moment
returns-clause-any_moment g c told =
    let view = g.D.Device.view in
    closing_later c.args.patches.now c.args.gates.now (view c.args.dev.now) (c.requires.listed told) (view c.write_homes.new.dev) (c.write_homes.ensures.confined told) (c.in_ok-homes.ensures.placed told) (c.in_ok-homes.ensures.firm told)
    (view c.close_first_gate.new.dev) (c.close_first_gate.ensures.confined told) (c.in_ok-close_first_gate.ensures.closed told) (c.in_ok-close_first_gate.ensures.firm told)
    (view c.close_later_gates.new.dev) (c.close_later_gates.ensures.confined told)

pub returns-clause-at : goal.returns-clause-at
returns-clause-at g c told =
    let view = g.D.Device.view in
    put_at_end c.args.patches.now c.args.gates.now (view c.args.dev.now) (c.requires.listed told) (view c.write_homes.new.dev) (c.write_homes.ensures.confined told) (c.in_ok-homes.ensures.placed told) (c.in_ok-homes.ensures.firm told)
    (view c.close_first_gate.new.dev) (c.close_first_gate.ensures.confined told) (c.in_ok-close_first_gate.ensures.closed told) (c.in_ok-close_first_gate.ensures.firm told)
    (view c.close_later_gates.new.dev) (c.close_later_gates.ensures.confined told) (c.in_ok-close_later_gates.ensures.closed told) (c.in_ok-close_later_gates.ensures.firm told)

pub returns-clause-done : goal.returns-clause-done
returns-clause-done g c told =
    let view = g.D.Device.view in
    put_done c.args.patches.now c.args.gates.now (view c.args.dev.now) (c.requires.listed told) (view c.write_homes.new.dev) (c.write_homes.ensures.confined told) (c.in_ok-homes.ensures.placed told) (c.in_ok-homes.ensures.firm told)
    (view c.close_first_gate.new.dev) (c.close_first_gate.ensures.confined told) (c.in_ok-close_first_gate.ensures.closed told) (c.in_ok-close_first_gate.ensures.firm told)
    (view c.close_later_gates.new.dev) (c.close_later_gates.ensures.confined told)

pub returns-clause-gates : goal.returns-clause-gates
returns-clause-gates g c told =
    let view = g.D.Device.view in
    put_gates c.args.patches.now c.args.gates.now (view c.args.dev.now) (c.requires.listed told) (view c.write_homes.new.dev) (c.write_homes.ensures.confined told) (c.in_ok-homes.ensures.placed told) (c.in_ok-homes.ensures.firm told)
    (view c.close_first_gate.new.dev) (c.close_first_gate.ensures.confined told) (c.in_ok-close_first_gate.ensures.closed told) (c.in_ok-close_first_gate.ensures.firm told)
    (view c.close_later_gates.new.dev) (c.close_later_gates.ensures.confined told) (c.in_ok-close_first_gate.ensures.written told) (c.in_ok-close_later_gates.ensures.written told)
