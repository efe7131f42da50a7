use Rattle.std.proofs.Common.{◌∙◌, ap}
use Rattle.recovery.proofs.Common.{says_open, on_ok, fresh_stands}
use Rattle.recovery.proofs.AreaRuns.{gate_inside, inside_joined}
use Rattle.recovery.proofs.Formatted.{formatted_moments}
use Rattle.recovery.proofs.FreshQuiet.{fresh_quiet}
use Rattle.volume_laws.proofs.Committed.{ok_map}
use Rattle.recovery.proofs.formatting.format.Goals as goal

pub returns-clause-done : goal.returns-clause-done
returns-clause-done g c told =
    let new = g.D.Device.view c.write_through-2.new.dev in
    ok_map c.write_through-2.result _ _
    (λ written. fresh_stands c.args.geometry.now c.args.caps.now new.reads c.requires.lawful c.requires.each
    (c.in_ok-write_areas.ensures.written told new.reads (c.write_through-2.ensures.confined told).reads) (ap says_open written ∙ c.gate_bytes-2.ensures.reads_back))
    (c.write_through-2.ensures.written told)

pub returns-clause-quiet : goal.returns-clause-quiet
returns-clause-quiet g c told =
    let new = g.D.Device.view c.write_through-2.new.dev in
    on_ok c.write_through-2.result
    (fresh_quiet c.args.geometry.now c.args.caps.now new.reads c.requires.lawful c.requires.each (c.in_ok-write_areas.ensures.written told new.reads (c.write_through-2.ensures.confined told).reads))

pub returns-clause-any_moment : goal.returns-clause-any_moment
returns-clause-any_moment g c told =
    let view = g.D.Device.view in
    formatted_moments c.args.geometry.now c.args.caps.now (view c.args.dev.now) (view c.write_through.new.dev) (view c.write_areas.new.dev) (view c.write_through-2.new.dev) c.requires.lawful c.requires.each
    (c.write_through.ensures.confined told) (ap says_open (c.in_ok-write_through.ensures.written told) ∙ c.gate_bytes.ensures.reads_back) (c.in_ok-write_through.ensures.firm told)
    (c.write_areas.ensures.confined told) (c.in_ok-write_areas.ensures.written told) (c.in_ok-write_areas.ensures.firm told) (c.write_through-2.ensures.confined told)

pub returns-in_err-write_through-clause-inside : goal.returns-in_err-write_through-clause-inside
returns-in_err-write_through-clause-inside g c told = gate_inside c.args.geometry.now _ _ (c.write_through.ensures.confined told)

pub returns-in_err-write_areas-clause-inside : goal.returns-in_err-write_areas-clause-inside
returns-in_err-write_areas-clause-inside g c told = inside_joined c.args.geometry.now _ _ _ (gate_inside c.args.geometry.now _ _ (c.write_through.ensures.confined told)) (c.write_areas.ensures.inside told)

pub returns-clause-inside : goal.returns-clause-inside
returns-clause-inside g c told =
    inside_joined c.args.geometry.now _ _ _ (inside_joined c.args.geometry.now _ _ _ (gate_inside c.args.geometry.now _ _ (c.write_through.ensures.confined told)) (c.write_areas.ensures.inside told))
    (gate_inside c.args.geometry.now _ _ (c.write_through-2.ensures.confined told))
