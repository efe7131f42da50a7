use Rattle.std.proofs.Common.{◌∙◌, ap}
use Rattle.test_base.specs.TwoCopies.{current, spare}
use Rattle.test_base.proofs.TwoCopies.{looked, places, replaced, staged}
use Rattle.test_base.proofs.device.replace.replace.Goals as goal

pub returns-in_err-read-clause-any_moment : goal.returns-in_err-read-clause-any_moment
returns-in_err-read-clause-any_moment g c told =
    let view = g.D.Device.view in
    looked (view c.args.dev.now) (view c.read.new.self) c.args.bytes.now (g.met.D.Device.sound c.args.dev.now told) (c.requires told) (c.read.ensures.rests told)

pub returns-in_err-write_through-clause-any_moment : goal.returns-in_err-write_through-clause-any_moment
returns-in_err-write_through-clause-any_moment g c told =
    let view = g.D.Device.view in
    let v = view c.args.dev.now in
    let is = c.spare_sector.ensures ∙ ap spare (c.in_ok-read.ensures.bytes told) in
    staged v (view c.read.new.self) (view c.write_through.new.dev) c.args.bytes.now (current (v.reads 0)) c.spare_sector.result (places (v.reads 0) c.spare_sector.result is) (g.met.D.Device.sound c.args.dev.now told) (c.requires told)
    (c.read.ensures.rests told) (c.write_through.ensures.confined told)

pub returns-clause-any_moment : goal.returns-clause-any_moment
returns-clause-any_moment g c told =
    let view = g.D.Device.view in
    let v = view c.args.dev.now in
    let is = c.spare_sector.ensures ∙ ap spare (c.in_ok-read.ensures.bytes told) in
    replaced v (view c.read.new.self) (view c.write_through.new.dev) c.args.bytes.now (current (v.reads 0)) c.spare_sector.result (places (v.reads 0) c.spare_sector.result is) (g.met.D.Device.sound c.args.dev.now told) (c.requires told)
    (c.read.ensures.rests told) (c.write_through.ensures.confined told) (c.in_ok-write_through.ensures.written told) (c.in_ok-write_through.ensures.firm told) (view c.write_through-2.new.dev) (c.write_through-2.ensures.confined told)
