use Rattle.std.proofs.Common.{◌≡◌, sym, ◌∙◌, ap}
use Rattle.image_device.specs.Image.{Image}
use Rattle.image_device.proofs.Parts.{part_at_end}
use Rattle.gathering_runs.proofs.settle.step.Goals as goal

-- what no request touches, by two calls
part_two : (a b : Image → Image) (x y z : Image) → b ≡ a → a y ≡ a x → b z ≡ b y → a z ≡ a x
part_two a b x y z ba one two = sym (ap (λ p. p z) ba) ∙ two ∙ ap (λ p. p y) ba ∙ one

pub returns-clause-part : goal.returns-clause-part
returns-clause-part g c told =
    part_two (g.H.Handler.aside c.args.server.now) (g.H.Handler.aside c.settle_one.new.self) _ _ _ c.settle_one.ensures.aside
    (part_at_end (g.H.Handler.aside c.args.server.now) (g.G.Device.view c.args.port.now) (g.G.Device.view c.settle_one.new.dev) (g.met.G.Device.sound c.settle_one.new.dev told) (c.settle_one.ensures.aside_kept told))
    (part_at_end (g.H.Handler.aside c.settle_one.new.self) (g.G.Device.view c.settle_one.new.dev) (g.G.Device.view c.empty_ring.new.dev) (g.met.G.Device.sound c.empty_ring.new.dev told) (c.empty_ring.ensures.aside_kept told))
