use Rattle.std.proofs.Common.{◌≡◌, ◌≤◌, ◌+◌, ◌-◌, sym, ◌∙◌, ap, arith}
use Rattle.image_device.specs.Image.{Image}
use Rattle.image_device.proofs.Moments.{ends_in}
use Rattle.image_device.proofs.Parts.{part_at_end}
use Rattle.gathering_runs.proofs.Outcome.{if_ok_then, on_ok}
use Rattle.gathering_runs.proofs.gather.carry_out.Goals as goal

parts_then : (a b c : Image → Image) (v w x y z : Image) → b ≡ a → c ≡ b → a w ≡ a v → x ≡ w → b y ≡ b x → c z ≡ c y → a z ≡ a v
parts_then a b c v w x y z ba cb one two three four =
    let ca = cb ∙ ba in
    sym (ap (λ p. p z) ca) ∙ four ∙ ap (λ p. p y) ca ∙ sym (ap (λ p. p y) ba) ∙ three ∙ ap (λ p. p x) ba ∙ ap a two ∙ one

pub returns-clause-part : goal.returns-clause-part
returns-clause-part g c told =
    let v0 = g.G.Device.view c.args.port.now in
    let v1 = g.G.Device.view c.apply.new.dev in
    let v2 = g.G.Device.view c.put_reply.new.port in
    let v3 = g.G.Device.view c.empty_ring.new.dev in
    let v4 = g.G.Device.view c.settle_few.new.port in
    on_ok c.settle_few.result (λ settled. parts_then (g.H.Handler.aside c.args.server.now) (g.H.Handler.aside c.apply.new.self) (g.H.Handler.aside c.empty_ring.new.self) v0.reads v1.reads v2.reads v3.reads v4.reads
    c.apply.ensures.aside c.empty_ring.ensures.aside (part_at_end (g.H.Handler.aside c.args.server.now) v0 v1 (g.met.G.Device.sound c.apply.new.dev told) (c.apply.ensures.aside_kept told)) (c.put_reply.ensures.reads told)
    (part_at_end (g.H.Handler.aside c.apply.new.self) v2 v3 (g.met.G.Device.sound c.empty_ring.new.dev told) (c.empty_ring.ensures.aside_kept told)) settled) (c.settle_few.ensures.part told)

pub returns-clause-left : goal.returns-clause-left
returns-clause-left g c told bounded =
    let debt = g.H.Handler.work.debt in
    let h0 = c.args.server.now in
    let h1 = c.apply.new.self in
    let v0 = g.G.Device.view c.args.port.now in
    let v1 = g.G.Device.view c.apply.new.dev in
    let first = g.met.H.GroupHandler.owes h0 v0.reads (c.requires.at told).1 in
    let then = g.met.H.GroupHandler.owes h1 v1.reads (c.in_ok-apply.ensures.at told).1 in
    let made = (ends_in v0 v1 _ (g.met.G.Device.sound c.apply.new.dev told) (c.apply.ensures.debt told bounded)).0 in
    let kept = c.in_ok-empty_ring.ensures.owes in
    if_ok_then c.settle_few.result (λ lack less. omega (arith, first, then, made, kept, less)) c.settle_few.ensures.less
