use Rattle.std.proofs.Common.{◌≡◌, sym, ◌∙◌, ap, arith}
use Rattle.image_device.specs.Image.{Image}
use Rattle.gathering_runs.proofs.settle.settle_few.Goals as goal

-- what no request touches, by a step more
part_more : (a b : Image → Image) (x y z : Image) → b ≡ a → a y ≡ a x → b z ≡ b y → a z ≡ a x
part_more a b x y z ba so_far one = sym (ap (λ p. p z) ba) ∙ one ∙ ap (λ p. p y) ba ∙ so_far

pub loop-made-preserved : goal.loop-made-preserved
loop-made-preserved g c =
    let i = c.loop-made.invariant in
    let a = c.in_ok-some.ensures in
    record {
      aside = c.step.ensures.aside ∙ i.aside;
      ready = a.ready;
      at = a.at;
      closed = a.closed;
      state = λ told. a.state told ∙ i.state told;
      sent = λ told. a.sent told ∙ i.sent told;
      part = λ told. part_more (g.H.Handler.aside c.args.server.now) (g.H.Handler.aside c.loop-made.server) _ _ _ i.aside (i.part told) (a.part told);
      faults = a.faults ∙ i.faults;
      put_faults = c.step.ensures.put_faults ∙ i.put_faults;
      less = let less = a.lowered c.if-not-some.false in omega (arith, less, i.less);
    }
