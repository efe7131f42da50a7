use Rattle.std.proofs.Common.{◌≡◌, [], ◌∷◌, ◌++◌, refl, sym, ◌∙◌, ap, subst, arith, append-nil}
use Rattle.image_device.specs.Image.{Image}
use Rattle.serving.specs.Voice.{spoken}
use Rattle.gathering_runs.specs.Turns.{HandsOut}
use Rattle.serving.specs.Input.{completed}
use Rattle.gathering_runs.proofs.Handing.{behind_waiting, hands_held, hands_none, hands_then}
use Rattle.gathering_runs.specs.ByTurns.{LeavesBut}
use Rattle.gathering_runs.proofs.Reclaiming.{leaves_more, leaves_none}
use Rattle.gathering_runs.proofs.gather.gather.Goals as goal

-- what no request touches, by a call more
part_next : (a b : Image → Image) (x y z : Image) → b ≡ a → a y ≡ a x → b z ≡ b y → a z ≡ a x
part_next a b x y z same so_far more = sym (ap (λ p. p z) same) ∙ more ∙ ap (λ p. p y) same ∙ so_far

pub loop-lack-init : goal.loop-lack-init
loop-lack-init g c = record {
  aside = refl;
  ready = c.requires.ready;
  at = c.requires.at;
  part = λ told. refl;
  faults = refl;
  put_faults = refl;
  fewer = omega arith;
  goes = ([], [], refl, hands_none g.R.Protocol.spelling _ _, λ told. leaves_none (spoken g.H.Handler.rules g.R.Replies.voice) g.H.Handler.work _ _ _ 0);
}

pub loop-lack-preserved : goal.loop-lack-preserved
loop-lack-preserved g c =
    let i = c.loop-lack.invariant in
    let was = i.goes in
    let n = c.next_held.ensures in
    let q = c.loop-lack.request in
    let next = c.next_held.new.into in
    let sp = g.R.Protocol.spelling in
    let e = c.carry_out.ensures in
    let held = hands_held sp (λ x. g.R.Protocol.was_fed x c.loop-lack.protocol) (λ x. g.R.Protocol.was_fed x c.next_held.new.protocol) c.loop-lack.intake c.next_held.new.self c.next_held.result next n.counts n.over n.nothing n.handed in
    let hands = hands_then sp (λ x. g.R.Protocol.was_fed x c.args.protocol.now) (λ x. g.R.Protocol.was_fed x c.loop-lack.protocol) (λ x. g.R.Protocol.was_fed x c.next_held.new.protocol) c.args.intake.now c.loop-lack.intake c.next_held.new.self was.1 (completed c.next_held.result next) was.3 held in
    record {
      aside = e.aside ∙ i.aside;
      ready = c.in-Ok.ensures.ready;
      at = λ told. c.in-Ok.ensures.at told;
      part = λ told. part_next (g.H.Handler.aside c.args.server.now) (g.H.Handler.aside c.loop-lack.server) _ _ _ i.aside (i.part told) (c.in-Ok.ensures.part told);
      faults = c.in-Ok.ensures.faults ∙ i.faults;
      put_faults = c.in-Ok.ensures.put_faults ∙ i.put_faults;
      fewer = let less = n.less c.if-not-next_held.false in omega (arith, less, i.fewer);
      goes = (
        was.0 ++ q ∷ [],
        was.1 ++ next ∷ [],
        behind_waiting c.args.request.now q next was.1 was.0 [] was.2,
        subst (λ b. HandsOut sp (λ x. g.R.Protocol.was_fed x c.args.protocol.now) (λ x. g.R.Protocol.was_fed x c.next_held.new.protocol) c.args.intake.now c.next_held.new.self (was.1 ++ completed b next)) c.if-not-next_held.false hands,
        λ told.
            let a = c.in-Ok.ensures.answered told in
            leaves_more (spoken g.H.Handler.rules g.R.Replies.voice) g.H.Handler.work _ _ _ _ _ _ was.0 q a.0 _ _ _ 0 (was.4 told) a.1 a.2 (λ bounded. let left = c.in-Ok.ensures.left told bounded in omega (arith, left, c.if-lacking-gt0.false)),
      );
    }

pub returns-in-Err-clause-did : goal.returns-in-Err-clause-did
returns-in-Err-clause-did g c =
    let was = c.loop-lack.invariant.goes in (
      was.1,
      subst (λ l. HandsOut g.R.Protocol.spelling (λ x. g.R.Protocol.was_fed x c.args.protocol.now) (λ x. g.R.Protocol.was_fed x c.loop-lack.protocol) c.args.intake.now c.loop-lack.intake l) (sym (append-nil was.1)) was.3,
      λ told. tt,
    )

pub returns-then-not-next_held-clause-did : goal.returns-then-not-next_held-clause-did
returns-then-not-next_held-clause-did g c =
    let was = c.loop-lack.invariant.goes in
    let n = c.next_held.ensures in
    let q = c.loop-lack.request in
    let next = c.next_held.new.into in
    let sp = g.R.Protocol.spelling in
    let e = c.carry_out.ensures in
    let held = hands_held sp (λ x. g.R.Protocol.was_fed x c.loop-lack.protocol) (λ x. g.R.Protocol.was_fed x c.next_held.new.protocol) c.loop-lack.intake c.next_held.new.self c.next_held.result next n.counts n.over n.nothing n.handed in
    let hands = hands_then sp (λ x. g.R.Protocol.was_fed x c.args.protocol.now) (λ x. g.R.Protocol.was_fed x c.loop-lack.protocol) (λ x. g.R.Protocol.was_fed x c.next_held.new.protocol) c.args.intake.now c.loop-lack.intake c.next_held.new.self was.1 (completed c.next_held.result next) was.3 held in (
      was.1,
      subst (λ b. HandsOut sp (λ x. g.R.Protocol.was_fed x c.args.protocol.now) (λ x. g.R.Protocol.was_fed x c.next_held.new.protocol) c.args.intake.now c.next_held.new.self (was.1 ++ completed b next)) c.if-not-next_held.true hands,
      λ told.
          let a = c.in-Ok.ensures.answered told in
          let k = spoken g.H.Handler.rules g.R.Replies.voice in
          subst (λ l. LeavesBut k g.H.Handler.work (g.H.Handler.state c.args.server.now (g.G.Device.view c.args.port.now).reads) (g.G.Device.view c.args.port.now).sent l (g.H.Handler.state c.carry_out.new.server (g.G.Device.view c.carry_out.new.port).reads) (g.G.Device.view c.carry_out.new.port).sent (g.H.GroupHandler.owed c.args.server.now) (g.H.GroupHandler.owed c.carry_out.new.server) c.in-Ok.lack) (sym was.2)
          (leaves_more k g.H.Handler.work _ _ _ _ _ _ was.0 q a.0 _ _ _ c.in-Ok.lack (was.4 told) a.1 a.2 (c.in-Ok.ensures.left told)),
    )

pub returns-then-not-has_room-clause-did : goal.returns-then-not-has_room-clause-did
returns-then-not-has_room-clause-did g c =
    let was = c.loop-lack.invariant.goes in
    let n = c.next_held.ensures in
    let q = c.loop-lack.request in
    let next = c.next_held.new.into in
    let sp = g.R.Protocol.spelling in
    let e = c.carry_out.ensures in
    let held = hands_held sp (λ x. g.R.Protocol.was_fed x c.loop-lack.protocol) (λ x. g.R.Protocol.was_fed x c.next_held.new.protocol) c.loop-lack.intake c.next_held.new.self c.next_held.result next n.counts n.over n.nothing n.handed in
    let hands = hands_then sp (λ x. g.R.Protocol.was_fed x c.args.protocol.now) (λ x. g.R.Protocol.was_fed x c.loop-lack.protocol) (λ x. g.R.Protocol.was_fed x c.next_held.new.protocol) c.args.intake.now c.loop-lack.intake c.next_held.new.self was.1 (completed c.next_held.result next) was.3 held in (
      was.1,
      subst (λ b. HandsOut sp (λ x. g.R.Protocol.was_fed x c.args.protocol.now) (λ x. g.R.Protocol.was_fed x c.next_held.new.protocol) c.args.intake.now c.next_held.new.self (was.1 ++ completed b next)) c.if-not-next_held.false hands,
      λ told.
          let a = c.in-Ok.ensures.answered told in
          let k = spoken g.H.Handler.rules g.R.Replies.voice in
          subst (λ l. LeavesBut k g.H.Handler.work (g.H.Handler.state c.args.server.now (g.G.Device.view c.args.port.now).reads) (g.G.Device.view c.args.port.now).sent l (g.H.Handler.state c.carry_out.new.server (g.G.Device.view c.carry_out.new.port).reads) (g.G.Device.view c.carry_out.new.port).sent (g.H.GroupHandler.owed c.args.server.now) (g.H.GroupHandler.owed c.carry_out.new.server) c.in-Ok.lack) (sym was.2)
          (leaves_more k g.H.Handler.work _ _ _ _ _ _ was.0 q a.0 _ _ _ c.in-Ok.lack (was.4 told) a.1 a.2 (c.in-Ok.ensures.left told)),
    )

pub returns-then-lacking-gt0-clause-did : goal.returns-then-lacking-gt0-clause-did
returns-then-lacking-gt0-clause-did g c =
    let was = c.loop-lack.invariant.goes in
    let n = c.next_held.ensures in
    let q = c.loop-lack.request in
    let next = c.next_held.new.into in
    let sp = g.R.Protocol.spelling in
    let e = c.carry_out.ensures in
    let held = hands_held sp (λ x. g.R.Protocol.was_fed x c.loop-lack.protocol) (λ x. g.R.Protocol.was_fed x c.next_held.new.protocol) c.loop-lack.intake c.next_held.new.self c.next_held.result next n.counts n.over n.nothing n.handed in
    let hands = hands_then sp (λ x. g.R.Protocol.was_fed x c.args.protocol.now) (λ x. g.R.Protocol.was_fed x c.loop-lack.protocol) (λ x. g.R.Protocol.was_fed x c.next_held.new.protocol) c.args.intake.now c.loop-lack.intake c.next_held.new.self was.1 (completed c.next_held.result next) was.3 held in (
      was.1,
      subst (λ b. HandsOut sp (λ x. g.R.Protocol.was_fed x c.args.protocol.now) (λ x. g.R.Protocol.was_fed x c.next_held.new.protocol) c.args.intake.now c.next_held.new.self (was.1 ++ completed b next)) c.if-not-next_held.false hands,
      λ told.
          let a = c.in-Ok.ensures.answered told in
          let k = spoken g.H.Handler.rules g.R.Replies.voice in
          subst (λ l. LeavesBut k g.H.Handler.work (g.H.Handler.state c.args.server.now (g.G.Device.view c.args.port.now).reads) (g.G.Device.view c.args.port.now).sent l (g.H.Handler.state c.carry_out.new.server (g.G.Device.view c.carry_out.new.port).reads) (g.G.Device.view c.carry_out.new.port).sent (g.H.GroupHandler.owed c.args.server.now) (g.H.GroupHandler.owed c.carry_out.new.server) c.in-Ok.lack) (sym was.2)
          (leaves_more k g.H.Handler.work _ _ _ _ _ _ was.0 q a.0 _ _ _ c.in-Ok.lack (was.4 told) a.1 a.2 (c.in-Ok.ensures.left told)),
    )

pub returns-then-not-next_held-clause-read : goal.returns-then-not-next_held-clause-read
returns-then-not-next_held-clause-read g c = λ none over. c.next_held.ensures.none c.if-not-next_held.true (c.loop-lack.invariant.goes.3.over ∙ over)
