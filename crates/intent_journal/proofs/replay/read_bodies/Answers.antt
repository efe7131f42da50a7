use Rattle.std.proofs.Common.{◌≡◌, ◌+◌, length, get_or, List, ℕ, ◌∙◌, ap, arith}
use Rattle.intent_journal.proofs.Common.{length_push, body_sector, uses_and, rests_joined}
use Rattle.intent_journal.proofs.Bodies.{read_more}
use Rattle.intent_journal.proofs.replay.read_bodies.Goals as goal

pub loop-home-preserved : goal.loop-home-preserved
loop-home-preserved g c =
    let view = g.D.Device.view in
    let count = c.loop-home.invariant.count in
    record {
      count = ap length c.push.ensures ∙ length_push c.loop-home.patches _ ∙ omega arith;
      read = λ told.
          let at : c.body_sector.result ≡ body_sector (length c.args.patches.now + c.loop-home.home-index) = c.body_sector.ensures.value ∙ ap body_sector (c.len.ensures.value ∙ count) in
          let bytes = c.in_ok-read.ensures.bytes told ∙ (λ i. (c.loop-home.invariant.rests told).reads i c.body_sector.result) ∙ ap (view c.args.dev.now).reads at in
          read_more c.args.patches.now _ c.loop-home.home-index c.loop-home.patches c.push.new.self _ c.push.ensures (ap (λ (l : List ℕ). record { sector = get_or c.args.homes.now c.loop-home.home-index 0; bytes = l }) bytes) (c.loop-home.invariant.read told);
      rests = λ told. rests_joined _ _ _ (c.loop-home.invariant.rests told) (c.read.ensures.rests told);
      uses = uses_and 0 0 0 _ _ _ (omega arith) c.loop-home.invariant.uses c.read.ensures.uses;
      faultless = c.in_ok-read.ensures.faults ∙ c.loop-home.invariant.faultless;
    }
