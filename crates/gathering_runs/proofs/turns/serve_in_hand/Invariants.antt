use Rattle.std.proofs.Common.{◌≡◌, ◌≤◌, List, [], ◌∷◌, ◌++◌}
use Rattle.serving.specs.Goes.{remaining}
use Rattle.serving.specs.Voice.{spoken}
use Rattle.tsd_model.specs.declared.requests.Request.{Request}
use Rattle.gathering.specs.Gathered.{cleared}
use Rattle.gathering_runs.specs.Turns.{HandsOut, StandsBetween}
use Rattle.serving.specs.Prompt.{IsOfPort, mark}
use Rattle.gathering_runs.proofs.ByTurns.{AllTurns}
use Rattle.gathering_runs.proofs.Turning.{Went}
use Rattle.gathering_runs.proofs.turns.serve_in_hand.Given as goal

abbrev pub invariant-loop-disk : goal.invariant-loop-disk
invariant-loop-disk g l =
    let view = g.P.Device.view in
    let start = view l.initial.disk.port in
    record {
      aside : g.H.Handler.aside l.server ≡ g.H.Handler.aside l.initial.server;
      ready : g.H.Handler.is_ready l.server;
      between : g.P.Device.told → StandsBetween (g.H.Handler.holds l.server) l.disk.ring (view l.disk.port);
      fewer : remaining l.intake ≤ remaining l.initial.intake;
      faults : (view l.disk.port).faults ≡ start.faults;
      put_faults : (view l.disk.port).put_faults ≡ start.put_faults;
      goes : (gone more : List Request) × (l.initial.request ∷ more ≡ gone ++ l.request ∷ [])
          × HandsOut g.R.Protocol.spelling (λ x. g.R.Protocol.was_fed x l.initial.protocol) (λ x. g.R.Protocol.was_fed x l.protocol) l.initial.intake l.intake more
          × (g.P.Device.told → Went (spoken g.H.Handler.rules g.R.Replies.voice) (g.H.Handler.aside l.initial.server) (g.H.Handler.state l.initial.server (cleared start.reads)) (g.H.Handler.state l.server (cleared (view l.disk.port).reads)) start (view l.disk.port) gone)
          × (g.P.Device.told → AllTurns (spoken g.H.Handler.rules g.R.Replies.voice) g.H.Handler.work g.H.GroupHandler.may_wait (IsOfPort view) (g.H.Handler.state l.initial.server (cleared start.reads)) (g.H.Handler.state l.server (cleared (view l.disk.port).reads)) gone (mark start) (mark (view l.disk.port)));
    }

abbrev pub decreases-loop-disk : goal.decreases-loop-disk
decreases-loop-disk g l = remaining l.intake
