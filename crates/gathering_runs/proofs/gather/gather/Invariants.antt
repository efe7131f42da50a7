use Rattle.std.proofs.Common.{◌≡◌, ◌≤◌, List, [], ◌∷◌, ◌++◌}
use Rattle.serving.specs.Goes.{remaining}
use Rattle.serving.specs.Handling.{FitsDevice}
use Rattle.serving.specs.Voice.{spoken}
use Rattle.tsd_model.specs.declared.requests.Request.{Request}
use Rattle.gathering_runs.specs.ByTurns.{LeavesBut}
use Rattle.gathering_runs.specs.Turns.{HandsOut}
use Rattle.gathering_runs.proofs.gather.gather.Given as goal

abbrev pub invariant-loop-lack : goal.invariant-loop-lack
invariant-loop-lack g l =
    let view = g.G.Device.view in
    let start = view l.initial.port in
    record {
      aside : g.H.Handler.aside l.server ≡ g.H.Handler.aside l.initial.server;
      ready : g.H.Handler.is_ready l.server;
      at : g.G.Device.told → FitsDevice (g.H.Handler.holds l.server) (view l.port);
      part : g.G.Device.told → g.H.Handler.aside l.initial.server (view l.port).reads ≡ g.H.Handler.aside l.initial.server start.reads;
      faults : (view l.port).faults ≡ start.faults;
      put_faults : (view l.port).put_faults ≡ start.put_faults;
      fewer : remaining l.intake ≤ remaining l.initial.intake;
      -- these were answered, and behind the first these were handed out; the last of them stands in the room
      goes : (gone more : List Request) × (l.initial.request ∷ more ≡ gone ++ l.request ∷ [])
          × HandsOut g.R.Protocol.spelling (λ x. g.R.Protocol.was_fed x l.initial.protocol) (λ x. g.R.Protocol.was_fed x l.protocol) l.initial.intake l.intake more
          × (g.G.Device.told → LeavesBut (spoken g.H.Handler.rules g.R.Replies.voice) g.H.Handler.work (g.H.Handler.state l.initial.server start.reads) start.sent gone (g.H.Handler.state l.server (view l.port).reads) (view l.port).sent (g.H.GroupHandler.owed l.initial.server) (g.H.GroupHandler.owed l.server) 0);
    }

abbrev pub decreases-loop-lack : goal.decreases-loop-lack
decreases-loop-lack g l = remaining l.intake
