use Rattle.std.proofs.Common.{◌≡◌, ◌≤◌, ◌+◌}
use Rattle.serving.specs.Handling.{FitsDevice}
use Rattle.intent_journal.specs.Records.{AreClosed}
use Rattle.gathering_runs.proofs.settle.settle_few.Given as goal

abbrev pub invariant-loop-made : goal.invariant-loop-made
invariant-loop-made g l =
    let view = g.G.Device.view in
    let start = view l.initial.port in
    record {
      aside : g.H.Handler.aside l.server ≡ g.H.Handler.aside l.initial.server;
      ready : g.H.Handler.is_ready l.server;
      at : g.G.Device.told → FitsDevice (g.H.Handler.holds l.server) (view l.port);
      closed : g.G.Device.told → AreClosed (view l.port).reads;
      state : g.G.Device.told → g.H.Handler.state l.server (view l.port).reads ≡ g.H.Handler.state l.initial.server start.reads;
      sent : g.G.Device.told → (view l.port).sent ≡ start.sent;
      part : g.G.Device.told → g.H.Handler.aside l.initial.server (view l.port).reads ≡ g.H.Handler.aside l.initial.server start.reads;
      faults : (view l.port).faults ≡ start.faults;
      put_faults : (view l.port).put_faults ≡ start.put_faults;
      -- each step lowered what is left
      less : g.H.GroupHandler.owed l.server + l.made ≤ g.H.GroupHandler.owed l.initial.server;
    }
