use Rattle.std.proofs.Common.{◌≡◌, ◌≤◌, ◌+◌, ℕ, List}
use Rattle.image_device.specs.Runs.{LeavesPart}
use Rattle.serving.specs.Goes.{Goes, Handed, ends_left, remaining}
use Rattle.serving.specs.Handling.{FitsDevice}
use Rattle.serving.specs.Prompt.{EndsBySending, IsOfPort}
use Rattle.serving.specs.Ran.{Came, IsAtEnd}
use Rattle.serving.proofs.run.serve_in.Given as goal

abbrev pub invariant-loop-server : goal.invariant-loop-server
invariant-loop-server g l =
    let view = g.P.Device.view in
    let before = l.initial.source in
    let start = view l.initial.port in
    record {
      limit : l.intake.limit ≡ l.limit;
      lender : g.H.Server.lender l.server ≡ g.H.Server.lender l.initial.server;
      aside : g.H.Server.aside l.server ≡ g.H.Server.aside l.initial.server;
      aside_kept : g.P.Device.told → LeavesPart (g.H.Server.aside l.initial.server) start (view l.port);
      still : g.P.Device.told → g.H.Server.ends_by_sending → EndsBySending start (view l.port);
      ready : g.H.Server.is_ready l.server;
      at : g.P.Device.told → FitsDevice (g.H.Server.holds l.server) (view l.port);
      once : g.S.Source.ends l.source + ends_left l.intake ≤ g.S.Source.ends before + 1;
      source_faults : g.S.Source.faults l.source ≡ g.S.Source.faults before;
      faults : (view l.port).faults ≡ start.faults;
      put_faults : (view l.port).put_faults ≡ start.put_faults;
      goes : (bytes : List ℕ) × (qs : List g.row.R-Request.Denot)
          × Came g.S.Source.told (g.S.Source.taken before) (g.S.Source.taken l.source) (g.S.Source.left_bytes before) (g.S.Source.left_bytes l.source) bytes
          × Handed g.R.Protocol.spelling (λ x. g.R.Protocol.was_fed x l.protocol) (IsAtEnd g.S.Source.told (g.S.Source.ended l.source) (g.S.Source.left_bytes l.source)) l.intake bytes qs
          × (g.P.Device.told → Goes g.H.Server.service g.H.Server.work (IsOfPort view) (g.H.Server.state l.initial.server start.reads) (g.H.Server.due l.initial.server start.reads) start qs (g.H.Server.state l.server (view l.port).reads) (g.H.Server.due l.server (view l.port).reads) (view l.port));
    }

abbrev pub decreases-loop-server : goal.decreases-loop-server
decreases-loop-server g l = remaining l.intake
