use Rattle.std.proofs.Common.{◌≡◌, ◌≤◌, ◌+◌, ℕ, false, List, []}
use Rattle.serving.specs.Goes.{Handed, ends_left, remaining, unread}
use Rattle.serving.specs.Ran.{Came, IsAtEnd}
use Rattle.serving.specs.Voice.{spoken}
use Rattle.tsd_model.specs.declared.requests.Request.{Request}
use Rattle.gathering.specs.Gathered.{cleared}
use Rattle.gathering_runs.specs.Turns.{StandsBetween}
use Rattle.serving.specs.Prompt.{IsOfPort, mark}
use Rattle.gathering_runs.proofs.Rounds.{SoFar}
use Rattle.gathering_runs.proofs.Turning.{Went}
use Rattle.gathering_runs.proofs.run.serve_in_groups.Given as goal

abbrev pub invariant-loop-server : goal.invariant-loop-server
invariant-loop-server g l =
    let view = g.P.Device.view in
    let before = l.fn.source in
    let start = view l.fn.port in
    record {
      limit : l.intake.limit ≡ l.limit;
      read : l.intake.over ≡ false → unread l.intake ≡ [];
      aside : g.H.Handler.aside l.server ≡ g.H.Handler.aside l.fn.server;
      ready : g.H.Handler.is_ready l.server;
      between : g.P.Device.told → StandsBetween (g.H.Handler.holds l.server) l.disk.ring (view l.disk.port);
      once : g.S.Source.ends l.source + ends_left l.intake ≤ g.S.Source.ends before + 1;
      source_faults : g.S.Source.faults l.source ≡ g.S.Source.faults before;
      faults : (view l.disk.port).faults ≡ start.faults;
      put_faults : (view l.disk.port).put_faults ≡ start.put_faults;
      goes : (bytes : List ℕ) × (qs : List Request)
          × Came g.S.Source.told (g.S.Source.taken before) (g.S.Source.taken l.source) (g.S.Source.left_bytes before) (g.S.Source.left_bytes l.source) bytes
          × Handed g.R.Protocol.spelling (λ x. g.R.Protocol.was_fed x l.protocol) (IsAtEnd g.S.Source.told (g.S.Source.ended l.source) (g.S.Source.left_bytes l.source)) l.intake bytes qs
          × (g.P.Device.told → Went (spoken g.H.Handler.rules g.R.Replies.voice) (g.H.Handler.aside l.fn.server) (g.H.Handler.state l.fn.server start.reads) (g.H.Handler.state l.server (cleared (view l.disk.port).reads)) start (view l.disk.port) qs)
          × (g.P.Device.told → SoFar (spoken g.H.Handler.rules g.R.Replies.voice) g.H.Handler.work g.H.GroupHandler.may_wait (IsOfPort view) g.R.Protocol.spelling l.limit (g.H.Handler.state l.fn.server start.reads) (g.H.Handler.state l.server (cleared (view l.disk.port).reads)) bytes qs start.sent (g.H.Handler.work.debt start.reads) start.clock (mark (view l.disk.port)));
    }

abbrev pub decreases-loop-server : goal.decreases-loop-server
decreases-loop-server g l = remaining l.intake
