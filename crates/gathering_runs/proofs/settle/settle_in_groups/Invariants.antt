use Rattle.std.proofs.Common.{◌≡◌, ◌≤◌, ◌+◌, ◌-◌, ℕ, false, []}
use Rattle.serving.specs.Voice.{spoken}
use Rattle.gathering.specs.Gathered.{cleared}
use Rattle.serving.specs.Prompt.{IsOfPort, mark}
use Rattle.gathering_runs.specs.ByTurns.{Reclaims}
use Rattle.gathering_runs.specs.Turns.{StandsBetween}
use Rattle.gathering_runs.proofs.Turning.{Went}
use Rattle.gathering_runs.proofs.settle.settle_in_groups.Given as goal

abbrev pub invariant-loop-disk : goal.invariant-loop-disk
invariant-loop-disk g l =
    let view = g.P.Device.view in
    let start = view l.initial.disk.port in
    record {
      aside : g.H.Handler.aside l.server ≡ g.H.Handler.aside l.initial.server;
      ready : g.H.Handler.is_ready l.server;
      between : g.P.Device.told → StandsBetween (g.H.Handler.holds l.server) l.disk.ring (view l.disk.port);
      faults : (view l.disk.port).faults ≡ start.faults;
      put_faults : (view l.disk.port).put_faults ≡ start.put_faults;
      went : g.P.Device.told → Went (spoken g.H.Handler.rules g.R.Replies.voice) (g.H.Handler.aside l.initial.server) (g.H.Handler.state l.initial.server (cleared start.reads)) (g.H.Handler.state l.server (cleared (view l.disk.port).reads)) start (view l.disk.port) [];
      less : l.all ≡ false → g.H.GroupHandler.owed l.server ≤ g.H.GroupHandler.owed l.initial.server + l.lacking - l.initial.lacking;
      groups : g.P.Device.told → (groups : ℕ) × Reclaims g.H.Handler.work (IsOfPort view) groups (mark start) (mark (view l.disk.port)) × (l.all ≡ false → groups + l.lacking ≤ l.initial.lacking);
    }

abbrev pub ghosts-settle_group : goal.ghosts-settle_group
ghosts-settle_group g a = record { start = g.P.Device.view a.disk.port }

abbrev pub decreases-loop-disk : goal.decreases-loop-disk
decreases-loop-disk g l = g.H.GroupHandler.owed l.server
