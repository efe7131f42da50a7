use Rattle.mirror_device.specs.Mirror.{start_at}
use Rattle.mirror_device.specs.SidesView.{untold_sides}
use Rattle.tsd_cli.proofs.run.serve_sides.Given as goal

abbrev pub ghosts-tsd_mirror : goal.ghosts-tsd_mirror
ghosts-tsd_mirror g a =
    let s = a.sides.now in
    record { start = start_at (untold_sides s.first.faults s.first.syncs s.second.faults s.second.syncs s.outlet.faults) }
