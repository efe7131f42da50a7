use Rattle.gathering_runs.proofs.turns.serve_caught_up.Given as goal

abbrev pub ghosts-serve_group : goal.ghosts-serve_group
ghosts-serve_group g a = record { start = g.P.Device.view a.disk.port }
