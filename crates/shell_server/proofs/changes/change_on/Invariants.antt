use Rattle.shell_server.proofs.changes.change_on.Given as goal

abbrev pub ghosts-gather : goal.ghosts-gather
ghosts-gather g a = record { core = a.on.core.ghost_name; dev = a.on.dev.ghost_name; room = a.on.room.ghost_name; start = g.D.Device.view a.on.dev.now }
