use Rattle.image_copy.proofs.gathered.copy_committed.Given as goal

abbrev pub ghosts-gather_copy : goal.ghosts-gather_copy
ghosts-gather_copy g a = record { core = a.on.core.ghost_name; dev = a.on.dev.ghost_name; room = a.on.room.ghost_name; start = g.D.Device.view a.on.dev.now }
