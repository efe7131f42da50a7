use Rattle.gathered_tasks.proofs.Common.{gathered}
use Rattle.gathered_tasks.proofs.hold.in_memory.Given as goal

abbrev pub ghosts-in_slots : goal.ghosts-in_slots
ghosts-in_slots g a = record { start = g.P.Device.view a.below.dev.now; batch = gathered a.room.now; device = a.below.dev.ghost_name }
