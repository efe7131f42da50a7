use Rattle.mirror_device.specs.MemSides.{mem_view}
use Rattle.mirror_device.specs.Mirror.{start_at}
use Rattle.test_mirror.proofs.mirrored.run_differing.Given as goal

abbrev pub ghosts-run_over : goal.ghosts-run_over
ghosts-run_over a = record { start = start_at (mem_view a.sides) }
