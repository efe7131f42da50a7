use Rattle.mirror_device.specs.Mirror.{start_at}
use Rattle.test_mirror.proofs.saving.save_both.Given as goal

abbrev pub ghosts-save_over : goal.ghosts-save_over
ghosts-save_over g a = record { start = start_at (g.P.Sides.view a.sides) }
