use Rattle.image_probe.proofs.testing.test_first.Given as goal

abbrev pub ghosts-test_over : goal.ghosts-test_over
ghosts-test_over g a = record { before = g.P.Sides.view a.sides }
