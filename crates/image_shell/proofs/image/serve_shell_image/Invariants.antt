use Rattle.image_shell.proofs.Common.{world_of}
use Rattle.image_shell.proofs.image.serve_shell_image.Given as goal

-- the world at the start
abbrev pub ghosts-serve_opened : goal.ghosts-serve_opened
ghosts-serve_opened g a = record { start = world_of (g.P.Device.view a.port.now).reads }
