use Rattle.std.proofs.Common.{◌-◌}
use Rattle.fs_copy.proofs.PieceLaws.{AtPiece}
use Rattle.fs_copy.proofs.pieces.copy_file.Given as goal

abbrev pub invariant-loop-i : goal.invariant-loop-i
invariant-loop-i g l =
    AtPiece g.K.Blocks.told (g.A.Files.view l.fn.from) (g.B.Files.view l.fn.into) (g.A.Files.view l.from) (g.B.Files.view l.into)
    (g.K.Blocks.view l.fn.disk) (g.K.Blocks.view l.disk) l.path l.pieces l.i

abbrev pub decreases-loop-i : goal.decreases-loop-i
decreases-loop-i g l = l.pieces - l.i
