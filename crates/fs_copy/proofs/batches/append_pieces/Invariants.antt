use Rattle.fs_copy.proofs.BatchLaws.{AtAppend}
use Rattle.fs_copy.proofs.batches.append_pieces.Given as goal

abbrev pub invariant-loop-position : goal.invariant-loop-position
invariant-loop-position g l =
    AtAppend g.K.Blocks.told (g.B.Files.view l.fn.into) (g.B.Files.view l.into) (g.K.Blocks.view l.fn.disk) (g.K.Blocks.view l.disk) l.path l.pieces.items l.position
