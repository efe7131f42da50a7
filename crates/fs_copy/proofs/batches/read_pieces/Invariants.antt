use Rattle.std.proofs.Common.{◌+◌, ◌-◌, ◌*◌, ◌≤◌, IfSome}
use Rattle.fs_port.specs.View.{state_of}
use Rattle.fs_copy.proofs.BatchLaws.{AtRead}
use Rattle.fs_copy.proofs.batches.read_pieces.Given as goal

abbrev pub invariant-loop-i : goal.invariant-loop-i
invariant-loop-i g l =
    AtRead g.K.Blocks.told (g.A.Files.view l.fn.from) (g.A.Files.view l.from) (g.K.Blocks.view l.fn.disk) (g.K.Blocks.view l.disk) l.path l.first l.i l.into.items
    × (g.K.Blocks.told → IfSome l.place (g.A.Walks.leads (g.A.Files.view l.from) (state_of (g.K.Blocks.view l.disk)) l.path ((l.first + l.i) * 4096)))
    × (l.i ≤ l.count)

abbrev pub decreases-loop-i : goal.decreases-loop-i
decreases-loop-i g l = l.count - l.i
