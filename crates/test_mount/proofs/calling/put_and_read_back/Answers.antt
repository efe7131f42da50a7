use Rattle.fs_port.specs.Plain.{plain_view}
use Rattle.test_mount.proofs.CallLaws.{tree_then, came_back}
use Rattle.test_mount.proofs.calling.put_and_read_back.Goals as goal

pub read_part-requires-clause-tree : goal.read_part-requires-clause-tree
read_part-requires-clause-tree g c = λ told. tree_then (g.F.Files.view c.args.files.now) (plain_view c.make.new.disk) (plain_view c.put.new.disk) c.args.path.now c.args.bytes.now (c.in-Ok.ensures.made tt).tree
    (g.F.Files.view c.make.new.self) (g.F.Files.view c.put.new.self) c.in-Ok.ensures.mounted c.in-Ok-put.ensures.same (c.in-Ok-put.ensures.answer tt)

pub returns : goal.returns
returns g c = came_back (g.F.Files.view c.args.files.now) (plain_view c.make.new.disk) (plain_view c.put.new.disk) c.args.path.now c.args.bytes.now (c.in-Ok.ensures.made tt).tree
    (g.F.Files.view c.make.new.self) (g.F.Files.view c.put.new.self) c.in-Ok.ensures.mounted c.in-Ok-put.ensures.same (c.in-Ok-put.ensures.answer tt)
    (plain_view c.read_part.new.disk) c.read_part.new.into c.read_part.result (c.read_part.ensures.answer tt)
