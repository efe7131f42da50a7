use Rattle.inode_walks.proofs.ReadLaws.{read_says, read_whole, read_only, on_ok, read_looks}
use Rattle.inode_walks.proofs.finding.read_inode.Goals as goal

pub returns-in-Ok : goal.returns-in-Ok
returns-in-Ok g c =
    let told = g.K.Blocks.told in
    let old = g.K.Blocks.view c.args.disk.now in
    let new = g.K.Blocks.view c.look.new.disk in
    let result = c.found_in.result in
    record {
      block = c.found_in.ensures.block;
      says = λ t. read_says old.world c.args.block c.in-Ok.bytes (c.requires.valid t).valid (c.in-Ok.ensures.bytes t) (c.requires.inode t) result c.found_in.ensures.said;
      whole = λ t. read_whole old.world c.args.block c.in-Ok.bytes (c.requires.valid t).valid (c.in-Ok.ensures.bytes t) (c.requires.inode t) result c.found_in.ensures.kept;
      held = λ t. on_ok result _ (c.in-Ok.ensures.held t);
      only = λ t. read_only old.world c.args.block c.in-Ok.bytes (c.requires.valid t).valid (c.in-Ok.ensures.bytes t) (c.requires.inode t) result c.found_in.ensures.none;
      looks = read_looks told old new c.in-Ok.bytes result c.in-Ok.ensures.looks c.found_in.ensures.refusal;
    }
