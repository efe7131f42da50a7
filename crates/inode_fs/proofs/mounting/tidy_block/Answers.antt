use contract.BorrowLft.{⊑_static}
use Rattle.std.proofs.Common.{[], sym, ◌∙◌}
use Rattle.inode_fs.proofs.Common.{IsClean, OnlyNamed, on_ok}
use Rattle.inode_fs.proofs.TidyLaws.{no_trims, lost_trims, inode_may, inode_deletes, inode_trims, inode_cleans, data_deletes, clean_before, clean_unmarked, clean_data}
use Rattle.inode_fs.proofs.mounting.tidy_block.Goals as goal

pub returns-then-not-has_leftovers : goal.returns-then-not-has_leftovers
returns-then-not-has_leftovers g c =
    let may = c.requires.1 in
    let none = sym c.has_leftovers.ensures ∙ c.if-not-has_leftovers.true in
    record {
      trims = no_trims may (g.met.K.Blocks.sound c.args.disk.now);
      clean = λ t. clean_before c.args.client.now g.kept (g.K.Blocks.view c.args.disk.now) c.args.marks.now (may.named t) (may.marked t) (may.noted t) c.args.block none;
    }

pub read_inode-requires : goal.read_inode-requires
read_inode-requires g c =
    let may = c.requires.1 in
    let one = sym c.is_inode.ensures ∙ c.if-is_inode.true in
    record {
      unspent = may.ready.unspent;
      valid = may.valid;
      may = inode_may may (g.met.K.Blocks.sound c.args.disk.now) c.args.block one;
      inode = λ t. (may.marked t).inodes c.args.block one;
    }

pub delete_others-requires : goal.delete_others-requires
delete_others-requires g c κs within =
    let one = sym c.is_inode.ensures ∙ c.if-is_inode.true in
    (within, (⊑_static _, inode_deletes c.requires.1 (g.met.K.Blocks.sound c.args.disk.now) c.args.block one c.in-Ok.ensures.looks c.in-Ok.ensures.says))

pub returns-in-Ok : goal.returns-in-Ok
returns-in-Ok g c =
    let sound = g.met.K.Blocks.sound c.args.disk.now in
    let one = sym c.is_inode.ensures ∙ c.if-is_inode.true in
    let read = c.in-Ok.ensures in
    let deleted = c.delete_others.ensures in
    record {
      trims = inode_trims c.requires.1 sound c.args.block one read.looks read.says deleted.trims;
      clean = inode_cleans c.requires.1 sound c.args.block one read.looks read.says deleted.trims deleted.named;
    }

pub returns-in-Err : goal.returns-in-Err
returns-in-Err g c =
    let read = c.in-Err.ensures in
    record { trims = lost_trims c.requires.1 (g.met.K.Blocks.sound c.args.disk.now) read.looks read.only; clean = λ t. tt }

pub delete_others-requires-then-is_data_block : goal.delete_others-requires-then-is_data_block
delete_others-requires-then-is_data_block g c κs within =
    let off = sym c.is_inode.ensures ∙ c.if-is_inode.false in
    let two = sym c.is_data_block.ensures ∙ c.if-is_data_block.true in
    (within, (⊑_static _, data_deletes c.requires.1 (g.met.K.Blocks.sound c.args.disk.now) off two))

pub returns-then-is_data_block : goal.returns-then-is_data_block
returns-then-is_data_block g c =
    let new = g.K.Blocks.view c.delete_others-then-is_data_block.new.disk in
    let result = c.delete_others-then-is_data_block.result in
    record {
      trims = c.delete_others-then-is_data_block.ensures.trims;
      clean = λ t. on_ok (OnlyNamed new.world c.args.block []) (IsClean g.kept new.world c.args.block) result (clean_data g.kept new.world c.args.block) (c.delete_others-then-is_data_block.ensures.named t);
    }

pub returns-else-is_data_block : goal.returns-else-is_data_block
returns-else-is_data_block g c =
    let v = g.K.Blocks.view c.args.disk.now in
    let may = c.requires.1 in
    record {
      trims = no_trims may (g.met.K.Blocks.sound c.args.disk.now);
      clean = λ t. clean_unmarked c.args.client.now g.kept v c.args.marks.now (may.named t) (may.marked t) (may.noted t) c.args.block (sym c.is_inode.ensures ∙ c.if-is_inode.false) (sym c.is_data_block.ensures ∙ c.if-is_data_block.false) v.world;
    }
