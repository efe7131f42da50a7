use Rattle.std.proofs.Common.{refl}
use Rattle.inode_changes.proofs.Common.{block_len, filled, written, live-with_contents, need, write_by, unlink_by, runs_as, runs_refused, no_more_room, write_takes, drop_takes, may_after}
use Rattle.inode_changes.proofs.EntryLaws.{list_fits}
use Rattle.inode_changes.proofs.EnterLaws.{listing, short_enough, enters_new, still_held, enters_old, wrote_runs, dropped_runs}
use Rattle.inode_changes.proofs.entering.enter.Goals as goal

pub directory_with-bytes-requires : goal.directory_with-bytes-requires
directory_with-bytes-requires g c = record {
  dir = c.requires.dir;
  named = c.requires.short;
  fits = list_fits c.args.lookup.now.directory.inode c.args.lookup.now.name.now c.args.inode c.requires.dir c.requires.room;
}

pub write_block-requires : goal.write_block-requires
write_block-requires g c =
    let old = g.K.Blocks.view c.args.disk.now in
    record {
      unspent = c.requires.unspent;
      valid = c.requires.valid;
      may = c.requires.may;
      fits = λ t. rw c.directory_with-bytes.ensures (short_enough c.args.client.now c.args.lookup.now c.args.inode old.world (c.requires.made t));
    }

pub returns-in-Err : goal.returns-in-Err
returns-in-Err g c =
    let h = c.in-Err.ensures in
    record {
      entered = λ t. tt;
      keeps = λ t. tt;
      only = h.only;
      runs = wrote_runs c.args.lookup.now c.args.inode c.requires.valid (rw c.directory_with-bytes.ensures at h.steps);
    }

pub returns-in-None : goal.returns-in-None
returns-in-None g c =
    let old = g.K.Blocks.view c.args.disk.now in
    let new = g.K.Blocks.view c.write_block.new.disk in
    let me = c.args.client.now in
    let lookup = c.args.lookup.now in
    let d = lookup.directory.block in
    let i = c.args.inode in
    let x = listing lookup i in
    let wrote = rw c.directory_with-bytes.ensures at c.in-Ok.ensures.steps in
    record {
      entered = λ t. enters_new me lookup i old.world new.world (wrote.went t).world (wrote.went t).leads c.in-None.is;
      keeps = λ t. write_takes me old new (c.requires.valid t) (write_by me d x) d x (c.requires.may t).live (wrote.went t);
      only = λ t. tt;
      runs = wrote_runs lookup i c.requires.valid wrote;
    }

pub drop_pointer-requires : goal.drop_pointer-requires
drop_pointer-requires g c =
    let old = g.K.Blocks.view c.args.disk.now in
    let mid = g.K.Blocks.view c.write_block.new.disk in
    let me = c.args.client.now in
    let lookup = c.args.lookup.now in
    let d = lookup.directory.block in
    let i = c.args.inode in
    let x = listing lookup i in
    let wrote = rw c.directory_with-bytes.ensures at c.in-Ok.ensures.steps in
    record {
      unspent = wrote.unspent.0;
      valid = λ t. (wrote.went t).valid;
      may = λ t. may_after me old mid (write_by me d x) d (written old.world d x) (wrote.went t) (c.requires.valid t) refl refl (λ a b h. h)
          (λ b h. live-with_contents old.world d b (filled (block_len old.world.geometry) x) h) wrote.stays.0 d (c.requires.may t);
      held = λ t. still_held me lookup i old.world mid.world (wrote.went t).world (wrote.went t).leads c.in-Some.old c.in-Some.is (c.requires.made t);
    }

pub returns-in-Ok-drop_pointer : goal.returns-in-Ok-drop_pointer
returns-in-Ok-drop_pointer g c =
    let old = g.K.Blocks.view c.args.disk.now in
    let mid = g.K.Blocks.view c.write_block.new.disk in
    let new = g.K.Blocks.view c.drop_pointer.new.disk in
    let me = c.args.client.now in
    let lookup = c.args.lookup.now in
    let d = lookup.directory.block in
    let i = c.args.inode in
    let b = c.in-Some.old in
    let x = listing lookup i in
    let wrote = rw c.directory_with-bytes.ensures at c.in-Ok.ensures.steps in
    let gone = c.in-Ok-drop_pointer.ensures.steps in
    record {
      entered = λ t. enters_old me lookup i old.world mid.world (wrote.went t).world (wrote.went t).leads b c.in-Some.is new.world (gone.went t).world (gone.went t).leads;
      keeps = λ t. no_more_room (need 0 0) old.world mid.world new.world (write_takes me old mid (c.requires.valid t) (write_by me d x) d x (c.requires.may t).live (wrote.went t))
          (drop_takes me mid new (wrote.went t).valid (unlink_by me d b) d b (gone.went t));
      only = λ t. tt;
      runs = runs_as _ _ _ _ _ _ (dropped_runs lookup i c.requires.valid wrote c.in-Some.is gone);
    }

pub returns-in-Err-drop_pointer : goal.returns-in-Err-drop_pointer
returns-in-Err-drop_pointer g c =
    let wrote = rw c.directory_with-bytes.ensures at c.in-Ok.ensures.steps in
    let h = c.in-Err-drop_pointer.ensures in
    record {
      entered = λ t. tt;
      keeps = λ t. tt;
      only = h.only;
      runs = runs_refused _ _ _ _ _ (dropped_runs c.args.lookup.now c.args.inode c.requires.valid wrote c.in-Some.is h.steps);
    }
