use Rattle.std.proofs.Common.{[], refl, ap}
use Rattle.inode_changes.proofs.Common.{block_len, filled, written, live-with_contents, directory, inode_bytes, need, write_by, runs_as, runs_refused, no_more_room, write_takes, may_after}
use Rattle.inode_changes.proofs.TakenLaws.{begun_takes}
use Rattle.inode_changes.proofs.DirectoryLaws.{empty_fits, inode_runs, made_so}
use Rattle.inode_changes.proofs.directories.new_directory.Goals as goal

pub new_inode-requires : goal.new_inode-requires
new_inode-requires g c = record { unspent = c.requires.unspent; valid = c.requires.valid; stage = c.requires.stage; may = c.requires.may }

pub returns-in-Err : goal.returns-in-Err
returns-in-Err g c =
    let e = c.in-Err.ensures in
    record { made = λ t. tt; may = λ t. tt; room = λ t. tt; keeps = λ t. tt; full = e.full; same = λ t ne. ap (λ st. st.world) (e.same t ne); runs = e.runs }

pub write_block-requires : goal.write_block-requires
write_block-requires g c =
    let old = g.K.Blocks.view c.args.disk.now in
    let mid = g.K.Blocks.view c.new_inode.new.disk in
    let e = c.in-Ok.ensures in
    record {
      unspent = e.runs.unspent.0;
      valid = λ t. (e.runs.valid t).0;
      may = λ t. (e.began t).inode;
      fits = λ t. rw c.empty_directory.ensures (empty_fits c.args.client.now old mid c.args.directory c.in-Ok.inode (c.requires.stage t) (e.began t) (e.runs.valid t).0.valid);
    }

pub returns-in-Ok-write_block : goal.returns-in-Ok-write_block
returns-in-Ok-write_block g c =
    let old = g.K.Blocks.view c.args.disk.now in
    let mid = g.K.Blocks.view c.new_inode.new.disk in
    let new = g.K.Blocks.view c.write_block.new.disk in
    let me = c.args.client.now in
    let d = c.args.directory in
    let e = c.in-Ok.ensures in
    let i = c.in-Ok.inode in
    let zero = inode_bytes (directory []) in
    let wrote = rw c.empty_directory.ensures at c.in-Ok-write_block.ensures.steps in
    record {
      made = λ t. made_so me old mid d i (c.requires.stage t) (e.began t) new (wrote.went t);
      may = λ t b h. may_after me mid new (write_by me i zero) i (written mid.world i zero) (wrote.went t) (e.runs.valid t).0 refl refl (λ p q j. j)
          (λ k j. live-with_contents mid.world i k (filled (block_len mid.world.geometry) zero) j) wrote.stays.0 b ((e.began t).may b h);
      room = e.room;
      keeps = λ t. no_more_room (need 1 1) old.world mid.world new.world (begun_takes me old mid d i (e.began t)) (write_takes me mid new (e.runs.valid t).0 (write_by me i zero) i zero (e.began t).inode.live (wrote.went t));
      full = λ t. tt;
      same = λ t. tt;
      runs = runs_as _ _ _ _ _ _ (inode_runs c.requires.stage e.began e.runs wrote);
    }

pub returns-in-Err-write_block : goal.returns-in-Err-write_block
returns-in-Err-write_block g c =
    let e = c.in-Ok.ensures in
    let h = c.in-Err-write_block.ensures in
    record {
      made = λ t. tt;
      may = λ t. tt;
      room = λ t. tt;
      keeps = λ t. tt;
      full = λ t ne. absurd (ne (h.only t));
      same = λ t ne. absurd (ne (h.only t));
      runs = runs_refused _ _ _ _ _ (inode_runs c.requires.stage e.began e.runs (rw c.empty_directory.ensures at h.steps));
    }
