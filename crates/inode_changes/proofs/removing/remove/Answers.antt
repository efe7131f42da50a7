use Rattle.std.proofs.Common.{refl, sym, ◌∙◌, ap}
use Rattle.inode_changes.proofs.Common.{at, is_there, inode_tree, then_looks, changes_of, runs_as, runs_refused}
use Rattle.inode_changes.proofs.OutcomeLaws.{refuses, looks_stop, looks_refuse, looked_changes, fault_answers, fault_changes}
use Rattle.inode_changes.proofs.PlaceLaws.{none_at, may_read_old, has_old}
use Rattle.inode_changes.proofs.RemoveLaws.{read_so, lost_refuses, missing_refuses, full_refuses, may_write, fits, wrote_runs, may_drop, pair_held, dropped_runs, removed, keeps_room, left}
use Rattle.inode_changes.proofs.removing.remove.Goals as goal

pub look_up-requires : goal.look_up-requires
look_up-requires g c = record { may = c.requires.may; refusal = λ e. cc }

pub returns-in-Err : goal.returns-in-Err
returns-in-Err g c =
    let e = c.in-Err.ensures in
    record {
      answer = λ t. refuses (λ ne. lost_refuses c.args.client.now (g.K.Blocks.view c.args.disk.now) c.args.path.now (c.requires.may.tree t) c.in-Err.refusal (e.refused t ne)) (λ ne. ((e.looks.looked t).1 ne).world);
      changes = looked_changes c.requires.may.valid (looks_stop e.looks);
    }

pub returns-in-None : goal.returns-in-None
returns-in-None g c =
    let me = c.args.client.now in
    let path = c.args.path.now in
    let e = c.in-Ok.ensures in
    record {
      answer = λ t.
          let same = (e.looks.looked t).0.world in
          refuses (λ ne. missing_refuses me (g.K.Blocks.view c.args.disk.now) path (c.requires.may.tree t) (e.none t)
          (ap (λ w. is_there (at (inode_tree w me.root) path)) (sym same) ∙ none_at me (g.K.Blocks.view c.look_up.new.disk) path c.in-Ok.lookup e.dir (e.found t) c.in-None.is)) (λ ne. same);
      changes = looked_changes c.requires.may.valid (looks_refuse (λ d. cc) e.looks);
    }

pub read_inode-requires : goal.read_inode-requires
read_inode-requires g c =
    let mid = g.K.Blocks.view c.look_up.new.disk in
    let e = c.in-Ok.ensures in
    record {
      unspent = e.looks.unspent.0;
      valid = λ t. (e.looks.looked t).0.valid;
      may = λ t. may_read_old c.args.client.now mid c.args.path.now c.in-Ok.lookup e.dir (e.found t) c.in-Some.block c.in-Some.is (e.looks.looked t).0.valid;
      inode = λ t. has_old c.args.client.now mid c.args.path.now c.in-Ok.lookup e.dir (e.found t) c.in-Some.block c.in-Some.is;
    }

pub returns-in-Err-read_inode : goal.returns-in-Err-read_inode
returns-in-Err-read_inode g c =
    let e = c.in-Err-read_inode.ensures in
    record {
      answer = λ t. fault_answers (e.only t);
      changes = looked_changes c.requires.may.valid (then_looks _ _ _ _ _ _ c.in-Ok.ensures.looks (looks_stop e.looks));
    }

pub returns-then-has_entries : goal.returns-then-has_entries
returns-then-has_entries g c =
    let e = c.in-Ok.ensures in
    let f = c.in-Ok-read_inode.ensures in
    let read = read_so c.requires.may (g.met.K.Blocks.sound c.args.disk.now) e.looks e.dir e.found e.none c.in-Some.is f.looks f.says in
    record {
      answer = λ t. refuses (λ ne. full_refuses (read.taking t) (sym c.has_entries.ensures ∙ c.if-has_entries.true)) (λ ne. (read.looks.looked t).0.world);
      changes = looked_changes c.requires.may.valid (looks_refuse (λ d. cc) read.looks);
    }

pub directory_without-bytes-requires : goal.directory_without-bytes-requires
directory_without-bytes-requires g c = record { dir = c.in-Ok.ensures.dir }

pub write_block-requires : goal.write_block-requires
write_block-requires g c =
    let e = c.in-Ok.ensures in
    let f = c.in-Ok-read_inode.ensures in
    let read = read_so c.requires.may (g.met.K.Blocks.sound c.args.disk.now) e.looks e.dir e.found e.none c.in-Some.is f.looks f.says in
    record {
      unspent = f.looks.unspent.0;
      valid = λ t. (f.looks.looked t).0.valid;
      may = λ t. may_write (read.taking t);
      fits = λ t. rw c.directory_without-bytes.ensures (fits (read.taking t));
    }

pub returns-in-Err-write_block : goal.returns-in-Err-write_block
returns-in-Err-write_block g c =
    let e = c.in-Ok.ensures in
    let f = c.in-Ok-read_inode.ensures in
    let read = read_so c.requires.may (g.met.K.Blocks.sound c.args.disk.now) e.looks e.dir e.found e.none c.in-Some.is f.looks f.says in
    let h = c.in-Err-write_block.ensures in
    let wrote = rw c.directory_without-bytes.ensures at h.steps in
    record {
      answer = λ t. fault_answers (h.only t);
      changes = fault_changes refl h.only (wrote_runs read (sym c.has_entries.ensures ∙ c.if-has_entries.false) wrote);
    }

pub drop_pointer-requires : goal.drop_pointer-requires
drop_pointer-requires g c =
    let e = c.in-Ok.ensures in
    let f = c.in-Ok-read_inode.ensures in
    let read = read_so c.requires.may (g.met.K.Blocks.sound c.args.disk.now) e.looks e.dir e.found e.none c.in-Some.is f.looks f.says in
    let empty = sym c.has_entries.ensures ∙ c.if-has_entries.false in
    let wrote = rw c.directory_without-bytes.ensures at c.in-Ok-write_block.ensures.steps in
    record {
      unspent = wrote.unspent.0;
      valid = λ t. (wrote.went t).valid;
      may = λ t. may_drop (read.taking t) empty (wrote.went t) wrote.stays.0;
      held = λ t. pair_held (read.taking t) empty (wrote.went t) wrote.stays.0;
    }

pub returns-in-Ok-drop_pointer : goal.returns-in-Ok-drop_pointer
returns-in-Ok-drop_pointer g c =
    let e = c.in-Ok.ensures in
    let f = c.in-Ok-read_inode.ensures in
    let read = read_so c.requires.may (g.met.K.Blocks.sound c.args.disk.now) e.looks e.dir e.found e.none c.in-Some.is f.looks f.says in
    let empty = sym c.has_entries.ensures ∙ c.if-has_entries.false in
    let wrote = rw c.directory_without-bytes.ensures at c.in-Ok-write_block.ensures.steps in
    let gone = c.in-Ok-drop_pointer.ensures.steps in
    record {
      answer = removed read empty wrote gone;
      changes = changes_of _ _ refl _ _ _ _ (keeps_room read empty wrote gone) (λ t. (left read empty wrote gone t, tt)) (runs_as _ _ _ _ _ _ (dropped_runs read empty wrote gone));
    }

pub returns-in-Err-drop_pointer : goal.returns-in-Err-drop_pointer
returns-in-Err-drop_pointer g c =
    let e = c.in-Ok.ensures in
    let f = c.in-Ok-read_inode.ensures in
    let read = read_so c.requires.may (g.met.K.Blocks.sound c.args.disk.now) e.looks e.dir e.found e.none c.in-Some.is f.looks f.says in
    let empty = sym c.has_entries.ensures ∙ c.if-has_entries.false in
    let wrote = rw c.directory_without-bytes.ensures at c.in-Ok-write_block.ensures.steps in
    let h = c.in-Err-drop_pointer.ensures in
    record {
      answer = λ t. fault_answers (h.only t);
      changes = fault_changes refl h.only (runs_refused _ _ _ _ _ (dropped_runs read empty wrote h.steps));
    }
