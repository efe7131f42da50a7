use Rattle.std.proofs.Common.{◌≡◌, ℕ, Bool, List, ◌∷◌, false, true, ◌≤◌, [], length, refl, sym, ◌∙◌, ap, arith, Some, None}
use Rattle.inode_changes.proofs.Common.{inode_tree, at, is_there, is_dir, bytes_in, then_looks, ask_done, tree_under, a_dir_there}
use Rattle.inode_changes.proofs.OutcomeLaws.{refuses, looks_stop, looks_refuse, looked_changes, fault_answers, answers_on, changes_on}
use Rattle.inode_changes.proofs.PlaceLaws.{none_at, may_read_old, has_old}
use Rattle.inode_changes.proofs.SameLaws.{file_same, file_is}
use Rattle.inode_changes.proofs.GrowLaws.{file_there, nothing_refuses}
use Rattle.inode_changes.proofs.PlacedLaws.{room_for_old, old_is, read_so, lost_refuses, missing_refuses, dir_refuses}
use Rattle.inode_changes.proofs.appending.append.Goals as goal
use Rattle.tsd_model.proofs.ValueLaws.{clash}

pub look_up-requires : goal.look_up-requires
look_up-requires g c = record { may = c.requires.may; refusal = λ e. cc }

pub returns-in-Err : goal.returns-in-Err
returns-in-Err g c =
    let first = g.K.Blocks.view c.args.disk.now in
    let e = c.in-Err.ensures in
    record {
      answer = λ t. refuses (λ ne. lost_refuses c.args.client.now first c.args.path.now c.args.bytes.now (c.requires.may.tree t) c.in-Err.refusal (e.refused t ne)) (λ ne. ((e.looks.looked t).1 ne).world);
      changes = looked_changes c.requires.may.valid (looks_stop e.looks);
      idle = λ none. looks_stop e.looks;
    }

pub returns-in-None : goal.returns-in-None
returns-in-None g c =
    let mid = g.K.Blocks.view c.look_up.new.disk in
    let me = c.args.client.now in
    let path = c.args.path.now in
    let lookup = c.in-Ok.lookup in
    let e = c.in-Ok.ensures in
    record {
      answer = λ t.
          let same = (e.looks.looked t).0.world in
          refuses (λ ne. missing_refuses me (g.K.Blocks.view c.args.disk.now) path c.args.bytes.now (c.requires.may.tree t) (e.none t)
          (ap (λ w. is_there (at (inode_tree w me.root) path)) (sym same) ∙ none_at me mid path lookup e.dir (e.found t) (old_is me mid path lookup e.dir (e.found t) None (sym c.in-None.ensures)))) (λ ne. same);
      changes = looked_changes c.requires.may.valid (looks_refuse (λ d. cc) e.looks);
      idle = λ none. looks_refuse (λ d. cc) e.looks;
    }

pub read_inode-requires : goal.read_inode-requires
read_inode-requires g c =
    let mid = g.K.Blocks.view c.look_up.new.disk in
    let me = c.args.client.now in
    let path = c.args.path.now in
    let lookup = c.in-Ok.lookup in
    let e = c.in-Ok.ensures in
    let b = c.in-Some.block in
    record {
      unspent = e.looks.unspent.0;
      valid = λ t. (e.looks.looked t).0.valid;
      may = λ t. may_read_old me mid path lookup e.dir (e.found t) b (old_is me mid path lookup e.dir (e.found t) (Some b) (sym c.in-Some.ensures)) (e.looks.looked t).0.valid;
      inode = λ t. has_old me mid path lookup e.dir (e.found t) b (old_is me mid path lookup e.dir (e.found t) (Some b) (sym c.in-Some.ensures));
    }

pub returns-in-Err-read_inode : goal.returns-in-Err-read_inode
returns-in-Err-read_inode g c =
    let e = c.in-Err-read_inode.ensures in
    let looks = then_looks _ _ _ _ _ _ c.in-Ok.ensures.looks e.looks in
    record {
      answer = λ t. fault_answers (e.only t);
      changes = looked_changes c.requires.may.valid (looks_stop looks);
      idle = λ none. looks_stop looks;
    }

pub returns-then-is_directory : goal.returns-then-is_directory
returns-then-is_directory g c =
    let me = c.args.client.now in
    let path = c.args.path.now in
    let e = c.in-Ok.ensures in
    let f = c.in-Ok-read_inode.ensures in
    let read = read_so c.requires.may (g.met.K.Blocks.sound c.args.disk.now) e.named e.looks e.dir e.found e.none (sym c.in-Some.ensures) f.looks f.block f.says f.whole f.held in
    record {
      answer = λ t.
          let same = (read.looks.looked t).0.world in
          refuses (λ ne. dir_refuses me (g.K.Blocks.view c.args.disk.now) path c.args.bytes.now (c.requires.may.tree t) (e.none t)
          (ap (λ w. is_dir (at (inode_tree w me.root) path)) (sym same)
          ∙ (a_dir_there me (g.K.Blocks.view c.read_inode.new.disk) path c.in-Ok-read_inode.file (read.grows t).found (sym c.is_directory.ensures ∙ c.if-is_directory.true)).0)) (λ ne. same);
      changes = looked_changes c.requires.may.valid (looks_refuse (λ d. cc) read.looks);
      idle = λ none. looks_refuse (λ d. cc) read.looks;
    }

pub returns-then-is_empty : goal.returns-then-is_empty
returns-then-is_empty g c =
    let rd = g.K.Blocks.view c.read_inode.new.disk in
    let me = c.args.client.now in
    let path = c.args.path.now in
    let e = c.in-Ok.ensures in
    let f = c.in-Ok-read_inode.ensures in
    let read = read_so c.requires.may (g.met.K.Blocks.sound c.args.disk.now) e.named e.looks e.dir e.found e.none (sym c.in-Some.ensures) f.looks f.block f.says f.whole f.held in
    let no_dir = sym c.is_directory.ensures ∙ c.if-is_directory.false in
    let empty : c.args.bytes.now ≡ [] = c.is_empty.ensures.0 c.if-is_empty.true in
    record {
      answer = λ t.
          let there = file_there me rd path c.in-Ok.lookup c.in-Ok-read_inode.file (read.grows t) no_dir (f.looks.looked t).0.valid in
          rw empty (answers_on read.looks t
          (ask_done _ rd rd _ tt (nothing_refuses me rd path c.in-Ok.lookup c.in-Ok-read_inode.file (read.grows t) no_dir (f.looks.looked t).0.valid) refl
          (sym (file_same path (tree_under me rd) (bytes_in (at (tree_under me rd) path)) (file_is (at (tree_under me rd) path) there)))));
      changes = looked_changes c.requires.may.valid read.looks;
      idle = λ none. read.looks;
    }

some_bytes : (y : List ℕ) (r : Bool) → (y ≡ [] → r ≡ true) → r ≡ false → 1 ≤ length y
some_bytes [] r h e = let never : true ≡ false = sym (h refl) ∙ e in absurd (cc)
some_bytes (x ∷ y) r h e = omega arith

pub grow-requires : goal.grow-requires
grow-requires g c =
    let lookup = c.in-Ok.lookup in
    let e = c.in-Ok.ensures in
    let f = c.in-Ok-read_inode.ensures in
    let read = read_so c.requires.may (g.met.K.Blocks.sound c.args.disk.now) e.named e.looks e.dir e.found e.none (sym c.in-Some.ensures) f.looks f.block f.says f.whole f.held in
    record {
      unspent = f.looks.unspent.0;
      valid = λ t. (f.looks.looked t).0.valid;
      dir = e.dir;
      short = e.short;
      room = room_for_old lookup.directory.inode lookup.name.now c.in-Some.block e.dir (sym c.in-Some.ensures);
      is_file = sym c.is_directory.ensures ∙ c.if-is_directory.false;
      some = some_bytes c.args.bytes.now c.is_empty.result c.is_empty.ensures.1 c.if-is_empty.false;
      grows = λ t. (c.args.path.now, read.grows t);
    }

pub returns : goal.returns
returns g c =
    let e = c.in-Ok.ensures in
    let f = c.in-Ok-read_inode.ensures in
    let read = read_so c.requires.may (g.met.K.Blocks.sound c.args.disk.now) e.named e.looks e.dir e.found e.none (sym c.in-Some.ensures) f.looks f.block f.says f.whole f.held in
    record {
      answer = λ t. answers_on read.looks t (c.grow.ensures.answer t c.args.path.now (read.grows t));
      changes = changes_on c.requires.may.valid read.looks (c.grow.ensures.changes c.args.path.now read.grows);
      idle = λ none. absurd (clash c.is_empty.result (c.is_empty.ensures.1 none) c.if-is_empty.false);
    }
