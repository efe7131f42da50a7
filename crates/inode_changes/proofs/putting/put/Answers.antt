use Rattle.std.proofs.Common.{sym, ◌∙◌, ap, Some}
use Rattle.inode_changes.proofs.Common.{inode_tree, at, is_dir, then_looks}
use Rattle.inode_changes.proofs.OutcomeLaws.{refuses, looks_stop, looked_changes, answers_on, changes_on}
use Rattle.inode_changes.proofs.PutLaws.{lost_refuses, dir_refuses, puts_so}
use Rattle.inode_changes.proofs.putting.put.Goals as goal

pub look_up-requires : goal.look_up-requires
look_up-requires g c = record { may = c.requires.may; refusal = λ e. cc }

pub returns-in-Err : goal.returns-in-Err
returns-in-Err g c =
    let first = g.K.Blocks.view c.args.disk.now in
    let e = c.in-Err.ensures in
    record {
      answer = λ t. refuses (λ ne. lost_refuses c.args.client.now first c.args.path.now c.args.bytes.now (c.requires.may.tree t) c.in-Err.refusal (e.refused t ne)) (λ ne. ((e.looks.looked t).1 ne).world);
      changes = looked_changes c.requires.may.valid (looks_stop e.looks);
    }

pub check_old-requires : goal.check_old-requires
check_old-requires g c =
    let e = c.in-Ok.ensures in
    record {
      unspent = e.looks.unspent.0;
      valid = λ t. (e.looks.looked t).0.valid;
      dir = e.dir;
      found = λ t. (c.args.path.now, e.found t);
    }

pub returns-in-Err-check_old : goal.returns-in-Err-check_old
returns-in-Err-check_old g c =
    let me = c.args.client.now in
    let path = c.args.path.now in
    let e = c.in-Ok.ensures in
    let k = c.in-Err-check_old.ensures in
    record {
      answer = λ t.
          let same = (e.looks.looked t).0.world in
          refuses (λ ne. dir_refuses me (g.K.Blocks.view c.args.disk.now) path c.args.bytes.now (c.requires.may.tree t) (e.none t)
          (ap (λ w. is_dir (at (inode_tree w me.root) path)) (sym same) ∙ k.is_dir t ne path (e.found t)) ∙ ap (λ x. Some x) (sym (k.only t ne)))
          (λ ne. ((k.looks.looked t).1 ne).world ∙ same);
      changes = looked_changes c.requires.may.valid (then_looks _ _ _ _ _ _ e.looks (looks_stop k.looks));
    }

pub store-requires : goal.store-requires
store-requires g c =
    let e = c.in-Ok.ensures in
    let k = c.in-Ok-check_old.ensures in
    record {
      unspent = k.looks.unspent.0;
      valid = λ t. (k.looks.looked t).0.valid;
      dir = e.dir;
      short = e.short;
      puts = λ t. (c.args.path.now, puts_so c.requires.may (g.met.K.Blocks.sound c.args.disk.now) e.named e.looks e.found e.none k.looks k.no_dir t);
    }

pub returns-in-Ok-store : goal.returns-in-Ok-store
returns-in-Ok-store g c =
    let e = c.in-Ok.ensures in
    let k = c.in-Ok-check_old.ensures in
    let h = c.in-Ok-store.ensures in
    let looks = then_looks _ _ _ _ _ _ e.looks k.looks in
    let puts = puts_so c.requires.may (g.met.K.Blocks.sound c.args.disk.now) e.named e.looks e.found e.none k.looks k.no_dir in
    record {
      answer = λ t. answers_on looks t (h.answer t c.args.path.now (puts t));
      changes = changes_on c.requires.may.valid looks (h.changes c.args.path.now puts);
    }

pub returns-in-Err-store : goal.returns-in-Err-store
returns-in-Err-store g c =
    let e = c.in-Ok.ensures in
    let k = c.in-Ok-check_old.ensures in
    let h = c.in-Err-store.ensures in
    let looks = then_looks _ _ _ _ _ _ e.looks k.looks in
    let puts = puts_so c.requires.may (g.met.K.Blocks.sound c.args.disk.now) e.named e.looks e.found e.none k.looks k.no_dir in
    record {
      answer = λ t. answers_on looks t (h.answer t c.args.path.now (puts t));
      changes = changes_on c.requires.may.valid looks (h.changes c.args.path.now puts);
    }
