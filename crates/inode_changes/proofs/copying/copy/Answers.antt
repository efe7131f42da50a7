use Rattle.std.proofs.Common.{◌≡◌, refl, sym, ◌∙◌, ap, Some}
use Rattle.inode_changes.proofs.Common.{at, is_there, inode_tree, lookup_refusal, then_looks}
use Rattle.fs_trees.specs.declared.refusal.FsRefusal.TheVariants as no
use Rattle.inode_changes.proofs.OutcomeLaws.{refuses, looks_stop, looks_refuse, looked_changes, answers_on, changes_on}
use Rattle.inode_changes.proofs.PlaceLaws.{there_at}
use Rattle.inode_changes.proofs.CopyLaws.{asks_still, copies_so, lost_refuses, place_refuses, taken_refuses, full_refuses}
use Rattle.inode_changes.proofs.copying.copy.Goals as goal

pub find_file-requires : goal.find_file-requires
find_file-requires g c = record { may = c.requires.may }

pub returns-in-Err : goal.returns-in-Err
returns-in-Err g c =
    let first = g.K.Blocks.view c.args.disk.now in
    let e = c.in-Err.ensures in
    record {
      answer = λ t. refuses (λ ne. lost_refuses c.args.client.now first c.args.path.now c.args.new.now (c.requires.may.tree t) c.in-Err.refusal (e.refused t ne)) (λ ne. ((e.looks.looked t).1 ne).world);
      changes = looked_changes c.requires.may.valid (looks_stop e.looks);
    }

pub look_up-requires : goal.look_up-requires
look_up-requires g c = record { may = asks_still _ _ _ _ _ c.in-Ok.ensures.looks c.requires.may; refusal = λ e. cc }

pub returns-in-Err-look_up : goal.returns-in-Err-look_up
returns-in-Err-look_up g c =
    let first = g.K.Blocks.view c.args.disk.now in
    let me = c.args.client.now in
    let new = c.args.new.now in
    let f = c.in-Ok.ensures in
    let e = c.in-Err-look_up.ensures in
    record {
      answer = λ t.
          let same = (f.looks.looked t).0.world in
          refuses (λ ne. place_refuses me first c.args.path.now new (c.requires.may.tree t) (f.none t) c.in-Err-look_up.refusal (ap (λ w. lookup_refusal (inode_tree w me.root) new no.Exists) (sym same) ∙ e.refused t ne))
          (λ ne. ((e.looks.looked t).1 ne).world ∙ same);
      changes = looked_changes c.requires.may.valid (then_looks _ _ _ _ _ _ f.looks (looks_stop e.looks));
    }

pub returns-in-Some : goal.returns-in-Some
returns-in-Some g c =
    let first = g.K.Blocks.view c.args.disk.now in
    let me = c.args.client.now in
    let new = c.args.new.now in
    let f = c.in-Ok.ensures in
    let e = c.in-Ok-look_up.ensures in
    let looks = then_looks _ _ _ _ _ _ f.looks e.looks in
    record {
      answer = λ t.
          let same = (looks.looked t).0.world in
          refuses (λ ne. taken_refuses me first c.args.path.now new (c.requires.may.tree t) (f.none t) (ap (λ w. lookup_refusal (inode_tree w me.root) new no.Exists) (sym (f.looks.looked t).0.world) ∙ e.none t)
          (ap (λ w. is_there (at (inode_tree w me.root) new)) (sym same) ∙ there_at me (g.K.Blocks.view c.look_up.new.disk) new c.in-Ok-look_up.lookup e.dir (e.found t) c.in-Some._taken c.in-Some.is)) (λ ne. same);
      changes = looked_changes c.requires.may.valid (looks_refuse (λ d. cc) looks);
    }

pub check_entry-requires : goal.check_entry-requires
check_entry-requires g c = c.in-Ok-look_up.ensures.dir

pub returns-in-Err-check_entry : goal.returns-in-Err-check_entry
returns-in-Err-check_entry g c =
    let v = g.K.Blocks.view c.look_up.new.disk in
    let f = c.in-Ok.ensures in
    let e = c.in-Ok-look_up.ensures in
    let looks = then_looks _ _ _ _ _ _ f.looks e.looks in
    let copies = copies_so c.requires.may (g.met.K.Blocks.sound c.args.disk.now) e.named f.looks f.found f.none e.looks e.found e.none c.in-None.is in
    let h = c.in-Err-check_entry.ensures in
    record {
      answer = λ t. answers_on looks t (refuses {new = v} (λ ne.
          full_refuses c.args.client.now v c.args.path.now c.in-Ok.file c.args.new.now c.in-Ok-look_up.lookup (copies t) e.dir (looks.looked t).0.valid h.full ∙ ap (λ x. Some x) (sym h.only)) (λ ne. refl));
      changes = looked_changes c.requires.may.valid (looks_refuse (λ d. let both : no.DirFull ≡ no.Device = sym h.only ∙ d in cc) looks);
    }

pub copy_to-requires : goal.copy_to-requires
copy_to-requires g c =
    let f = c.in-Ok.ensures in
    let e = c.in-Ok-look_up.ensures in
    record {
      unspent = e.looks.unspent.0;
      valid = λ t. (e.looks.looked t).0.valid;
      is_file = f.file;
      dir = e.dir;
      short = e.short;
      room = c.in-Ok-check_entry.ensures.room;
      copies = λ t. (c.args.path.now, c.args.new.now, copies_so c.requires.may (g.met.K.Blocks.sound c.args.disk.now) e.named f.looks f.found f.none e.looks e.found e.none c.in-None.is t);
    }

pub returns : goal.returns
returns g c =
    let f = c.in-Ok.ensures in
    let e = c.in-Ok-look_up.ensures in
    let looks = then_looks _ _ _ _ _ _ f.looks e.looks in
    let copies = copies_so c.requires.may (g.met.K.Blocks.sound c.args.disk.now) e.named f.looks f.found f.none e.looks e.found e.none c.in-None.is in
    let h = c.copy_to.ensures in
    record {
      answer = λ t. answers_on looks t (h.answer t c.args.path.now c.args.new.now (copies t));
      changes = changes_on c.requires.may.valid looks (h.changes c.args.path.now c.args.new.now copies);
    }
