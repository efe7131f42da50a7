use Rattle.std.proofs.Common.{length, sym, ◌∙◌, ap}
use Rattle.inode_changes.proofs.Common.{free_count, inode_tree, need, at, is_there, tree_under}
use Rattle.inode_changes.proofs.OutcomeLaws.{refuses, looks_stop, looks_refuse, looked_changes, answers_on, changes_on}
use Rattle.inode_changes.proofs.PlaceLaws.{there_at}
use Rattle.inode_changes.proofs.MakeLaws.{dir_lost, dir_taken, vacant_so}
use Rattle.inode_changes.proofs.directories.make_dir.Goals as goal

pub look_up-requires : goal.look_up-requires
look_up-requires g c = record { may = c.requires.may; refusal = λ e. cc }

pub returns-in-Err : goal.returns-in-Err
returns-in-Err g c =
    let first = g.K.Blocks.view c.args.disk.now in
    let e = c.in-Err.ensures in
    record {
      answer = λ t. refuses (λ ne. dir_lost first.world.geometry (tree_under c.args.client.now first) (free_count first.world) (length first.world.pairs) (need 1 1) (c.requires.may.tree t) c.args.path.now c.in-Err.refusal (e.refused t ne))
          (λ ne. ((e.looks.looked t).1 ne).world);
      changes = looked_changes c.requires.may.valid (looks_stop e.looks);
    }

pub returns-in-Some : goal.returns-in-Some
returns-in-Some g c =
    let first = g.K.Blocks.view c.args.disk.now in
    let me = c.args.client.now in
    let path = c.args.path.now in
    let e = c.in-Ok.ensures in
    record {
      answer = λ t.
          let same = (e.looks.looked t).0.world in
          refuses (λ ne. dir_taken first.world.geometry (tree_under me first) (free_count first.world) (length first.world.pairs) (need 1 1) (c.requires.may.tree t) path (e.none t)
          (ap (λ w. is_there (at (inode_tree w me.root) path)) (sym same) ∙ there_at me (g.K.Blocks.view c.look_up.new.disk) path c.in-Ok.lookup e.dir (e.found t) c.in-Some._taken c.in-Some.is)) (λ ne. same);
      changes = looked_changes c.requires.may.valid (looks_refuse (λ d. cc) e.looks);
    }

pub add_directory-requires : goal.add_directory-requires
add_directory-requires g c =
    let e = c.in-Ok.ensures in
    record {
      unspent = e.looks.unspent.0;
      valid = λ t. (e.looks.looked t).0.valid;
      dir = e.dir;
      short = e.short;
      vacant = λ t. (c.args.path.now, vacant_so c.requires.may (g.met.K.Blocks.sound c.args.disk.now) e.named e.looks e.found e.none c.in-None.is t);
    }

pub returns-in-Ok-add_directory : goal.returns-in-Ok-add_directory
returns-in-Ok-add_directory g c =
    let e = c.in-Ok.ensures in
    let h = c.in-Ok-add_directory.ensures in
    let vacant = vacant_so c.requires.may (g.met.K.Blocks.sound c.args.disk.now) e.named e.looks e.found e.none c.in-None.is in
    record {
      answer = λ t. answers_on e.looks t (h.answer t c.args.path.now (vacant t));
      changes = changes_on c.requires.may.valid e.looks (h.changes c.args.path.now vacant);
    }

pub returns-in-Err-add_directory : goal.returns-in-Err-add_directory
returns-in-Err-add_directory g c =
    let e = c.in-Ok.ensures in
    let h = c.in-Err-add_directory.ensures in
    let vacant = vacant_so c.requires.may (g.met.K.Blocks.sound c.args.disk.now) e.named e.looks e.found e.none c.in-None.is in
    record {
      answer = λ t. answers_on e.looks t (h.answer t c.args.path.now (vacant t));
      changes = changes_on c.requires.may.valid e.looks (h.changes c.args.path.now vacant);
    }
