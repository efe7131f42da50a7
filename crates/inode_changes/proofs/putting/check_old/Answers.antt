use Rattle.std.proofs.Common.{refl, sym, ◌∙◌}
use Rattle.inode_changes.proofs.Common.{at, no_look, inode_of, tree_under}
use Rattle.inode_changes.proofs.OutcomeLaws.{looks_still, looks_stop, looks_refuse}
use Rattle.inode_changes.proofs.PlaceLaws.{none_at, may_read_old, has_old}
use Rattle.inode_changes.proofs.PutLaws.{nothing_no_dir, kind_at}
use Rattle.inode_changes.proofs.putting.check_old.Goals as goal

pub returns-in-None : goal.returns-in-None
returns-in-None g c =
    let old = g.K.Blocks.view c.args.disk.now in
    let me = c.args.client.now in
    record {
      no_dir = λ t path i. nothing_no_dir (at (tree_under me old) path) (none_at me old path c.args.lookup.now c.requires.dir i c.in-None.is);
      only = λ t. tt;
      is_dir = λ t. tt;
      looks = no_look _ old c.requires.unspent (λ t. g.met.K.Blocks.sound c.args.disk.now t c.requires.unspent) c.requires.valid;
    }

pub read_inode-requires : goal.read_inode-requires
read_inode-requires g c =
    let old = g.K.Blocks.view c.args.disk.now in
    record {
      unspent = c.requires.unspent;
      valid = c.requires.valid;
      may = λ t. let f = c.requires.found t in may_read_old c.args.client.now old f.0 c.args.lookup.now c.requires.dir f.1 c.in-Some.block c.in-Some.is (c.requires.valid t);
      inode = λ t. let f = c.requires.found t in has_old c.args.client.now old f.0 c.args.lookup.now c.requires.dir f.1 c.in-Some.block c.in-Some.is;
    }

pub returns-in-Err : goal.returns-in-Err
returns-in-Err g c =
    let e = c.in-Err.ensures in
    record {
      no_dir = λ t. tt;
      only = λ t ne. absurd (ne (e.only t));
      is_dir = λ t ne. absurd (ne (e.only t));
      looks = looks_stop e.looks;
    }

pub returns-then-is_directory : goal.returns-then-is_directory
returns-then-is_directory g c =
    let old = g.K.Blocks.view c.args.disk.now in
    let f = c.in-Ok.ensures in
    record {
      no_dir = λ t. tt;
      only = λ t ne. refl;
      is_dir = λ t ne path i. kind_at c.args.client.now old path c.args.lookup.now c.requires.dir i c.in-Some.block c.in-Some.is (inode_of c.in-Ok.old.inode) (f.says t) ∙ (sym c.is_directory.ensures ∙ c.if-is_directory.true);
      looks = looks_refuse (λ d. cc) f.looks;
    }

pub returns : goal.returns
returns g c =
    let old = g.K.Blocks.view c.args.disk.now in
    let f = c.in-Ok.ensures in
    record {
      no_dir = λ t path i. kind_at c.args.client.now old path c.args.lookup.now c.requires.dir i c.in-Some.block c.in-Some.is (inode_of c.in-Ok.old.inode) (f.says t) ∙ (sym c.is_directory.ensures ∙ c.if-is_directory.false);
      only = λ t. tt;
      is_dir = λ t. tt;
      looks = looks_still tt f.looks;
    }
