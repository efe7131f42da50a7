use Rattle.std.proofs.Common.{sym, ◌∙◌}
use Rattle.fs_trees.specs.declared.refusal.FsRefusal.TheVariants as no
use Rattle.inode_walks.proofs.Common.{looks_but_refuses, tree_under}
use Rattle.inode_walks.proofs.FoundLaws.{a_dir_was, a_file_was, lost_directory, directory_found, file_in_place}
use Rattle.inode_walks.proofs.finding.find_directory.Goals as goal

pub walk-requires : goal.walk-requires
walk-requires g c = record { may = c.requires.may }

pub returns-then-is_directory : goal.returns-then-is_directory
returns-then-is_directory g c =
    let told = g.K.Blocks.told in
    let old = g.K.Blocks.view c.args.disk.now in
    let new = g.K.Blocks.view c.walk.new.disk in
    let me = c.args.client.now in
    let p = c.args.names.now in
    let e = c.in-Ok.ensures in
    record {
      found = λ t. e.found t;
      dir = sym c.is_directory.ensures ∙ c.if-is_directory.true;
      none = λ t. directory_found (tree_under me old) p (e.none t) (a_dir_was me old new p c.in-Ok.found (e.found t) (e.looks.looked t).0.world (sym c.is_directory.ensures ∙ c.if-is_directory.true)).1;
      refused = λ t. tt;
      looks = e.looks;
    }

pub returns-else-is_directory : goal.returns-else-is_directory
returns-else-is_directory g c =
    let told = g.K.Blocks.told in
    let old = g.K.Blocks.view c.args.disk.now in
    let new = g.K.Blocks.view c.walk.new.disk in
    let me = c.args.client.now in
    let p = c.args.names.now in
    let e = c.in-Ok.ensures in
    record {
      found = λ t. tt;
      dir = tt;
      none = λ t. tt;
      refused = λ t ne. file_in_place (tree_under me old) p (e.none t) (a_file_was me old new p c.in-Ok.found (e.found t) (e.looks.looked t).0.world (sym c.is_directory.ensures ∙ c.if-is_directory.false)).1;
      looks = looks_but_refuses told old new c.in-Ok.found no.NotDir (λ d. cc) e.looks;
    }

pub returns-in-Err : goal.returns-in-Err
returns-in-Err g c =
    record {
      found = λ t. tt;
      dir = tt;
      none = λ t. tt;
      refused = λ t ne. lost_directory (tree_under c.args.client.now (g.K.Blocks.view c.args.disk.now)) c.args.names.now c.in-Err.refusal (c.in-Err.ensures.refused t ne);
      looks = c.in-Err.ensures.looks;
    }
