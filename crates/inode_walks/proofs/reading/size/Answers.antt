use Rattle.std.proofs.Common.{sym, subst}
use Rattle.inode_walks.proofs.Common.{at, bytes_in, bytes, TellsSize, looks_as, looks_refused, tree_under}
use Rattle.inode_walks.proofs.FileLaws.{found_long}
use Rattle.inode_walks.proofs.TellLaws.{cat_answers, cat_refuses, size_told}
use Rattle.inode_walks.proofs.reading.size.Goals as goal

pub find_file-requires : goal.find_file-requires
find_file-requires g c = record { may = c.requires.may }

pub returns-in-Ok : goal.returns-in-Ok
returns-in-Ok g c =
    let told = g.K.Blocks.told in
    let old = g.K.Blocks.view c.args.disk.now in
    let new = g.K.Blocks.view c.find_file.new.disk in
    let me = c.args.client.now in
    let p = c.args.path.now in
    let e = c.in-Ok.ensures in
    record {
      answer = λ t.
          let seen = (e.looks.looked t).0 in
          let i = e.found t in
          cat_answers me old new p (c.requires.may.tree t) seen.world TellsSize c.amount.result (e.none t)
          (subst (λ n. TellsSize n (bytes (bytes_in (at (tree_under me old) p)))) (sym c.amount.ensures)
          (size_told me old new p c.in-Ok.file i seen.world e.file seen.valid (found_long me new i.more c.in-Ok.file i.stands seen.valid)));
      looks = looks_as told old new c.in-Ok.file c.amount.result e.looks;
    }

pub returns-in-Err : goal.returns-in-Err
returns-in-Err g c =
    let told = g.K.Blocks.told in
    let old = g.K.Blocks.view c.args.disk.now in
    let new = g.K.Blocks.view c.find_file.new.disk in
    let e = c.in-Err.ensures in
    record {
      answer = λ t. cat_refuses c.args.client.now old new c.args.path.now (c.requires.may.tree t) TellsSize c.in-Err.refusal (e.refused t) (λ ne. ((e.looks.looked t).1 ne).world);
      looks = looks_refused told old new c.in-Err.refusal e.looks;
    }
