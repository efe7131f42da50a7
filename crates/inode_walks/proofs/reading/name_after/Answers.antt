use Rattle.std.proofs.Common.{sym, ◌∙◌, ap, subst, Option, Ok, Err}
use Rattle.inode_walks.proofs.Common.{Name, inode_of, next_said, at, names_in, listed, Answers, TellsNext, looks_as, looks_refused, tree_under, mounted_by}
use Rattle.fs_trees.specs.declared.ask.ShellAsk.TheVariants as ask
use Rattle.inode_walks.proofs.TellLaws.{ls_answers, ls_refuses, next_told}
use Rattle.inode_walks.proofs.reading.name_after.Goals as goal

pub find_directory-requires : goal.find_directory-requires
find_directory-requires g c = record { may = c.requires.may }

pub returns-in-Ok : goal.returns-in-Ok
returns-in-Ok g c =
    let told = g.K.Blocks.told in
    let old = g.K.Blocks.view c.args.disk.now in
    let new = g.K.Blocks.view c.find_directory.new.disk in
    let me = c.args.client.now in
    let p = c.as_slice.result.now in
    let v = c.as_slice.ensures.value in
    let e = c.in-Ok.ensures in
    record {
      answer = λ t.
          let same = (e.looks.looked t).0.world in
          subst (λ q. Answers (mounted_by me) old new (ask.Ls q) (Ok c.name_after.result) (TellsNext c.args.after.now)) v
          (ls_answers me old new p (c.requires.may.tree t) same (TellsNext c.args.after.now) c.name_after.result (e.none t)
          (subst (λ n. TellsNext c.args.after.now n (listed (names_in (at (tree_under me old) p)))) (sym (c.name_after.ensures ∙ ap (λ a. next_said a (inode_of c.in-Ok.found.inode)) c.as_slice-in-Ok.ensures.value))
          (next_told me old new p c.in-Ok.found (e.found t) same c.args.after.now e.dir)));
      looks = looks_as told old new c.in-Ok.found c.name_after.result e.looks;
    }

pub returns-in-Err : goal.returns-in-Err
returns-in-Err g c =
    let told = g.K.Blocks.told in
    let old = g.K.Blocks.view c.args.disk.now in
    let new = g.K.Blocks.view c.find_directory.new.disk in
    let e = c.in-Err.ensures in
    record {
      answer = λ t. subst (λ q. Answers {X = Option Name} (mounted_by c.args.client.now) old new (ask.Ls q) (Err c.in-Err.refusal) (TellsNext c.args.after.now)) c.as_slice.ensures.value
          (ls_refuses c.args.client.now old new c.as_slice.result.now (c.requires.may.tree t) (TellsNext c.args.after.now) c.in-Err.refusal (e.refused t) (λ ne. ((e.looks.looked t).1 ne).world));
      looks = looks_refused told old new c.in-Err.refusal e.looks;
    }
