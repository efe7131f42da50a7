use Rattle.std.proofs.Common.{◌≡◌, true, refl, ◌∙◌, arith}
use Rattle.fs_copy.proofs.Common.{nat_tests}
use Rattle.fs_trees.specs.declared.refusal.FsRefusal.TheVariants as no
use Rattle.fs_copy.proofs.GoingLaws.{change_goes, err_same, lost_goes, none_goes, ok_as}
use Rattle.fs_copy.proofs.ReadLaws.{dir_no_fault}
use Rattle.fs_copy.proofs.entry.copy_dir.Goals as goal

pub returns-then-not-has_dirs-clause-goes : goal.returns-then-not-has_dirs-clause-goes
returns-then-not-has_dirs-clause-goes g c =
    let set = c.requires.set in
    let begun = none_goes set.ready.unspent (λ t. g.met.K.Blocks.sound c.args.disk.now t set.ready.unspent) set.valid in
    lost_goes (λ t. let yes : c.has_dirs.result ≡ true = c.has_dirs.ensures ∙ c.requires.hold t in let no_dirs = c.if-not-has_dirs.true in absurd (grind (arith, nat_tests))) (dir_no_fault no.IsDir refl) begun

pub make_dir-requires-clause-ready : goal.make_dir-requires-clause-ready
make_dir-requires-clause-ready g c = c.requires.set.ready

pub make_dir-requires-clause-valid : goal.make_dir-requires-clause-valid
make_dir-requires-clause-valid g c = c.requires.set.valid

pub make_dir-requires-clause-tree : goal.make_dir-requires-clause-tree
make_dir-requires-clause-tree g c = λ t _. c.requires.set.there t

pub returns-in-Ok-clause-goes : goal.returns-in-Ok-clause-goes
returns-in-Ok-clause-goes g c = ok_as (change_goes c.requires.set (g.met.K.Blocks.sound c.args.disk.now) (g.met.K.Blocks.sound c.make_dir.new.disk) c.in-Ok.ensures.answer c.in-Ok.ensures.changes tt)

pub returns-in-Err-clause-goes : goal.returns-in-Err-clause-goes
returns-in-Err-clause-goes g c = err_same (change_goes c.requires.set (g.met.K.Blocks.sound c.args.disk.now) (g.met.K.Blocks.sound c.make_dir.new.disk) c.in-Err.ensures.answer c.in-Err.ensures.changes tt)
