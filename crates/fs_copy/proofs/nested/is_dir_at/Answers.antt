use Rattle.std.proofs.Common.{◌≢◌, sym, ap, rules}
use Rattle.fs_copy.proofs.Common.{is_dir}
use Rattle.fs_trees.specs.declared.refusal.FsRefusal.TheVariants as no
use Rattle.fs_copy.proofs.NestedLaws.{looks_as, looks_dir, looks_err}
use Rattle.fs_copy.proofs.ReadLaws.{dir_no_fault, told_dir, told_file}
use Rattle.fs_copy.proofs.nested.is_dir_at.Goals as goal

pub size-requires : goal.size-requires
size-requires g c =
    let set = c.requires.set in
    record { ready = set.ready; valid = set.valid; tree = λ t _. set.there t }

pub returns-in-Ok : goal.returns-in-Ok
returns-in-Ok g c =
    let size = c.in-Ok.ensures in
    record {
      told = λ t. sym (ap is_dir (told_file c.requires.set c.requires.there size.answer t).1);
      only = λ t. tt;
      looks = looks_as size.looks;
      same = size.same;
    }

pub returns-in-Err-IsDir : goal.returns-in-Err-IsDir
returns-in-Err-IsDir g c =
    let none = c.in-Err-IsDir.ensures in
    let no_fault = dir_no_fault _ c.in-Err-IsDir.field-0-is in
    record {
      told = λ t. sym (told_dir c.requires.set c.requires.there none.answer t no_fault).0;
      only = λ t. tt;
      looks = looks_dir no_fault none.looks;
      same = none.same;
    }

pub returns-in-Err : goal.returns-in-Err
returns-in-Err g c =
    let lost = c.in-Err.ensures in
    let other : c.in-Err.why ≢ no.IsDir = search rules in
    record {
      told = λ t. tt;
      only = λ t ne. other (told_dir c.requires.set c.requires.there lost.answer t ne).1;
      looks = looks_err lost.looks;
      same = lost.same;
    }
