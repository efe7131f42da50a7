use Rattle.std.proofs.Common.{refl, ◌∙◌}
use Rattle.fs_copy.proofs.EntryLaws.{after_size, begun_lost, file_done, file_lost, file_now, first_now, size_now, size_so}
use Rattle.fs_copy.proofs.GoingLaws.{source_of}
use Rattle.fs_copy.proofs.entry.copy_begun.Goals as goal

pub size_of-requires : goal.size_of-requires
size_of-requires g c =
    record { set = source_of c.requires.set; file = c.requires.file; first = c.requires.first }

pub returns-in-Err : goal.returns-in-Err
returns-in-Err g c =
    let lost = c.in-Err.ensures in
    record { goes = begun_lost c.args.path.now c.requires.set lost.only lost.looks; told = λ t. tt; from_same = lost.same; into_same = refl }

pub copy_file-requires : goal.copy_file-requires
copy_file-requires g c =
    let size = after_size {path = c.args.path.now} c.requires.set (g.met.K.Blocks.sound c.args.disk.now) c.requires.file c.in-Ok.ensures.same c.in-Ok.ensures.told c.in-Ok.ensures.looks in
    record { set = size.look.set; file = file_now size; first = first_now size c.requires.first; sized = size_now size }

pub returns-in-Ok-copy_file : goal.returns-in-Ok-copy_file
returns-in-Ok-copy_file g c =
    let size = after_size {path = c.args.path.now} c.requires.set (g.met.K.Blocks.sound c.args.disk.now) c.requires.file c.in-Ok.ensures.same c.in-Ok.ensures.told c.in-Ok.ensures.looks in
    let done = c.in-Ok-copy_file.ensures in
    record { goes = file_done size done.goes; told = size_so size; from_same = done.from_same ∙ c.in-Ok.ensures.same; into_same = done.into_same }

pub returns-in-Err-copy_file : goal.returns-in-Err-copy_file
returns-in-Err-copy_file g c =
    let size = after_size {path = c.args.path.now} c.requires.set (g.met.K.Blocks.sound c.args.disk.now) c.requires.file c.in-Ok.ensures.same c.in-Ok.ensures.told c.in-Ok.ensures.looks in
    let lost = c.in-Err-copy_file.ensures in
    record { goes = file_lost size lost.goes; told = λ t. tt; from_same = lost.from_same ∙ c.in-Ok.ensures.same; into_same = lost.into_same }
