use Rattle.std.proofs.Common.{◌≢◌, refl, ◌∙◌, rules}
use Rattle.fs_trees.specs.declared.refusal.FsRefusal.TheVariants as no
use Rattle.fs_copy.proofs.EntryLaws.{after_first, after_refusal, dir_goes, dir_told, first_file, first_goes, first_lost, first_piece, first_told}
use Rattle.fs_copy.proofs.GoingLaws.{target_of}
use Rattle.fs_copy.proofs.entry.copy_entry.Goals as goal

pub read_part-requires : goal.read_part-requires
read_part-requires g c =
    let set = c.requires.set in
    record { ready = set.from_ready; valid = set.valid; tree = λ t _. set.from_there t }

pub copy_begun-requires : goal.copy_begun-requires
copy_begun-requires g c =
    let first = after_first c.requires.set (g.met.K.Blocks.sound c.args.disk.now) c.requires.there c.in-Ok.ensures.same c.in-Ok.ensures.answer c.in-Ok.ensures.looks in
    record { set = first.look.set; file = first_file first; first = first_piece first }

pub returns-in-Ok : goal.returns-in-Ok
returns-in-Ok g c =
    let first = after_first c.requires.set (g.met.K.Blocks.sound c.args.disk.now) c.requires.there c.in-Ok.ensures.same c.in-Ok.ensures.answer c.in-Ok.ensures.looks in
    let begun = c.copy_begun.ensures in
    record { goes = first_goes first begun.goes; told = first_told first c.copy_begun.result begun.told; from_same = begun.from_same ∙ c.in-Ok.ensures.same; into_same = begun.into_same }

pub copy_dir-requires : goal.copy_dir-requires
copy_dir-requires g c =
    let none = c.in-Err-IsDir.ensures in
    let dir = after_refusal c.requires.set c.requires.there none.answer (g.met.K.Blocks.sound c.args.disk.now) none.same c.in-Err-IsDir.field-0-is none.looks in
    record { set = target_of dir.look.set; hold = λ t. c.requires.hold t (dir.dir t) }

pub returns-in-Err-IsDir : goal.returns-in-Err-IsDir
returns-in-Err-IsDir g c =
    let none = c.in-Err-IsDir.ensures in
    let dir = after_refusal c.requires.set c.requires.there none.answer (g.met.K.Blocks.sound c.args.disk.now) none.same c.in-Err-IsDir.field-0-is none.looks in
    let made = c.copy_dir.ensures in
    record { goes = dir_goes dir made.goes; told = dir_told dir c.copy_dir.result made.told; from_same = none.same; into_same = made.same }

pub returns-in-Err : goal.returns-in-Err
returns-in-Err g c =
    let other : c.in-Err.why ≢ no.IsDir = search rules in
    let lost = c.in-Err.ensures in
    record { goes = first_lost c.requires.set c.requires.there lost.answer other lost.looks; told = λ t. tt; from_same = lost.same; into_same = refl }
