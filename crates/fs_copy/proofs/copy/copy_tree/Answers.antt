use Rattle.std.proofs.Common.{refl, ◌∙◌, inl, inr}
use Rattle.fs_copy.proofs.CopyLaws.{AfterMake, AtStart, at_start, copy_done, copy_failed, entries_hold, entries_set, look_failed, make_done, make_failed, make_ready, nested_found}
use Rattle.fs_copy.proofs.copy.copy_tree.Given.{Over}
use Rattle.fs_copy.proofs.copy.copy_tree.Goals.{After-nested_dir, In-Ok-make}
use Rattle.fs_copy.proofs.copy.copy_tree.Goals as goal

-- at the start
start : (g : Over) (c : After-nested_dir g) → AtStart g.K.Blocks.told (g.A.Files.view c.args.from.now) (g.B.Files.view c.args.into.now) (g.K.Blocks.view c.args.disk.now)
start g c =
    let old = c.requires in
    at_start old.from_ready old.into_ready old.mounted old.valid old.tree old.apart (g.met.K.Blocks.sound c.args.disk.now)

-- once the empty tree is made
made : (g : Over) (c : In-Ok-make g) → AfterMake g.K.Blocks.told (g.A.Files.view c.args.from.now) (g.B.Files.view c.args.into.now) (g.A.Files.view c.nested_dir.new.from) (g.B.Files.view c.make.new.self)
    (g.K.Blocks.view c.args.disk.now) (g.K.Blocks.view c.make.new.disk)
made g c =
    let old = c.requires in
    let start = at_start old.from_ready old.into_ready old.mounted old.valid old.tree old.apart (g.met.K.Blocks.sound c.args.disk.now) in
    let look = c.in-Ok.ensures in
    let make = c.in-Ok-make.ensures in
    make_done start look.told look.looks (g.met.K.Blocks.sound c.nested_dir.new.disk) (g.met.K.Blocks.sound c.make.new.disk) c.in-None.is look.same make.made make.runs make.mounted

pub nested_dir-requires : goal.nested_dir-requires
nested_dir-requires g c =
    let old = c.requires in
    record { set = record { ready = old.from_ready; mounted = old.mounted; valid = old.valid; there = λ t. old.tree t old.mounted } }

pub returns-in-Err : goal.returns-in-Err
returns-in-Err g c =
    let lost = c.in-Err.ensures in
    let copy = look_failed (start g (goal.at.returns-in-Err g c).After-nested_dir) lost.only lost.looks c.copy_refusal.ensures in
    record { copies = copy.copies; runs = copy.runs; from_same = lost.same; into_mounted = tt; into_same = inl refl }

pub returns-in-Some : goal.returns-in-Some
returns-in-Some g c =
    let look = c.in-Ok.ensures in
    let copy = nested_found (start g (goal.at.returns-in-Some g c).After-nested_dir) look.told look.looks c.in-Some.is in
    record { copies = copy.copies; runs = copy.runs; from_same = look.same; into_mounted = tt; into_same = inl refl }

pub make-requires : goal.make-requires
make-requires g c =
    let look = c.in-Ok.ensures in
    record { ready = make_ready (start g (goal.at.make-requires g c).After-nested_dir) look.told look.looks; valid = λ t. (look.looks.runs.valid t).0 }

pub returns-in-Err-make : goal.returns-in-Err-make
returns-in-Err-make g c =
    let look = c.in-Ok.ensures in
    let lost = c.in-Err-make.ensures in
    let first = start g (goal.at.returns-in-Err-make g c).After-nested_dir in
    let copy = make_failed first look.told look.looks (g.met.K.Blocks.sound c.nested_dir.new.disk) (g.met.K.Blocks.sound c.make.new.disk) c.in-None.is lost.made lost.runs c.copy_refusal-in-Err-make.ensures in
    record { copies = copy.copies; runs = copy.runs; from_same = look.same; into_mounted = tt; into_same = inl lost.mounted }

pub copy_entries-requires : goal.copy_entries-requires
copy_entries-requires g c =
    let after = made g (goal.at.copy_entries-requires g c).In-Ok-make in
    record { set = entries_set after; hold = entries_hold after }

pub returns-in-Ok-copy_entries : goal.returns-in-Ok-copy_entries
returns-in-Ok-copy_entries g c =
    let after = made g (goal.at.returns-in-Ok-copy_entries g c).In-Ok-make in
    let done = c.in-Ok-copy_entries.ensures in
    let copy = copy_done after done.goes done.count in
    let mounted = done.into_same ∙ after.into_mounted in
    record { copies = copy.copies; runs = copy.runs; from_same = done.from_same ∙ after.from_same; into_mounted = mounted; into_same = inr mounted }

pub returns-in-Err-copy_entries : goal.returns-in-Err-copy_entries
returns-in-Err-copy_entries g c =
    let after = made g (goal.at.returns-in-Err-copy_entries g c).In-Ok-make in
    let lost = c.in-Err-copy_entries.ensures in
    let copy = copy_failed after lost.goes c.copy_refusal-in-Err-copy_entries.ensures in
    record { copies = copy.copies; runs = copy.runs; from_same = lost.from_same ∙ after.from_same; into_mounted = tt; into_same = inr (lost.into_same ∙ after.into_mounted) }
