use Rattle.std.proofs.Common.{subst}
use Rattle.inode_fs.proofs.Common.{TellsTree}
use Rattle.inode_fs.proofs.MountLaws.{may_mid, mounted, none_there, look_lost}
use Rattle.inode_fs.proofs.mounting.mount.Goals as goal

pub is_tree-requires : goal.is_tree-requires
is_tree-requires g c = record { ready = c.requires.ready; valid = c.requires.valid }

pub tidy-requires : goal.tidy-requires
tidy-requires g c κs within =
    let read = c.in-Ok-true.ensures in
    (within, may_mid c.args.client.now c.is_tree.new.marks c.requires.ready read.looks read.tells c.in-Ok-true.field-0-test read.noted)

pub returns-in-Ok-true : goal.returns-in-Ok-true
returns-in-Ok-true g c =
    let read = c.in-Ok-true.ensures in
    let tidied = c.tidy.ensures in
    let all = mounted c.args.client.now c.is_tree.new.marks c.requires.ready read.looks read.tells c.in-Ok-true.field-0-test c.requires.valid (g.met.K.Blocks.sound c.args.disk.now) tidied.trims tidied.clean in
    record { finds = all.finds; runs = all.runs }

pub returns-in-Ok-false : goal.returns-in-Ok-false
returns-in-Ok-false g c =
    let me = c.args.client.now in
    let read = c.in-Ok-false.ensures in
    let none = λ (t : g.K.Blocks.told). subst (TellsTree (g.K.Blocks.view c.args.disk.now).world me.root c.is_tree.new.marks) c.in-Ok-false.field-0-test (read.tells t) in
    let all = none_there me c.requires.valid read.looks none in
    record { finds = all.finds; runs = all.runs }

pub returns-in-Err : goal.returns-in-Err
returns-in-Err g c =
    let all = look_lost c.args.client.now c.requires.valid c.in-Err.ensures.looks c.in-Err.ensures.only in
    record { finds = all.finds; runs = all.runs }
