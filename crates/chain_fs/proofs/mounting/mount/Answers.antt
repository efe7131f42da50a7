use Rattle.std.proofs.Common.{sym, ◌∙◌}
use Rattle.chain_fs.proofs.MountLaws.{may_mid, mounted, none_there, look_lost}
use Rattle.chain_fs.proofs.mounting.mount.Goals as goal

pub is_tree-requires : goal.is_tree-requires
is_tree-requires g c = record { ready = c.requires.ready; valid = c.requires.valid }

pub tidy-requires : goal.tidy-requires
tidy-requires g c κs within =
    let told = g.K.Blocks.told in
    let old = g.K.Blocks.view c.args.disk.now in
    let mid = g.K.Blocks.view c.is_tree.new.disk in
    let looks = c.in-Ok-true.ensures.looks in
    let sound = λ (t : told). g.met.K.Blocks.sound c.is_tree.new.disk t looks.unspent.0 in
    let there = λ (t : told). sym (c.in-Ok-true.ensures.tells t) ∙ c.in-Ok-true.field-0-test in
    (within, may_mid told c.args.client.now old mid c.in-Ok-true.field-0 c.requires.ready sound there looks)

pub returns-in-Ok-true : goal.returns-in-Ok-true
returns-in-Ok-true g c =
    let told = g.K.Blocks.told in
    let old = g.K.Blocks.view c.args.disk.now in
    let mid = g.K.Blocks.view c.is_tree.new.disk in
    let looks = c.in-Ok-true.ensures.looks in
    let sound = λ (t : told). g.met.K.Blocks.sound c.is_tree.new.disk t looks.unspent.0 in
    let there = λ (t : told). sym (c.in-Ok-true.ensures.tells t) ∙ c.in-Ok-true.field-0-test in
    let all = mounted told c.args.client.now old mid c.in-Ok-true.field-0 c.requires.ready sound there looks c.requires.valid c.tidy.ensures.trims c.tidy.ensures.clean in
    record { finds = all.finds; runs = all.runs }

pub returns-in-Ok-false : goal.returns-in-Ok-false
returns-in-Ok-false g c =
    let read = c.in-Ok-false.ensures in
    let all = none_there c.args.client.now c.requires.valid read.looks (λ t. sym (read.tells t) ∙ c.in-Ok-false.field-0-test) in
    record { finds = all.finds; runs = all.runs }

pub returns-in-Err : goal.returns-in-Err
returns-in-Err g c =
    let all = look_lost c.args.client.now c.requires.valid c.in-Err.ensures.looks c.in-Err.ensures.only in
    record { finds = all.finds; runs = all.runs }
