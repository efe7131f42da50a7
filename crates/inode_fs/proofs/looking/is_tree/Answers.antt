use Rattle.std.proofs.Common.{refl}
use Rattle.fs_trees.specs.declared.ask.ShellKind.TheVariants.{Inode}
use Rattle.inode_fs.proofs.Common.{root_may, come_under, nothing_yet}
use Rattle.inode_fs.proofs.SeeLaws.{agrees_none, noted_none}
use Rattle.inode_fs.proofs.RootLaws.{tells_tree}
use Rattle.inode_fs.proofs.looking.is_tree.Goals as goal

pub is_right-requires-clause-unspent : goal.is_right-requires-clause-unspent
is_right-requires-clause-unspent g c = c.requires.ready.unspent

pub is_right-requires-clause-valid : goal.is_right-requires-clause-valid
is_right-requires-clause-valid g c = c.requires.valid

pub is_right-requires-clause-may : goal.is_right-requires-clause-may
is_right-requires-clause-may g c = λ t. root_may Inode c.args.client.now (g.K.Blocks.view c.args.disk.now) c.requires.ready (c.requires.valid t) (g.met.K.Blocks.sound c.args.disk.now t c.requires.ready.unspent)

pub is_right-requires-clause-noted : goal.is_right-requires-clause-noted
is_right-requires-clause-noted g c = λ t. noted_none c.args.client.now (g.K.Blocks.view c.args.disk.now) c.clear.new.self c.clear.ensures

pub returns-in-Ok-clause-tells : goal.returns-in-Ok-clause-tells
returns-in-Ok-clause-tells g c = λ t.
    let w = (g.K.Blocks.view c.args.disk.now).world in
    let root = c.args.client.now.root in
    tells_tree w root c.is_right.new.marks (come_under w root) c.in-Ok.right refl (c.in-Ok.ensures.comes t nothing_yet (agrees_none c.clear.new.self c.clear.ensures))

pub returns-in-Ok-clause-noted : goal.returns-in-Ok-clause-noted
returns-in-Ok-clause-noted g c = c.in-Ok.ensures.noted

pub returns-in-Ok-clause-looks : goal.returns-in-Ok-clause-looks
returns-in-Ok-clause-looks g c = c.in-Ok.ensures.looks

pub returns-in-Err-clause-only : goal.returns-in-Err-clause-only
returns-in-Err-clause-only g c = c.in-Err.ensures.only

pub returns-in-Err-clause-looks : goal.returns-in-Err-clause-looks
returns-in-Err-clause-looks g c = c.in-Err.ensures.looks
