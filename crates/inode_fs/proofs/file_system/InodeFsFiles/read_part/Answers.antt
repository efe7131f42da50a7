use Rattle.std.proofs.Common.{sym, subst}
use Rattle.fs_trees.specs.declared.ask.ShellAsk.TheVariants as ask
use Rattle.fs_trees.specs.declared.ask.ShellKind.TheVariants.{Inode}
use Rattle.fs_port.specs.Files.{Answers, TellsPart}
use Rattle.fs_trees.specs.declared.refusal.FsRefusal.TheVariants as no
use Rattle.inode_fs.proofs.Common.{looks_at, unasked_looks, other_fault}
use Rattle.inode_fs.proofs.file_system.InodeFsFiles.read_part.Goals as goal

pub returns-then-self-clause-answer : goal.returns-then-self-clause-answer
returns-then-self-clause-answer g c = λ t.
    let old = g.K.Blocks.view c.args.disk.now in
    let new = g.K.Blocks.view c.read_part.new.disk in
    let me = c.args.self.now.client in
    subst (λ m. Answers {X = Unit {0}} (record { kind = Inode; root = me.root; cap = me.cap; session = me.session; mounted = m }) old new (ask.Cat c.args.path.now) c.read_part.result (λ x. TellsPart c.args.start c.read_part.new.into))
    (sym c.if-self.true) (c.read_part.ensures.answer t)

pub returns-then-self-clause-looks : goal.returns-then-self-clause-looks
returns-then-self-clause-looks g c = looks_at g.K.Blocks.told (g.K.Blocks.view c.args.disk.now) (g.K.Blocks.view c.read_part.new.disk) c.read_part.result c.read_part.ensures.looks

pub returns-else-self-clause-looks : goal.returns-else-self-clause-looks
returns-else-self-clause-looks g c = unasked_looks g.K.Blocks.told (g.K.Blocks.view c.args.disk.now) no.NotThisFs other_fault c.requires.ready.unspent (λ t. g.met.K.Blocks.sound c.args.disk.now t c.requires.ready.unspent) c.requires.valid
