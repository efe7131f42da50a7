use Rattle.std.proofs.Common.{sym, subst}
use Rattle.fs_trees.specs.declared.ask.ShellAsk.TheVariants as ask
use Rattle.fs_trees.specs.declared.ask.ShellKind.TheVariants.{Chain}
use Rattle.fs_trees.specs.declared.refusal.FsRefusal.TheVariants as no
use Rattle.fs_walks.specs.Nexts.{TellsNames}
use Rattle.chain_fs.proofs.Common.{Answers, looks_at, unasked_looks, other_fault}
use Rattle.chain_fs.proofs.file_system.ChainFsWalks.names_after.Goals as goal

pub returns-then-self-clause-answer : goal.returns-then-self-clause-answer
returns-then-self-clause-answer g c = λ t.
    let old = g.K.Blocks.view c.args.disk.now in
    let new = g.K.Blocks.view c.names_after.new.disk in
    let me = c.args.self.now.client in
    subst (λ m. Answers {X = Unit {0}} (record { kind = Chain; root = me.root; cap = me.cap; session = me.session; mounted = m }) old new (ask.Ls c.args.path.now) c.names_after.result (λ x. TellsNames c.args.after.now c.names_after.new.into.items))
    (sym c.if-self.true) (c.names_after.ensures.answer t)

pub returns-then-self-clause-looks : goal.returns-then-self-clause-looks
returns-then-self-clause-looks g c = looks_at g.K.Blocks.told (g.K.Blocks.view c.args.disk.now) (g.K.Blocks.view c.names_after.new.disk) c.names_after.result c.names_after.ensures.looks

pub returns-else-self-clause-looks : goal.returns-else-self-clause-looks
returns-else-self-clause-looks g c = unasked_looks g.K.Blocks.told (g.K.Blocks.view c.args.disk.now) no.NotThisFs other_fault c.requires.ready.unspent (λ t. g.met.K.Blocks.sound c.args.disk.now t c.requires.ready.unspent) c.requires.valid
