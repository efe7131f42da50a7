use Rattle.std.proofs.Common.{sym, subst, Option, Some, Ok, Err}
use Rattle.fs_trees.specs.declared.ask.ShellAsk.TheVariants as ask
use Rattle.fs_trees.specs.declared.ask.ShellKind.TheVariants.{Chain}
use Rattle.fs_trees.specs.declared.refusal.FsRefusal.TheVariants as no
use Rattle.fs_walks.specs.declared.place.Place.{Place}
use Rattle.fs_client.proofs.LookLaws.{looks_as}
use Rattle.chain_fs.proofs.Common.{Answers, TellsPart, looks_at, looks_refused, unasked_looks, other_fault}
use Rattle.chain_fs.proofs.file_system.ChainFsWalks.read_on.Goals as goal

pub returns-in-Ok-clause-answer : goal.returns-in-Ok-clause-answer
returns-in-Ok-clause-answer g c = λ t.
    let old = g.K.Blocks.view c.args.disk.now in
    let new = g.K.Blocks.view c.read_on.new.disk in
    let me = c.args.self.now.client in
    let into = c.read_on.new.into in
    subst (λ m. Answers {X = Option Place} (record { kind = Chain; root = me.root; cap = me.cap; session = me.session; mounted = m }) old new (ask.Cat c.args.path.now) (Ok (Some c.in-Ok.next)) (λ x. TellsPart c.args.start into))
    (sym c.if-self.true) (let told = c.in-Ok.ensures.answer t in record { ok = told.ok; err = tt })

pub returns-in-Ok-clause-looks : goal.returns-in-Ok-clause-looks
returns-in-Ok-clause-looks g c =
    let old = g.K.Blocks.view c.args.disk.now in
    let new = g.K.Blocks.view c.read_on.new.disk in
    looks_at g.K.Blocks.told old new (Ok (Some c.in-Ok.next)) (looks_as g.K.Blocks.told old new c.in-Ok.next (Some c.in-Ok.next) c.in-Ok.ensures.looks)

pub returns-in-Err-clause-answer : goal.returns-in-Err-clause-answer
returns-in-Err-clause-answer g c = λ t.
    let old = g.K.Blocks.view c.args.disk.now in
    let new = g.K.Blocks.view c.read_on.new.disk in
    let me = c.args.self.now.client in
    let into = c.read_on.new.into in
    subst (λ m. Answers {X = Option Place} (record { kind = Chain; root = me.root; cap = me.cap; session = me.session; mounted = m }) old new (ask.Cat c.args.path.now) (Err c.in-Err.refusal) (λ x. TellsPart c.args.start into))
    (sym c.if-self.true) (let told = c.in-Err.ensures.answer t in record { ok = tt; err = told.err })

pub returns-in-Err-clause-looks : goal.returns-in-Err-clause-looks
returns-in-Err-clause-looks g c =
    let old = g.K.Blocks.view c.args.disk.now in
    let new = g.K.Blocks.view c.read_on.new.disk in
    looks_at {X = Option Place} g.K.Blocks.told old new (Err c.in-Err.refusal) (looks_refused g.K.Blocks.told old new c.in-Err.refusal c.in-Err.ensures.looks)

pub returns-else-self-clause-looks : goal.returns-else-self-clause-looks
returns-else-self-clause-looks g c = unasked_looks g.K.Blocks.told (g.K.Blocks.view c.args.disk.now) no.NotThisFs other_fault c.requires.ready.unspent (λ t. g.met.K.Blocks.sound c.args.disk.now t c.requires.ready.unspent) c.requires.valid
