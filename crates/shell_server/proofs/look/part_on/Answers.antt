use Rattle.std.proofs.Common.{◌≡◌, cond, sym, ◌∙◌, ap}
use Rattle.shell_server.proofs.Common.{TellsPart}
use Rattle.fs_trees.specs.declared.ask.ShellAsk.TheVariants as ask
use Rattle.shell_server.proofs.LookLaws.{looked_on}
use Rattle.shell_server.proofs.look.part_on.Goals as goal

pub read_on-requires-clause-valid : goal.read_on-requires-clause-valid
read_on-requires-clause-valid g c = λ told. rw c.new-blocks.ensures.dev_now (let k = (c.requires.at told).1 in record { valid = k.kept.valid; fits = rw c.new-blocks.ensures.core_now k.fits })

pub read_on-requires-clause-place : goal.read_on-requires-clause-place
read_on-requires-clause-place g c = λ told. rw (c.new-blocks.ensures.core_now, c.new-blocks.ensures.dev_now) (c.requires.place told)

pub returns-clause-looked : goal.returns-clause-looked
returns-clause-looked g c =
    let b = c.new-blocks.result in
    let e = c.new-blocks.ensures in
    let d = c.read_on.new.disk in
    let p = c.read_on.ensures in
    looked_on g.D.Device.view (λ d told. g.met.D.Device.sound d told) g.K.Started.start (g.F.Files.view c.args.files.now) (ask.Cat c.args.path.now) (ap (λ t. cond t (ask.Cat c.args.path.now) ask.Bad) c.known.ensures)
    (b.core.ghost_name, b.dev.ghost_name) (d.core.ghost_name, d.dev.ghost_name) (g.L.Placing.kind b.placement.now) (g.L.Placing.kind d.placement.now) (λ x. TellsPart c.args.start c.read_on.new.into) c.read_on.result
    e.core_now e.dev_now (c.core-1.given.1 (sym e.core ∙ sym (ap (λ n. n.0) p.looks.runs.counts.lenders))) (c.dev-1.given.1 (sym e.dev ∙ sym (ap (λ n. n.1) p.looks.runs.counts.lenders))) p.same c.requires.ready c.requires.at d.ready d.at p.answer p.looks

pub returns-clause-place : goal.returns-clause-place
returns-clause-place g c =
    let d = c.read_on.new.disk in
    let p = c.read_on.ensures in
    let core_is : c.core-1.given.0 ≡ d.core.now = c.core-1.given.1 (sym c.new-blocks.ensures.core ∙ sym (ap (λ n. n.0) p.looks.runs.counts.lenders)) in
    let dev_is : c.dev-1.given.0 ≡ d.dev.now = c.dev-1.given.1 (sym c.new-blocks.ensures.dev ∙ sym (ap (λ n. n.1) p.looks.runs.counts.lenders)) in
    rw (core_is, dev_is) p.place
