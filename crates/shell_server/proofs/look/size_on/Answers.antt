use Rattle.std.proofs.Common.{cond, sym, ◌∙◌, ap}
use Rattle.shell_server.proofs.Common.{TellsSize}
use Rattle.fs_trees.specs.declared.ask.ShellAsk.TheVariants as ask
use Rattle.shell_server.proofs.LookLaws.{looked_on}
use Rattle.shell_server.proofs.look.size_on.Goals as goal

pub size-requires-clause-valid : goal.size-requires-clause-valid
size-requires-clause-valid g c = λ told. rw c.new-blocks.ensures.dev_now (let k = (c.requires.at told).1 in record { valid = k.kept.valid; fits = rw c.new-blocks.ensures.core_now k.fits })

pub returns : goal.returns
returns g c =
    let b = c.new-blocks.result in
    let e = c.new-blocks.ensures in
    let d = c.size.new.disk in
    let p = c.size.ensures in
    looked_on g.D.Device.view (λ d told. g.met.D.Device.sound d told) g.K.Started.start (g.F.Files.view c.args.files.now) (ask.Cat c.args.path.now) (ap (λ t. cond t (ask.Cat c.args.path.now) ask.Bad) c.known.ensures)
    (b.core.ghost_name, b.dev.ghost_name) (d.core.ghost_name, d.dev.ghost_name) (g.L.Placing.kind b.placement.now) (g.L.Placing.kind d.placement.now) TellsSize c.size.result
    e.core_now e.dev_now (c.core-1.given.1 (sym e.core ∙ sym (ap (λ n. n.0) p.looks.runs.counts.lenders))) (c.dev-1.given.1 (sym e.dev ∙ sym (ap (λ n. n.1) p.looks.runs.counts.lenders))) p.same c.requires.ready c.requires.at d.ready d.at p.answer p.looks
