use Rattle.std.proofs.Common.{◌≡◌, ℕ, sym, refl, ◌∙◌, ap}
use Rattle.shell_server.proofs.Common.{IsFirm, step_on, core_view, behind_called, AreReady, FitsShell}
use Rattle.fs_trees.specs.declared.ask.ShellAsk.TheVariants as ask
use Rattle.shell_server.proofs.FreeLaws.{TellsFree, free_told, free_refused}
use Rattle.shell_server.proofs.LookLaws.{looked_so}
use Rattle.shell_server.proofs.free.free_on.Goals as goal

pub returns : goal.returns
returns g c =
    let d = c.free_blocks.new.disk in
    let b = c.new-blocks.result in
    let f = g.F.Files.view c.args.files.now in
    let l : ℕ × ℕ = (b.core.ghost_name, b.dev.ghost_name) in
    let v = g.D.Device.view b.dev.now in
    let kind = g.L.Placing.kind b.placement.now in
    let p = c.free_blocks.ensures in
    let ready : AreReady f b.core.now = rw c.new-blocks.ensures.core_now c.requires.ready in
    let keeps : g.D.Device.told → FitsShell g.K.Started.start f b.core.now v.reads = λ told. rw (c.new-blocks.ensures.core_now, c.new-blocks.ensures.dev_now) (c.requires.at told).1 in
    let firm : g.D.Device.told → IsFirm v = λ told. rw c.new-blocks.ensures.dev_now (c.requires.at told).0 in
    let core_is : c.core-1.given.0 ≡ d.core.now = c.core-1.given.1 (sym c.new-blocks.ensures.core ∙ sym (ap (λ n. n.0) p.counts.lenders)) in
    let dev_is : c.dev-1.given.0 ≡ d.dev.now = c.dev-1.given.1 (sym c.new-blocks.ensures.dev ∙ sym (ap (λ n. n.1) p.counts.lenders)) in
    rw (core_is, dev_is, ← c.new-blocks.ensures.core_now, ← c.new-blocks.ensures.dev_now)
    (looked_so g.K.Started.start f ask.Df ask.Df refl l (d.core.ghost_name, d.dev.ghost_name) kind (g.L.Placing.kind d.placement.now) b.core.now d.core.now v (g.D.Device.view d.dev.now)
    g.D.Device.told TellsFree c.free_blocks.result ready keeps d.ready d.at
    (λ told. free_told f (core_view l kind b.core.now v) c.free_blocks.result (p.value told)) (λ told. free_refused (step_on f (core_view l kind b.core.now v) ask.Df).answer c.free_blocks.result (p.only told))
    p.looks p.crash (λ told. p.valid told (record { valid = (keeps told).kept.valid; fits = (keeps told).fits })) p.stays p.counts p.unspent p.faultless p.spent p.cause
    (behind_called g.D.Device.told l (d.core.ghost_name, d.dev.ghost_name) (g.L.Placing.kind b.placement.now) (g.L.Placing.kind d.placement.now) b.core.now d.core.now v (g.D.Device.view d.dev.now) _
    (λ told. g.met.D.Device.sound b.dev.now told) (λ told. g.met.D.Device.sound d.dev.now told) firm p.counts p.crash))
