use Rattle.std.proofs.Common.{◌≡◌, ℕ, sym, ◌∙◌, ap}
use Rattle.image_shell.proofs.Common.{AreReady, FitsReads, IsFirm, behind_called, world_of}
use Rattle.image_shell.proofs.BeginLaws.{valid_now}
use Rattle.image_shell.proofs.MountLaws.{mounted_by}
use Rattle.image_shell.proofs.opened.mount_on.Goals as goal

pub mount-requires-clause-valid : goal.mount-requires-clause-valid
mount-requires-clause-valid g c = λ told. rw c.new-blocks.ensures.dev_now (let k = valid_now g.K.Started.start c.args.core.now (g.D.Device.view c.args.dev.now) (c.requires.at told) in record { valid = k.0; fits = rw c.new-blocks.ensures.core_now k.1 })

pub returns : goal.returns
returns g c =
    let d = c.mount.new.disk in
    let b = c.new-blocks.result in
    let f = g.F.Files.view c.args.files.now in
    let l : ℕ × ℕ = (b.core.ghost_name, b.dev.ghost_name) in
    let v = g.D.Device.view b.dev.now in
    let p = c.mount.ensures in
    let ready : AreReady f b.core.now = rw c.new-blocks.ensures.core_now c.requires.ready in
    let here : g.D.Device.told → world_of v.reads ≡ g.K.Started.start = λ told. rw c.new-blocks.ensures.dev_now (c.requires.at told).world in
    let fits : g.D.Device.told → FitsReads b.core.now v.reads = λ told. rw (c.new-blocks.ensures.core_now, c.new-blocks.ensures.dev_now) (c.requires.at told).core.1 in
    let firm : g.D.Device.told → IsFirm v = λ told. rw c.new-blocks.ensures.dev_now (c.requires.at told).core.0 in
    let core_is : c.core-1.given.0 ≡ d.core.now = c.core-1.given.1 (sym c.new-blocks.ensures.core ∙ sym (ap (λ n. n.0) p.runs.counts.lenders)) in
    let dev_is : c.dev-1.given.0 ≡ d.dev.now = c.dev-1.given.1 (sym c.new-blocks.ensures.dev ∙ sym (ap (λ n. n.1) p.runs.counts.lenders)) in
    rw (core_is, dev_is, ← c.new-blocks.ensures.core_now, ← c.new-blocks.ensures.dev_now)
    (mounted_by g.K.Started.start f (g.F.Files.view c.mount.new.self) l (d.core.ghost_name, d.dev.ghost_name) (g.L.Placing.kind b.placement.now) (g.L.Placing.kind d.placement.now) b.core.now d.core.now v (g.D.Device.view d.dev.now)
    g.D.Device.told here c.mount.result ready fits d.ready d.at
    p.finds p.runs p.mounted
    (behind_called g.D.Device.told l (d.core.ghost_name, d.dev.ghost_name) (g.L.Placing.kind b.placement.now) (g.L.Placing.kind d.placement.now) b.core.now d.core.now v (g.D.Device.view d.dev.now) _
    (λ told. g.met.D.Device.sound b.dev.now told) (λ told. g.met.D.Device.sound d.dev.now told) firm p.runs.counts p.runs.crash))
