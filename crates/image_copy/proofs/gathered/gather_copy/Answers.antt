use Rattle.std.proofs.Common.{◌≡◌, ℕ, sym}
use Rattle.image_shell.proofs.Common.{There}
use Rattle.image_copy.proofs.GatheredLaws.{gathered_as}
use Rattle.image_copy.proofs.gathered.gather_copy.Goals as goal

pub copy_between-requires-clause-valid : goal.copy_between-requires-clause-valid
copy_between-requires-clause-valid g c told =
    rw (c.new-blocks.ensures.room_now, c.new-blocks.ensures.dev_now, c.new-blocks.ensures.core_now) (record { valid = c.requires.start.valid told; fits = c.requires.start.fits told })

pub returns-clause-gathered : goal.returns-clause-gathered
returns-clause-gathered g c =
    let d = c.copy_between.new.disk in
    let b = c.new-blocks.result in
    let e = c.new-blocks.ensures in
    let l = c.leave.ensures in
    let on = c.args.on in
    let lenders : ℕ × ℕ = (b.core.ghost_name, b.dev.ghost_name) in
    let lenders_now : ℕ × ℕ = (d.core.ghost_name, d.dev.ghost_name) in
    let begun : There g.row.D.Denot = record { core = b.core.now; room = b.room.now; dev = b.dev.now } in
    let old : There g.row.D.Denot = record { core = on.core.now; room = on.room.now; dev = on.dev.now } in
    let ended : There g.row.D.Denot = record { core = d.core.now; room = d.room.now; dev = d.dev.now } in
    let new : There g.row.D.Denot = record { core = c.leave.result.core.now; room = c.leave.result.room.now; dev = c.leave.result.dev.now } in
    let was : begun ≡ old = λ i. record { core = e.core_now i; room = e.room_now i; dev = e.dev_now i } in
    let is : ended ≡ new = λ i. record { core = sym l.core i; room = sym l.room i; dev = sym l.dev i } in
    gathered_as g.D.Device.told g.D.Device.view g.K.Lending.start (g.A.Files.view c.args.from.now) (g.B.Files.view c.args.into.now) lenders lenders_now (g.L.Placing.kind b.placement.now) (g.L.Placing.kind d.placement.now) b.asked.items d.asked.items
    begun old ended new c.copy_between.result was is e.asked c.copy_between.ensures d.here d.ready d.at
