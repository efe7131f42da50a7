use Rattle.std.proofs.Common.{ℕ, Ok, Err}
use Rattle.fs_trees.specs.declared.refusal.FsRefusal.TheVariants as no
use Rattle.fs_client.proofs.Common.{OnlyLooks}
use Rattle.fs_client.proofs.FreeLaws.{free_looks}
use Rattle.fs_client.proofs.LookLaws.{looks_as, looks_refused, looks_but_refuses}
use Rattle.fs_client.proofs.room.check_free.Goals as goal

pub returns-in-Err-clause-looks : goal.returns-in-Err-clause-looks
returns-in-Err-clause-looks g c =
    let told = g.K.Blocks.told in
    let old = g.K.Blocks.view c.args.disk.now in
    let new = g.K.Blocks.view c.free_blocks.new.disk in
    let e = c.in-Err.ensures in
    let r = c.in-Err.refusal in
    looks_refused told old new r (free_looks told old new (Err r) c.requires.valid e.step e.only e.crash e.stays e.counts e.unspent e.faultless e.spent e.cause)

pub returns-then-free-wanted-clause-looks : goal.returns-then-free-wanted-clause-looks
returns-then-free-wanted-clause-looks g c =
    let told = g.K.Blocks.told in
    let old = g.K.Blocks.view c.args.disk.now in
    let new = g.K.Blocks.view c.free_blocks.new.disk in
    let e = c.in-Ok.ensures in
    let n = c.in-Ok.free in
    let looks : OnlyLooks {X = ℕ} told old new (Ok n) = free_looks told old new (Ok n) c.requires.valid e.step e.only e.crash e.stays e.counts e.unspent e.faultless e.spent e.cause in
    looks_but_refuses told old new n (no.Full n c.args.wanted) (λ d. cc) looks

pub returns-clause-looks : goal.returns-clause-looks
returns-clause-looks g c =
    let told = g.K.Blocks.told in
    let old = g.K.Blocks.view c.args.disk.now in
    let new = g.K.Blocks.view c.free_blocks.new.disk in
    let e = c.in-Ok.ensures in
    let n = c.in-Ok.free in
    looks_as told old new n tt (free_looks told old new (Ok n) c.requires.valid e.step e.only e.crash e.stays e.counts e.unspent e.faultless e.spent e.cause)
