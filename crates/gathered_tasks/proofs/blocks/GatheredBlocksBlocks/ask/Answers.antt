use Rattle.gathered_tasks.proofs.Common.{There}
use Rattle.gathered_tasks.proofs.AskedLaws.{asked_counts, asked_leaves, asked_stays}
use Rattle.gathered_tasks.proofs.blocks.GatheredBlocksBlocks.ask.Goals.{After-self-1}
use Rattle.gathered_tasks.proofs.blocks.GatheredBlocksBlocks.ask.Goals as goal

-- what there was, and what there is
module _ (g : _) (c : After-self-1 g) where
  abbrev old : There g.row.D.Denot
  old = record { core = c.args.self.now.core.now; room = c.args.self.now.room.now; dev = c.args.self.now.dev.now }

  abbrev new : There g.row.D.Denot
  new = record { core = c.carry_out.new.core; room = c.carry_out.new.room; dev = c.carry_out.new.dev }

pub returns-clause-crash : goal.returns-clause-crash
returns-clause-crash g c told =
    let d = c.args.self.now in
    let e = c.carry_out.ensures in
    rw c.with-self.ensures (asked_leaves g.D.Device.view (d.core.ghost_name, d.dev.ghost_name) (g.L.Placing.kind d.placement.now) g.K.Lending.start (old g c) (new g c) d.asked.items c.args.request.now c.carry_out.result c.requires (e.given told) told e.goes_on (e.base told) e.quiet e.grows)

pub returns-clause-stays : goal.returns-clause-stays
returns-clause-stays g c steady =
    let d = c.args.self.now in
    rw c.with-self.ensures (asked_stays g.D.Device.view (d.core.ghost_name, d.dev.ghost_name) (g.L.Placing.kind d.placement.now) g.K.Lending.start (old g c) (new g c) d.asked.items c.args.request.now c.carry_out.result steady c.carry_out.ensures.told)

pub returns-clause-counts : goal.returns-clause-counts
returns-clause-counts g c =
    let d = c.args.self.now in
    rw c.with-self.ensures (asked_counts g.D.Device.view (d.core.ghost_name, d.dev.ghost_name) (g.L.Placing.kind d.placement.now) g.K.Lending.start (old g c) (new g c) d.asked.items c.args.request.now g.D.Device.told _ c.carry_out.result c.carry_out.ensures.goes_on)
