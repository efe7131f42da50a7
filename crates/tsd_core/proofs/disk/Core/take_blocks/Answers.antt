use Rattle.std.proofs.Common.{sym, subst}
use Rattle.tsd_core.proofs.Common.{Request, IsCarriedOut, left_in}
use Rattle.tsd_core.proofs.disk.Core.take_blocks.Goals as goal

pub returns-in-Alloc : goal.returns-in-Alloc
returns-in-Alloc g c =
    subst (λ (q : Request). IsCarriedOut g.D.Device.told c.args.placement.now.kind q c.args.self.now c.alloc.new.self (g.D.Device.view c.args.dev.now) (g.D.Device.view c.alloc.new.dev) (left_in c.alloc.result c.alloc.new.into)) (sym c.in-Alloc.is)
    (c.alloc.ensures c.in-Alloc.session c.in-Alloc.shown)

pub returns-in-Contig : goal.returns-in-Contig
returns-in-Contig g c =
    subst (λ (q : Request). IsCarriedOut g.D.Device.told c.args.placement.now.kind q c.args.self.now c.contig.new.self (g.D.Device.view c.args.dev.now) (g.D.Device.view c.contig.new.dev) (left_in c.contig.result c.contig.new.into)) (sym c.in-Contig.is)
    (c.contig.ensures c.in-Contig.session c.in-Contig.shown)
