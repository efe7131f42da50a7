use Rattle.volume.proofs.Common.{checkpoint_writes, no_op, none_within, Geometry, Volume, JournalRecord, patches_of, AreMissed, ok_map, free_inside}
use Rattle.std.proofs.Common.{◌≡◌, List, [], inr, ◌<◌, ◌∙◌, ap, sym, subst}
use Rattle.volume.proofs.volume.Volume.make_way.Goals as goal

pub holds_data-requires : goal.holds_data-requires
holds_data-requires g c =
    let size = c.of.ensures ∙ ap (λ (w : Volume). w.tables.geometry) c.self.view_is in
    let t = c.args.self.now.tables in
    record { inside = λ b in_. subst (λ (k : Geometry). b < k.blocks) (sym size) (free_inside t.live t.geometry.blocks c.args.blocks.now b c.requires.free in_) }

pub returns-else-holds_data-clause-operation : goal.returns-else-holds_data-clause-operation
returns-else-holds_data-clause-operation g c =
    let told = g.D.Device.told in
    let view = g.D.Device.view in
    no_op told c.args.self.now (view c.args.dev.now) tt (g.met.D.Device.sound c.args.dev.now) c.requires.at c.requires.unspent

pub returns-else-holds_data-clause-cost : goal.returns-else-holds_data-clause-cost
returns-else-holds_data-clause-cost g c =
    let told = g.D.Device.told in
    let view = g.D.Device.view in
    none_within told c.args.self.now (view c.args.dev.now) tt (checkpoint_writes c.args.self.now.ring) (g.met.D.Device.sound c.args.dev.now) c.requires.at

pub returns-then-holds_data-clause-way : goal.returns-then-holds_data-clause-way
returns-then-holds_data-clause-way g c =
    let size = c.of.ensures ∙ ap (λ (w : Volume). w.tables.geometry) c.self.view_is in
    let ring = ap (λ (w : Volume). w.ring) c.self.view_is in
    let held : ¬ AreMissed c.args.self.now.tables.geometry (patches_of c.args.self.now.ring) c.args.blocks.now =
    subst (λ (k : Geometry). ¬ AreMissed k (patches_of c.args.self.now.ring) c.args.blocks.now) size
    (subst (λ (rs : List JournalRecord). ¬ AreMissed c.of.result.geometry (patches_of rs) c.args.blocks.now) ring (c.holds_data.ensures.held c.if-holds_data.true)) in
    ok_map c.empty_ring.result _ _ (λ (same : c.empty_ring.new.self ≡ record c.args.self.now { ring = [] }). inr (ap (λ (w : Volume). w.ring) same, held)) c.empty_ring.ensures.same
