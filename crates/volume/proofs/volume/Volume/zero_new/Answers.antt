use Rattle.std.proofs.Common.{◌≡◌, ◌<◌, ℕ, true, ◌∙◌, ap, sym, subst}
use Rattle.volume.proofs.Common.{Geometry, has_number, IsConfined, Volume, is_data, data_confined, ok_map, free_inside, data_unused, zero_done, zeroed_at, journal_low, unused_owed, on_ok}
use Rattle.image_device.specs.Image.{zeros}
use Rattle.image_layout.specs.Offsets.{data_sector}
use Rattle.volume_laws.proofs.Loose.{unused_moments}
use Rattle.volume.proofs.volume.Volume.zero_new.Goals as goal

pub zero_blocks-outcome-requires : goal.zero_blocks-outcome-requires
zero_blocks-outcome-requires g c =
    let size = c.of.ensures ∙ ap (λ (w : Volume). w.tables.geometry) c.self.view_is in
    let t = c.args.self.now.tables in
    record { inside = λ b in_. subst (λ (k : Geometry). b < k.blocks) (sym size) (free_inside t.live t.geometry.blocks c.args.blocks.now b c.requires.free in_) }

pub returns-clause-zeroed : goal.returns-clause-zeroed
returns-clause-zeroed g c told =
    let view = g.D.Device.view in
    let size = c.of.ensures ∙ ap (λ (w : Volume). w.tables.geometry) c.self.view_is in
    let old = view c.args.dev.now in
    let new = view c.zero_blocks-outcome.new.dev in
    let vol = c.args.self.now in
    ok_map c.zero_blocks-outcome.result _ _
    (λ written. zeroed_at vol _ old new c.args.blocks.now (ap (λ (w : Volume). w.tables) c.self.view_is) (ap (λ (w : Volume). w.ring) c.self.view_is) (c.requires.at told) c.requires.free c.requires.missed
    (subst (λ (k : Geometry). IsConfined (is_data k c.args.blocks.now) old new) size (c.zero_blocks-outcome.ensures.confined told))
    (subst (λ (k : Geometry). (b part : ℕ) → has_number c.args.blocks.now b ≡ true → part < k.sectors → new.reads (data_sector k b part) ≡ zeros) size written))
    (c.zero_blocks-outcome.ensures.zeroed told)

pub returns-clause-done : goal.returns-clause-done
returns-clause-done g c told =
    let view = g.D.Device.view in
    let size = c.of.ensures ∙ ap (λ (w : Volume). w.tables.geometry) c.self.view_is in
    let old = view c.args.dev.now in
    let new = view c.zero_blocks-outcome.new.dev in
    on_ok c.zero_blocks-outcome.result (zero_done c.args.self.now old new c.args.blocks.now (c.requires.at told) c.requires.free
    (subst (λ (k : Geometry). IsConfined (is_data k c.args.blocks.now) old new) size (c.zero_blocks-outcome.ensures.confined told)))

pub returns-clause-any_moment : goal.returns-clause-any_moment
returns-clause-any_moment g c told =
    let view = g.D.Device.view in
    let size = c.of.ensures ∙ ap (λ (w : Volume). w.tables.geometry) c.self.view_is in
    let old = view c.args.dev.now in
    let new = view c.zero_blocks-outcome.new.dev in
    unused_moments c.args.self.now old new (is_data c.args.self.now.tables.geometry c.args.blocks.now) (c.requires.at told) (data_unused c.args.self.now old c.args.blocks.now (c.requires.at told) c.requires.free)
    (subst (λ (k : Geometry). IsConfined (is_data k c.args.blocks.now) old new) size (c.zero_blocks-outcome.ensures.confined told))

pub returns-clause-any_owed : goal.returns-clause-any_owed
returns-clause-any_owed g c told =
    let view = g.D.Device.view in
    let size = c.of.ensures ∙ ap (λ (w : Volume). w.tables.geometry) c.self.view_is in
    let old = view c.args.dev.now in
    let new = view c.zero_blocks-outcome.new.dev in
    unused_owed c.args.self.now old new (is_data c.args.self.now.tables.geometry c.args.blocks.now) (c.requires.at told) (data_unused c.args.self.now old c.args.blocks.now (c.requires.at told) c.requires.free)
    (subst (λ (k : Geometry). IsConfined (is_data k c.args.blocks.now) old new) size (c.zero_blocks-outcome.ensures.confined told))

pub returns-clause-data_kept : goal.returns-clause-data_kept
returns-clause-data_kept g c told =
    let view = g.D.Device.view in
    let size = c.of.ensures ∙ ap (λ (w : Volume). w.tables.geometry) c.self.view_is in
    let old = view c.args.dev.now in
    let new = view c.zero_blocks-outcome.new.dev in
    let k = c.args.self.now.tables.geometry in
    data_confined c.zero_blocks-outcome.result k c.args.blocks.now (is_data k c.args.blocks.now) old new (c.requires.at told).firm (journal_low k c.args.blocks.now) (λ n from out. out)
    (subst (λ (k : Geometry). IsConfined (is_data k c.args.blocks.now) old new) size (c.zero_blocks-outcome.ensures.confined told))
