use Rattle.std.proofs.Common.{◌≡◌, false, refl, ◌∙◌, ap}
use Rattle.volume.proofs.Common.{blank_of, Volume, tables_in, told_by, map_of, free_count, free_count_same}
use Rattle.volume.proofs.volume.Volume.free_count.Goals as goal

pub returns : goal.returns
returns c =
    let i = c.self.inside in
    let v = c.self.invariant in
    let t = tables_in i.header i.pointers i.counts i.live i.caps i.is_sweeping in
    let still : i.is_sweeping ≡ false = ap (λ (w : Volume). w.tables.is_sweeping) c.self.view_is ∙ c.requires.ready.1 in
    let ahead = v.ahead (ap (λ (w : Volume). w.is_ready) c.self.view_is ∙ c.requires.ready.0) in
    let told = map_of t v.sound still i.live i.ahead refl v.hidden ahead (c.free_count.ensures.table.each_unhidden ∙ ap (λ g. g.blocks) v.live) in
    c.free_count.ensures.value ∙ (free_count_same i.live.unhidden (blank_of t) told ∙ ap (λ (w : Volume). free_count (told_by w)) c.self.view_is)
