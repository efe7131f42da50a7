use Rattle.std.proofs.Common.{◌≡◌, false, refl, ◌∙◌, ap}
use Rattle.volume.proofs.Common.{Volume, tables_in, shown, is_live, told_by}
use Rattle.volume.proofs.volume.Volume.is_live.Goals as goal

pub returns : goal.returns
returns c =
    let i = c.self.inside in
    let v = c.self.invariant in
    let t = tables_in i.header i.pointers i.counts i.live i.caps i.is_sweeping in
    let still : i.is_sweeping ≡ false = ap (λ (w : Volume). w.tables.is_sweeping) c.self.view_is ∙ c.requires.ready.1 in
    let ahead = v.ahead (ap (λ (w : Volume). w.is_ready) c.self.view_is ∙ c.requires.ready.0) in
    c.is_live.ensures ∙ (shown t v.sound still i.live i.ahead refl v.hidden ahead c.args.block ∙ ap (λ (w : Volume). is_live (told_by w) c.args.block) c.self.view_is)
