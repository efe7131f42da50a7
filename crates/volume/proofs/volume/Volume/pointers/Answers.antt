use Rattle.std.proofs.Common.{◌≡◌, false, length, refl, ◌∙◌, ap, arith}
use Rattle.volume.proofs.Common.{Volume, tables_in, told_by, pairs_told}
use Rattle.volume.proofs.volume.Volume.pointers.Goals as goal

pub overflow_sub-result : goal.overflow_sub-result
overflow_sub-result c =
    let i = c.self.inside in
    let v = c.self.invariant in
    let t = tables_in i.header i.pointers i.counts i.live i.caps i.is_sweeping in
    let still : i.is_sweeping ≡ false = ap (λ (w : Volume). w.tables.is_sweeping) c.self.view_is ∙ c.requires.ready.1 in
    let ahead = v.ahead (ap (λ (w : Volume). w.is_ready) c.self.view_is ∙ c.requires.ready.0) in
    let all = pairs_told t v.sound still i.live i.ahead refl v.hidden ahead in
    omega (arith, all)

pub returns : goal.returns
returns c =
    let i = c.self.inside in
    let v = c.self.invariant in
    let t = tables_in i.header i.pointers i.counts i.live i.caps i.is_sweeping in
    let still : i.is_sweeping ≡ false = ap (λ (w : Volume). w.tables.is_sweeping) c.self.view_is ∙ c.requires.ready.1 in
    let ahead = v.ahead (ap (λ (w : Volume). w.is_ready) c.self.view_is ∙ c.requires.ready.0) in
    let all = pairs_told t v.sound still i.live i.ahead refl v.hidden ahead in
    let same = ap (λ (w : Volume). length (told_by w).pairs) c.self.view_is in
    omega (arith, all, same)
