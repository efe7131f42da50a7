use Rattle.std.proofs.Common.{◌≡◌, false, refl, sym, ◌∙◌, ap}
use Rattle.volume.proofs.Common.{targets_from, targets_stay, targets_gone, Volume, tables_in, told_by}
use Rattle.volume.proofs.volume.Volume.targets_from.Goals as goal

pub returns-then-is_doomed : goal.returns-then-is_doomed
returns-then-is_doomed c =
    let i = c.self.inside in
    let v = c.self.invariant in
    let t = tables_in i.header i.pointers i.counts i.live i.caps i.is_sweeping in
    let still : i.is_sweeping ≡ false = ap (λ (w : Volume). w.tables.is_sweeping) c.self.view_is ∙ c.requires.ready.1 in
    let ahead = v.ahead (ap (λ (w : Volume). w.is_ready) c.self.view_is ∙ c.requires.ready.0) in
    c.new.ensures ∙ (sym (targets_gone t v.sound still i.live i.ahead refl v.hidden ahead c.args.source c.args.start (sym c.is_doomed.ensures.value ∙ c.if-is_doomed.true))
    ∙ ap (λ (w : Volume). targets_from (told_by w).pairs c.args.source c.args.start) c.self.view_is)

pub returns-else-is_doomed : goal.returns-else-is_doomed
returns-else-is_doomed c =
    let i = c.self.inside in
    let v = c.self.invariant in
    let t = tables_in i.header i.pointers i.counts i.live i.caps i.is_sweeping in
    let still : i.is_sweeping ≡ false = ap (λ (w : Volume). w.tables.is_sweeping) c.self.view_is ∙ c.requires.ready.1 in
    let ahead = v.ahead (ap (λ (w : Volume). w.is_ready) c.self.view_is ∙ c.requires.ready.0) in
    c.targets_from.ensures ∙ (sym (targets_stay t v.sound still i.live i.ahead refl v.hidden ahead c.args.source c.args.start (sym c.is_doomed.ensures.value ∙ c.if-is_doomed.false))
    ∙ ap (λ (w : Volume). targets_from (told_by w).pairs c.args.source c.args.start) c.self.view_is)
