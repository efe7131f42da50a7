use Rattle.std.proofs.Common.{◌≡◌, Bool, true, false, not, ◌&&◌, refl, sym, ◌∙◌, ap}
use Rattle.volume.proofs.Common.{holds, holds_told, Volume, tables_in, told_by}
use Rattle.volume.proofs.volume.Volume.has.Goals as goal

-- held, and not from a doomed block
both : (held lost told h d : Bool) → told ≡ (h && not d) → held ≡ h → lost ≡ d → (held ≡ true → not lost ≡ told) × (held ≡ false → false ≡ told)
both held lost told h d is eh ed = (
  λ yes. (λ i. not (ed i)) ∙ sym (is ∙ ap (λ s. s && not d) (sym eh ∙ yes)),
  λ no. sym (is ∙ ap (λ s. s && not d) (sym eh ∙ no)),
)

pub returns-then-is_held : goal.returns-then-is_held
returns-then-is_held c =
    let i = c.self.inside in
    let v = c.self.invariant in
    let t = tables_in i.header i.pointers i.counts i.live i.caps i.is_sweeping in
    let still : i.is_sweeping ≡ false = ap (λ (w : Volume). w.tables.is_sweeping) c.self.view_is ∙ c.requires.ready.1 in
    let ahead = v.ahead (ap (λ (w : Volume). w.is_ready) c.self.view_is ∙ c.requires.ready.0) in
    (both c.has-is_held.result c.is_doomed-is_doomed.result _ _ _ (holds_told t v.sound still i.live i.ahead refl v.hidden ahead c.args.source c.args.target) c.has-is_held.ensures c.is_doomed-is_doomed.ensures.value).0 c.if-is_held.true
    ∙ ap (λ (w : Volume). holds (told_by w).pairs c.args.source c.args.target) c.self.view_is

pub returns-else-is_held : goal.returns-else-is_held
returns-else-is_held c =
    let i = c.self.inside in
    let v = c.self.invariant in
    let t = tables_in i.header i.pointers i.counts i.live i.caps i.is_sweeping in
    let still : i.is_sweeping ≡ false = ap (λ (w : Volume). w.tables.is_sweeping) c.self.view_is ∙ c.requires.ready.1 in
    let ahead = v.ahead (ap (λ (w : Volume). w.is_ready) c.self.view_is ∙ c.requires.ready.0) in
    c.if-is_held.false ∙ (both c.has-is_held.result c.is_doomed-is_doomed.result _ _ _ (holds_told t v.sound still i.live i.ahead refl v.hidden ahead c.args.source c.args.target) c.has-is_held.ensures c.is_doomed-is_doomed.ensures.value).1 c.if-is_held.false
    ∙ ap (λ (w : Volume). holds (told_by w).pairs c.args.source c.args.target) c.self.view_is
