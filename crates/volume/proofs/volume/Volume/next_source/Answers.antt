use Rattle.std.proofs.Common.{◌≡◌, ℕ, Bool, false, not, ◌&&◌, List, refl, sym, ◌∙◌, ap, arith}
use Rattle.volume.proofs.Common.{holds, pairs, is_gone, blank_of, Tables, Volume, tables_in, told_by, holds_told, source_stays, source_none, source_gone}
use Rattle.volume.proofs.volume.Volume.next_source.Goals as goal

-- what is told held
told_as : (t : Tables) (es raw : List (ℕ × ℕ)) (gone : List Bool) → (blank_of t).pairs ≡ es → ((a b : ℕ) → holds (blank_of t).pairs a b ≡ (holds raw a b && not (is_gone gone a)))
    → (a b : ℕ) → holds es a b ≡ (holds raw a b && not (is_gone gone a))
told_as t es raw gone same told a b = ap (λ fs. holds fs a b) (sym same) ∙ told a b

pub returns-then-not-is_doomed : goal.returns-then-not-is_doomed
returns-then-not-is_doomed c =
    let i = c.self.inside in
    let v = c.self.invariant in
    let t = tables_in i.header i.pointers i.counts i.live i.caps i.is_sweeping in
    let still : i.is_sweeping ≡ false = ap (λ (w : Volume). w.tables.is_sweeping) c.self.view_is ∙ c.requires.ready.1 in
    let ahead = v.ahead (ap (λ (w : Volume). w.is_ready) c.self.view_is ∙ c.requires.ready.0) in
    let told = told_as t (told_by c.args.self.now).pairs (pairs i.pointers) i.ahead.gone (ap (λ (w : Volume). (told_by w).pairs) c.self.view_is) (holds_told t v.sound still i.live i.ahead refl v.hidden ahead) in
    let inv = c.loop-source.invariant in
    source_stays (told_by c.args.self.now).pairs (pairs i.pointers) (is_gone i.ahead.gone) told c.args.target c.args.start c.loop-source.from inv.none inv.behind c.in-Some.source c.in-Some.ensures
    (sym c.is_doomed.ensures.value ∙ c.if-not-is_doomed.true)

pub loop-source-preserved : goal.loop-source-preserved
loop-source-preserved c =
    let i = c.self.inside in
    let v = c.self.invariant in
    let t = tables_in i.header i.pointers i.counts i.live i.caps i.is_sweeping in
    let still : i.is_sweeping ≡ false = ap (λ (w : Volume). w.tables.is_sweeping) c.self.view_is ∙ c.requires.ready.1 in
    let ahead = v.ahead (ap (λ (w : Volume). w.is_ready) c.self.view_is ∙ c.requires.ready.0) in
    let told = told_as t (told_by c.args.self.now).pairs (pairs i.pointers) i.ahead.gone (ap (λ (w : Volume). (told_by w).pairs) c.self.view_is) (holds_told t v.sound still i.live i.ahead refl v.hidden ahead) in
    let inv = c.loop-source.invariant in
    record {
      behind = let next = c.in-Some.ensures in let from = next.from in let was = inv.behind in omega (arith, from, was);
      none = source_gone (told_by c.args.self.now).pairs (pairs i.pointers) (is_gone i.ahead.gone) told c.args.target c.args.start c.loop-source.from inv.none inv.behind c.in-Some.source c.in-Some.ensures
          (sym c.is_doomed.ensures.value ∙ c.if-not-is_doomed.false);
    }

pub returns : goal.returns
returns c =
    let i = c.self.inside in
    let v = c.self.invariant in
    let t = tables_in i.header i.pointers i.counts i.live i.caps i.is_sweeping in
    let still : i.is_sweeping ≡ false = ap (λ (w : Volume). w.tables.is_sweeping) c.self.view_is ∙ c.requires.ready.1 in
    let ahead = v.ahead (ap (λ (w : Volume). w.is_ready) c.self.view_is ∙ c.requires.ready.0) in
    let told = told_as t (told_by c.args.self.now).pairs (pairs i.pointers) i.ahead.gone (ap (λ (w : Volume). (told_by w).pairs) c.self.view_is) (holds_told t v.sound still i.live i.ahead refl v.hidden ahead) in
    let inv = c.loop-source.invariant in
    source_none (told_by c.args.self.now).pairs (pairs i.pointers) (is_gone i.ahead.gone) told c.args.target c.args.start c.loop-source.from inv.none inv.behind c.in_default.ensures
