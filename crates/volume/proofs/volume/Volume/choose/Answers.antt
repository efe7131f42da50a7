use Rattle.std.proofs.Common.{◌≡◌, ℕ, ◌≤◌, Bool, false, List, refl, ◌∙◌, ap, subst, Result, Ok, Err}
use Rattle.volume.proofs.Common.{IfOk, IfErr, OnOk, World, free_count, chosen, PlaceKind, IsShortIn, free_in, IsMapOf, chosen_same, free_count_same, blank_of, IsShort, map_of, Volume, tables_in, told_by}
use Rattle.tsd_model.specs.declared.requests.Hint.TheVariants as hint_is
use Rattle.block_alloc.specs.Choosing.{chosen as chosen_in}
use Rattle.block_alloc.specs.declared.choose.Short.{Short}
use Rattle.volume.proofs.volume.Volume.choose.Goals as goal

-- what the map chooses the world would choose
same_chosen : (r : Result (List ℕ) Short) (live : List Bool) (w v : World) (kind : PlaceKind) (hint count : ℕ) → IsMapOf live w → w ≡ v → IfOk r (λ bs. bs ≡ chosen_in kind live hint count) → IfOk r (λ bs. bs ≡ chosen kind v (hint_is.At hint) count)
same_chosen (Ok bs) live w v kind hint count map same e = e ∙ (chosen_same live w map kind (hint_is.At hint) count ∙ ap (λ (u : World). chosen kind u (hint_is.At hint) count) same)
same_chosen (Err s) live w v kind hint count map same e = tt

same_enough : (r : Result (List ℕ) Short) (live : List Bool) (w v : World) (count : ℕ) → IsMapOf live w → w ≡ v → OnOk r (count ≤ free_in live) → OnOk r (count ≤ free_count v)
same_enough (Ok bs) live w v count map same h = subst (λ (n : ℕ). count ≤ n) (free_count_same live w map ∙ ap free_count same) h
same_enough (Err s) live w v count map same h = tt

same_refused : (r : Result (List ℕ) Short) (live : List Bool) (w v : World) (count : ℕ) → IsMapOf live w → w ≡ v → IfErr r (λ s. IsShortIn live count s.free s.wanted) → IfErr r (λ s. IsShort v count s.free s.wanted)
same_refused (Ok bs) live w v count map same h = tt
same_refused (Err s) live w v count map same h = record { free_is = h.free_is ∙ (free_count_same live w map ∙ ap free_count same); wanted_is = h.wanted_is; fewer = h.fewer }

pub returns-clause-chosen : goal.returns-clause-chosen
returns-clause-chosen g c =
    let i = c.self.inside in
    let v = c.self.invariant in
    let t = tables_in i.header i.pointers i.counts i.live i.caps i.is_sweeping in
    let still : i.is_sweeping ≡ false = ap (λ (w : Volume). w.tables.is_sweeping) c.self.view_is ∙ c.requires.ready.1 in
    let ahead = v.ahead (ap (λ (w : Volume). w.is_ready) c.self.view_is ∙ c.requires.ready.0) in
    let told = map_of t v.sound still i.live i.ahead refl v.hidden ahead (c.choose.ensures.table.each_unhidden ∙ ap (λ g. g.blocks) v.live) in
    same_chosen c.choose.result i.live.unhidden (blank_of t) (told_by c.args.self.now) c.args.placement.now.kind c.args.hint c.args.count told (ap told_by c.self.view_is) c.choose.ensures.chosen

pub returns-clause-enough : goal.returns-clause-enough
returns-clause-enough g c =
    let i = c.self.inside in
    let v = c.self.invariant in
    let t = tables_in i.header i.pointers i.counts i.live i.caps i.is_sweeping in
    let still : i.is_sweeping ≡ false = ap (λ (w : Volume). w.tables.is_sweeping) c.self.view_is ∙ c.requires.ready.1 in
    let ahead = v.ahead (ap (λ (w : Volume). w.is_ready) c.self.view_is ∙ c.requires.ready.0) in
    let told = map_of t v.sound still i.live i.ahead refl v.hidden ahead (c.choose.ensures.table.each_unhidden ∙ ap (λ g. g.blocks) v.live) in
    same_enough c.choose.result i.live.unhidden (blank_of t) (told_by c.args.self.now) c.args.count told (ap told_by c.self.view_is) c.choose.ensures.enough

pub returns-clause-refused : goal.returns-clause-refused
returns-clause-refused g c =
    let i = c.self.inside in
    let v = c.self.invariant in
    let t = tables_in i.header i.pointers i.counts i.live i.caps i.is_sweeping in
    let still : i.is_sweeping ≡ false = ap (λ (w : Volume). w.tables.is_sweeping) c.self.view_is ∙ c.requires.ready.1 in
    let ahead = v.ahead (ap (λ (w : Volume). w.is_ready) c.self.view_is ∙ c.requires.ready.0) in
    let told = map_of t v.sound still i.live i.ahead refl v.hidden ahead (c.choose.ensures.table.each_unhidden ∙ ap (λ g. g.blocks) v.live) in
    same_refused c.choose.result i.live.unhidden (blank_of t) (told_by c.args.self.now) c.args.count told (ap told_by c.self.view_is) c.choose.ensures.refused
