use Rattle.std.proofs.Common.{◌≡◌, ℕ, ◌≤◌, Bool, false, List, refl, sym, ◌∙◌, ap, subst, Result, Ok, Err, Some}
use Rattle.volume.proofs.Common.{IfOk, IfErr, OnOk, World, free_count, chosen_run, runs, PlaceKind, IsRefusalIn, chosen_in, free_in, IsMapOf, chosen_run_same, runs_same, free_count_same, blank_of, IsRunRefusal, map_of, Volume, tables_in, told_by}
use Rattle.tsd_model.specs.declared.requests.Hint.TheVariants as hint_is
use Rattle.block_alloc.specs.declared.choose.RunRefusal.{RunRefusal}
use Rattle.block_alloc.specs.declared.choose.RunRefusal.TheVariants as refusal
use Rattle.volume.proofs.volume.Volume.choose_run.Goals as goal

-- what the map chooses the world would choose
same_chosen : (r : Result ℕ RunRefusal) (live : List Bool) (w v : World) (kind : PlaceKind) (hint count : ℕ) → IsMapOf live w → w ≡ v → IfOk r (λ b. chosen_in kind live hint count ≡ Some b) → IfOk r (λ b. chosen_run kind v (hint_is.At hint) count ≡ Some b)
same_chosen (Ok b) live w v kind hint count map same e = sym (chosen_run_same live w map kind (hint_is.At hint) count ∙ ap (λ (u : World). chosen_run kind u (hint_is.At hint) count) same) ∙ e
same_chosen (Err s) live w v kind hint count map same e = tt

same_enough : (r : Result ℕ RunRefusal) (live : List Bool) (w v : World) (count : ℕ) → IsMapOf live w → w ≡ v → OnOk r (count ≤ free_in live) → OnOk r (count ≤ free_count v)
same_enough (Ok b) live w v count map same h = subst (λ (n : ℕ). count ≤ n) (free_count_same live w map ∙ ap free_count same) h
same_enough (Err s) live w v count map same h = tt

same_refused : (r : Result ℕ RunRefusal) (live : List Bool) (w v : World) (count : ℕ) → IsMapOf live w → w ≡ v → IfErr r (IsRefusalIn live count) → IfErr r (IsRunRefusal v count)
same_refused (Ok b) live w v count map same h = tt
same_refused (Err (refusal.Short free wanted)) live w v count map same h = record { free_is = h.free_is ∙ (free_count_same live w map ∙ ap free_count same); wanted_is = h.wanted_is; fewer = h.fewer }
same_refused (Err (refusal.NoRun free wanted)) live w v count map same h = record {
  free_is = h.free_is ∙ (free_count_same live w map ∙ ap free_count same);
  wanted_is = h.wanted_is;
  enough = h.enough;
  none = sym (runs_same live w map count ∙ ap (λ (u : World). runs u count) same) ∙ h.none;
}

pub returns-clause-chosen : goal.returns-clause-chosen
returns-clause-chosen g c =
    let i = c.self.inside in
    let v = c.self.invariant in
    let t = tables_in i.header i.pointers i.counts i.live i.caps i.is_sweeping in
    let still : i.is_sweeping ≡ false = ap (λ (w : Volume). w.tables.is_sweeping) c.self.view_is ∙ c.requires.ready.1 in
    let ahead = v.ahead (ap (λ (w : Volume). w.is_ready) c.self.view_is ∙ c.requires.ready.0) in
    let told = map_of t v.sound still i.live i.ahead refl v.hidden ahead (c.choose_run.ensures.table.each_unhidden ∙ ap (λ g. g.blocks) v.live) in
    same_chosen c.choose_run.result i.live.unhidden (blank_of t) (told_by c.args.self.now) c.args.placement.now.kind c.args.hint c.args.count told (ap told_by c.self.view_is) c.choose_run.ensures.chosen

pub returns-clause-enough : goal.returns-clause-enough
returns-clause-enough g c =
    let i = c.self.inside in
    let v = c.self.invariant in
    let t = tables_in i.header i.pointers i.counts i.live i.caps i.is_sweeping in
    let still : i.is_sweeping ≡ false = ap (λ (w : Volume). w.tables.is_sweeping) c.self.view_is ∙ c.requires.ready.1 in
    let ahead = v.ahead (ap (λ (w : Volume). w.is_ready) c.self.view_is ∙ c.requires.ready.0) in
    let told = map_of t v.sound still i.live i.ahead refl v.hidden ahead (c.choose_run.ensures.table.each_unhidden ∙ ap (λ g. g.blocks) v.live) in
    same_enough c.choose_run.result i.live.unhidden (blank_of t) (told_by c.args.self.now) c.args.count told (ap told_by c.self.view_is) c.choose_run.ensures.enough

pub returns-clause-refused : goal.returns-clause-refused
returns-clause-refused g c =
    let i = c.self.inside in
    let v = c.self.invariant in
    let t = tables_in i.header i.pointers i.counts i.live i.caps i.is_sweeping in
    let still : i.is_sweeping ≡ false = ap (λ (w : Volume). w.tables.is_sweeping) c.self.view_is ∙ c.requires.ready.1 in
    let ahead = v.ahead (ap (λ (w : Volume). w.is_ready) c.self.view_is ∙ c.requires.ready.0) in
    let told = map_of t v.sound still i.live i.ahead refl v.hidden ahead (c.choose_run.ensures.table.each_unhidden ∙ ap (λ g. g.blocks) v.live) in
    same_refused c.choose_run.result i.live.unhidden (blank_of t) (told_by c.args.self.now) c.args.count told (ap told_by c.self.view_is) c.choose_run.ensures.refused
