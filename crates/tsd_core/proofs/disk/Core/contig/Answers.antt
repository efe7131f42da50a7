use Rattle.std.proofs.Common.{◌≡◌, ℕ, Some, length, sym, ◌∙◌, ap, subst, arith}
use Rattle.tsd_core.proofs.Common.{chosen_run, hint_block, run_at, World, Hint, PlaceKind, length-range, told_by, Core, told_world, AreToBeTaken, IsKnown}
use Rattle.tsd_model.specs.declared.requests.Hint.TheVariants as hint
use Rattle.tsd_core.proofs.Choosing.{new_run, run_inside}
use Rattle.tsd_core.proofs.disk.Core.contig.Goals as goal

-- the run that was chosen for the hint's block is that for the hint
picked : (kind : PlaceKind) (w : World) (h : Hint) (b count first : ℕ) → b ≡ hint_block h → chosen_run kind w (hint.At b) count ≡ Some first → chosen_run kind w h count ≡ Some first
picked kind w h b count first same e = sym (ap (λ k. chosen_run kind w (hint.At k) count) same) ∙ e

-- the core before, as its fields are
before : (P : Core → Type 0) (c d : Core) → c ≡ d → P c → P d
before P c d same p = subst P same p

pub run_of-requires-clause-fits : goal.run_of-requires-clause-fits
run_of-requires-clause-fits g c =
    let kind = c.args.placement.now.kind in
    let known : IsKnown c.self.inside.volume = subst (λ (x : Core). IsKnown x.volume) (sym c.self.view_is) c.requires.known in
    let t = told_by c.self.inside.volume in
    let e = picked kind t c.args.hint.now c.hint_block.result c.args.count c.in-Ok.first c.hint_block.ensures c.in-Ok.ensures.chosen in
    omega (arith, run_inside kind t c.args.hint.now c.args.count c.in-Ok.first c.requires.count.0 e, known.sized.each_block, known.sized.lawful.blocks.1)

pub grow-requires-clause-new : goal.grow-requires-clause-new
grow-requires-clause-new g c =
    let kind = c.args.placement.now.kind in
    let t = told_by c.self.inside.volume in
    let e = picked kind t c.args.hint.now c.hint_block.result c.args.count c.in-Ok.first c.hint_block.ensures c.in-Ok.ensures.chosen in
    before (λ (x : Core). AreToBeTaken (told_world x) c.run_of.result) (record { volume = c.self.inside.volume; grants = c.self.inside.grants }) c.args.self.now c.self.view_is
    (subst (AreToBeTaken t) (sym c.run_of.ensures) (new_run kind t c.args.hint.now c.args.count c.in-Ok.first c.requires.count.0 c.requires.count.1 e))

pub grow-requires-clause-room : goal.grow-requires-clause-room
grow-requires-clause-room g c = omega (arith, c.requires.room, ap length c.run_of.ensures, length-range c.in-Ok.first c.args.count)

pub returns-in-Ok : goal.returns-in-Ok
returns-in-Ok g c = λ session shown.
    let kind = c.args.placement.now.kind in
    let t = told_by c.self.inside.volume in
    let e = picked kind t c.args.hint.now c.hint_block.result c.args.count c.in-Ok.first c.hint_block.ensures c.in-Ok.ensures.chosen in
    let run : c.run_of.result ≡ run_at (chosen_run kind t c.args.hint.now c.args.count) c.args.count = c.run_of.ensures ∙ ap (λ o. run_at o c.args.count) (sym e) in
    c.grow.ensures.contig kind session shown c.args.hint.now c.args.count
    (before (λ (x : Core). c.run_of.result ≡ run_at (chosen_run kind (told_world x) c.args.hint.now c.args.count) c.args.count) (record { volume = c.self.inside.volume; grants = c.self.inside.grants }) c.args.self.now c.self.view_is run)
