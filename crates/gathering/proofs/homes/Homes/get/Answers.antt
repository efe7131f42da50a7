use Rattle.std.proofs.Common.{◌≡◌, ◌∙◌, List, Some, None, sym, ap, position}
use Rattle.image_layout.specs.declared.offset.Patch.{Patch}
use Rattle.gathering.proofs.Found.{is_at, found_at, found_nowhere}
use Rattle.gathering.proofs.homes.Homes.get.Goals as goal

pub returns-in-Some-clause-some : goal.returns-in-Some-clause-some
returns-in-Some-clause-some c x =
    let ps : List Patch = c.args.self.now.patches.items in
    let at : position (is_at c.args.sector) ps ≡ Some c.in-Some.index = ap (position (is_at c.args.sector)) (sym c.as_slice.ensures.value) ∙ sym c.index_of.ensures ∙ c.in-Some.is in
    found_at c.args.sector ps c.in-Some.index c.index.result.now c.requires at x ∙ ap (λ (p : Patch). p.bytes) (sym c.index.ensures)

pub returns-in-None-clause-none : goal.returns-in-None-clause-none
returns-in-None-clause-none c =
    let ps : List Patch = c.args.self.now.patches.items in
    let at : position (is_at c.args.sector) ps ≡ None = ap (position (is_at c.args.sector)) (sym c.as_slice.ensures.value) ∙ sym c.index_of.ensures ∙ c.in-None.is in
    found_nowhere c.args.sector ps at
