use Rattle.std.proofs.Common.{◌≡◌, ◌∙◌, inl, List, true, sym, ap, position}
use Rattle.image_layout.specs.declared.offset.Patch.{Patch}
use Rattle.gathering.proofs.Found.{found_held, is_at}
use Rattle.gathering.proofs.homes.Homes.has_room_for.Goals as goal

pub returns-then-is_some-clause-has : goal.returns-then-is_some-clause-has
returns-then-is_some-clause-has c here =
    let ps : List Patch = c.args.self.now.patches.items in
    inl (found_held c.args.sector ps c.index_of.result (c.index_of.ensures ∙ ap (position (is_at c.args.sector)) c.as_slice.ensures.value) (sym c.is_some.ensures ∙ here))
