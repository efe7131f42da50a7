use Rattle.std.proofs.Common.{ap, ◌∙◌}
use Rattle.pointer_table.proofs.Common.{count_by, is_some, slots_in}
use Rattle.pointer_table.proofs.RawLaws.{count_all}
use Rattle.pointer_table.proofs.slots.Slots.count_held.Goals as goal

pub returns : goal.returns
returns c =
    c.count_held.ensures
    ∙ (ap (λ items. count_by is_some (slots_in items)) c.deref.ensures.value ∙ (count_all c.self.inside.count c.self.inside.items.items ∙ ap (count_by is_some) c.self.view_is))
